use Rattle.script.proofs.Drafted.{number_more, numbers_all, small_each}
use Rattle.script.proofs.draft.Draft.of.Goals as goal

pub loop-n-preserved : goal.loop-n-preserved
loop-n-preserved c = number_more _ _ _ _ _ c.loop-n-test.true c.loop-n.invariant c.number.ensures.wrote

pub returns : goal.returns
returns c =
    let small = small_each _ (λ i. (c.type_inv.numbers i).fits) in
    record { line = numbers_all _ _ _ _ _ _ _ c.new-line.ensures c.text.ensures c.loop-n.invariant c.push.ensures c.loop-n-test.false c.requires.0 c.requires.1 small; small = small }
