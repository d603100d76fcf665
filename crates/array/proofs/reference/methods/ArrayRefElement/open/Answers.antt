use Rattle.std.proofs.Common.{◌∙◌, ◌/◌, ◌^◌}
use Rattle.std.proofs.lemmas.Nat.{and_mask}
use Rattle.array.specs.References.{referring}
use Rattle.array.proofs.Parts.{opens}
use Rattle.array.proofs.reference.methods.ArrayRefElement.open.Goals as goal

pub returns : goal.returns
returns c =
    let w = c.args.word in
    let made = c.new.ensures ∙ (λ i. referring (w / 2 ^ 32) (and_mask (w / 2 ^ 16) 16 i) (and_mask w 16 i)) in
    opens w record {} c.new.result c.ok_or.result made c.ok_or.ensures.value
