use Rattle.std.proofs.Common.{rules, ◌∙◌, ap, arith, ◌<◌, ◌^◌}
use Rattle.std.proofs.lemmas.Bool.Decides.{nat_tests}
use borrow.Author.Tests.{tests}
use Rattle.rounds.specs.Rounds.{after, walk}
use Rattle.rounds.proofs.Rounds.{finds_first}
use Rattle.lines.specs.Model.{place_at, is_free}
use Rattle.lines.specs.Raws.{raw_tables}
use Rattle.lines.proofs.raw.RawBoard.free_place.Goals as goal

pub returns : goal.returns
returns c =
    let t = raw_tables c.args.self.now in
    let i : after 32 t.last < 2 ^ 64 = grind (arith, nat_tests) in
    finds_first (λ p. is_free (place_at t p)) 32 (omega arith) _ _ (λ p b q low k. search (rules, tests)) (after 32 t.last) _ _ _ i (c.new.ensures.value ∙ ap (walk 32 32) c.one_past.ensures.value) c.find.ensures.ran
