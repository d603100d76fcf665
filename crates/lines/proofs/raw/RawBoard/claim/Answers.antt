use Rattle.std.proofs.Common.{◌≡◌, arith, ℕ, Option, Some, None, rules, ◌∙◌, ap, sym, subst, length}
use Rattle.std.specs.Option.{MatchOption}
use borrow.Author.Tests.{tests}
use Rattle.std.proofs.lemmas.List.{length-map}
use Rattle.bounded.specs.Listed.{listed}
use Rattle.rounds.specs.Rounds.{first_round}
use Rattle.rounds.proofs.Rounds.{finds_first}
use Rattle.lines.specs.Model.{line_at, is_empty, is_filled, or_else}
use Rattle.lines.specs.Plain.{plain_line}
use Rattle.lines.specs.Raws.{raw_tables}
use Rattle.lines.proofs.raw.RawBoard.claim.Goals as goal

-- the answer where the first search found nothing, and else what it found
else_by : (o p : Option ℕ) → o ≡ p → (r q : Option ℕ) → MatchOption o (r ≡ q) (λ x. r ≡ Some x) → r ≡ or_else p q
else_by None p e r q h = h ∙ ap (λ p. or_else p q) e
else_by (Some x) p e r q h = h ∙ ap (λ p. or_else p q) e

pub returns : goal.returns
returns c =
    let t = raw_tables c.args.self.now in
    let n : c.len-lines.result ≡ length t.lines = c.len-lines.ensures.value ∙ sym (length-map (listed c.args.self.now.lines) plain_line) in
    let e : c.find-empty.result ≡ first_round (λ i. is_empty (line_at t i)) c.len-lines.result t.hand =
    finds_first (λ i. is_empty (line_at t i)) c.len-lines.result (omega arith) _ _ (λ i b q low k. search (rules, tests)) t.hand _ _ _ (omega arith) c.new.ensures.value c.find-empty.ensures.ran in
    subst (λ n. c.or_else.result ≡ or_else (first_round (λ i. is_empty (line_at t i)) n t.hand) (first_round (λ i. is_filled (line_at t i)) n t.hand)) n (else_by _ _ e _ _ c.or_else.ensures)
