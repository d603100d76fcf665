use Rattle.std.proofs.Common.{rules, arith}
use borrow.Author.Tests.{tests}
use Rattle.rounds.proofs.Rounds.{finds_first}
use Rattle.lines.specs.Model.{line_at, is_filled}
use Rattle.lines.specs.Raws.{raw_tables}
use Rattle.lines.proofs.raw.fn.RawBoard.claim.or_else.Goals as goal

pub returns : goal.returns
returns c =
    finds_first (λ i. is_filled (line_at (raw_tables c.captures.self.now) i)) c.captures.lines (omega arith) _ _ (λ i b q low k. search (rules, tests)) c.captures.hand _ _ _ (omega arith) c.new.ensures.value c.find.ensures.ran
