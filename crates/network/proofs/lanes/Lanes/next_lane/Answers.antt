use Rattle.std.proofs.Common.{rules, ◌%◌, arith}
use borrow.Author.Tests.{tests}
use Rattle.bounded.specs.Listed.{listed}
use Rattle.rounds.proofs.Rounds.{finds_first}
use Rattle.network.specs.Rules.{waits}
use Rattle.network.proofs.lanes.Lanes.next_lane.Goals as goal

pub returns : goal.returns
returns c = finds_first (waits (listed c.args.self.now.held)) 16 (omega arith) _ _ (λ i b q low k. search (rules, tests)) (c.args.pick % 16) _ _ _ (omega arith) c.new.ensures.value c.find.ensures.ran
