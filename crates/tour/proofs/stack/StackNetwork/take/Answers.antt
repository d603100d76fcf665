use Rattle.std.proofs.Common.{rules}
use Rattle.bounded.specs.Listed.{listed}
use Rattle.network.proofs.Bags.{taken_at}
use Rattle.tour.proofs.stack.StackNetwork.take.Goals as goal

pub returns-clause-bag : goal.returns-clause-bag
returns-clause-bag c =
    let e = c.remove.ensures in taken_at c.in_ok-last.last (listed c.args.self.now.held) _ _ (λ some. search rules) (e.answer, e.after)
