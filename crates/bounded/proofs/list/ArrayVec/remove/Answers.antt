use Rattle.std.proofs.Common.{arith}
use Rattle.bounded.proofs.Listed.{moved_from}
use Rattle.bounded.proofs.list.ArrayVec.remove.Goals as goal

pub returns-clause-after : goal.returns-clause-after
returns-clause-after g c =
    let s = c.args.self.now in
    moved_from s.items _ s.len c.args.i _ c.copy_within.ensures.after (omega arith) (omega arith) (omega arith)
