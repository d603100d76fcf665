use Rattle.std.proofs.Common.{arith}
use Rattle.std.proofs.Math.Seq.{take-set-lt}
use Rattle.bounded.proofs.list.ArrayVec.set.Goals as goal

pub returns-then-i-self : goal.returns-then-i-self
returns-then-i-self g c =
    let s = c.args.self.now in
    take-set-lt s.len s.items c.args.i c.args.x (omega arith)
