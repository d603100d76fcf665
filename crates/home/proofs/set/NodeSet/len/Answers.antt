use Rattle.std.proofs.Common.{sym, refl, arith}
use lib.Count.{ones-le}
use Rattle.home.proofs.Lowest.{members_count}
use Rattle.home.proofs.set.NodeSet.len.Goals as goal

pub overflow_cast-result : goal.overflow_cast-result
overflow_cast-result c = omega (arith, ones-le 16 c.args.self.mask (omega arith))

pub returns : goal.returns
returns c =
    let mask = c.args.self.mask in
    record { value = refl; law = sym (members_count mask (omega arith)); bound = ones-le 16 mask (omega arith) }
