use Rattle.std.proofs.Common.{refl}
use Rattle.home.proofs.Lowest.{members_none}
use Rattle.home.proofs.set.NodeSet.empty.Goals as goal

pub returns : goal.returns
returns c = record { value = refl; law = members_none }
