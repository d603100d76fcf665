use Rattle.std.proofs.Common.{refl}
use Rattle.home.proofs.Sets.{listing}
use Rattle.home.proofs.set.NodeSet.members.Goals as goal

pub returns : goal.returns
returns c = record { value = refl; law = listing c.args.self.mask }
