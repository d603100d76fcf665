use Rattle.network.proofs.Bags.{bag_laws}
use Rattle.network.proofs.pool.Pool.new.Goals as goal

pub returns : goal.returns
returns c = record { empty = c.new.ensures; laws = bag_laws }
