use Rattle.system.proofs.Parked.{none_parked}
use Rattle.system.proofs.parking.Parking.new.Goals as goal

pub returns : goal.returns
returns c n p = none_parked 32 16 n p
