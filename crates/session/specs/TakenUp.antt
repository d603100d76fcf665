-- A parked place is taken up, or there is none.
use Rattle.std.specs.Prelude.{◌≡◌, ℕ, true, false}
use Rattle.protocol.specs.Moments.{Moment, Refusal}
use Rattle.system.specs.declared.drawn.Drawn.{Drawn}
use Rattle.system.specs.declared.parking.Parking.{Parking}
use Rattle.system.specs.Parked.{is_parked, parking}
use Rattle.system.specs.Undrawn.{Undrawn}

-- the token of the place, which was parked and is so no more
pub record TakenUp (old new : Parking) (n p : ℕ) (drawn : Drawn) : Type 0 where
  pub node : drawn.node.index ≡ n
  pub place : drawn.place ≡ p
  pub was : is_parked old.places n p ≡ true
  pub leaves : new.places ≡ parking old.places n p false

-- the place was not parked, and the memory says why it is not drawn
pub record NoneTakenUp (m : Moment) (old new : Parking) (n p : ℕ) (why : Refusal) : Type 0 where
  pub was : is_parked old.places n p ≡ false
  pub leaves : new ≡ old
  pub undrawn : Undrawn m n why
