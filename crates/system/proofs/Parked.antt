-- No place is parked at first.
use Rattle.std.proofs.Common.{◌≡◌, ℕ, zero, suc, false, get_or, replicate, refl}
use Rattle.system.specs.Parked.{is_parked}

no_flag : (k p : ℕ) → get_or (replicate k false) p false ≡ false
no_flag zero p = refl
no_flag (suc k) zero = refl
no_flag (suc k) (suc p) = no_flag k p

pub none_parked : (places k n p : ℕ) → is_parked (replicate k (replicate places false)) n p ≡ false
none_parked places zero n p = refl
none_parked places (suc k) zero p = no_flag places p
none_parked places (suc k) (suc n) p = none_parked places k n p
