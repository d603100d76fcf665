-- Signed numbers as words.
use Rattle.std.specs.Prelude.{ℕ, suc, ◌-◌, ◌^◌, ℤ, pos, negsuc}

-- a negative n is n + 2^64; negsuc n is -(n + 1)
abbrev pub signed : ℤ → ℕ
signed (pos n) = n
signed (negsuc n) = 2 ^ 64 - suc n
