-- References to arrays.
use Rattle.std.specs.Prelude.{ℕ, ◌+◌, ◌*◌, ◌/◌, ◌%◌, ◌^◌, Bool, cond, ◌&&◌, Some, None, Option, nat_le}
use Rattle.array.specs.declared.reference.ArrayRef.{ArrayRef}

-- three numbers that may be a reference's
pub record Plain : Type 0 where
  pub kind : ℕ
  pub base : ℕ
  pub length : ℕ

-- the numbers of a reference
abbrev pub plain : ArrayRef → Plain
plain a = record { kind = a.kind; base = a.base; length = a.length }

-- the numbers of an array within the 1,024 cells
abbrev pub legal : Plain → Bool
legal p = nat_le 1 p.kind && nat_le p.kind 255 && nat_le 1 p.length && nat_le (p.base + p.length) 1024

-- the reference of three numbers, where they are legal
abbrev pub referring : ℕ → ℕ → ℕ → Option Plain
referring kind base length =
    let p : Plain = record { kind = kind; base = base; length = length } in
    cond (legal p) (Some p) None

-- the reference that the three parts of a word make
abbrev pub parted : ℕ → Option Plain
parted word = referring (word / 2 ^ 32) (word / 2 ^ 16 % 2 ^ 16) (word % 2 ^ 16)

-- the word that a reference is stored as
abbrev pub reference_word : Plain → ℕ
reference_word p = p.kind * 2 ^ 32 + p.base * 2 ^ 16 + p.length
