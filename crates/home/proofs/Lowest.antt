-- Taking the lowest member out of a set.
use Rattle.std.proofs.Common.{◌≡◌, ℕ, zero, suc, ◌+◌, ◌-◌, ◌/◌, ◌%◌, ◌^◌, ◌<◌, ◌≤◌, cond, eqb, ◌⊎◌, [], ◌∷◌, length, sym, refl, ap, ◌∙◌, ap₂, ⊎_elim, pow-suc, zero-add, arith}
use lib.Bits.{bit_and, and_step, and_self}
use lib.Count.{count_trailing_zeros, trailing_of_zero, ones, ones_step, under}
use Rattle.home.specs.Sets.{members, members_from}

pub parity : (m : ℕ) → (m % 2 ≡ 0) ⊎ (m % 2 ≡ 1)
parity m = grind arith

-- what is left when the lowest digit that is set is taken away, by its lowest digit and its half
gone_low : (m : ℕ) → 0 < m → bit_and m (m - 1) % 2 ≡ 0
gone_low m p = omega (arith, and_step m (m - 1))

gone_half : (m : ℕ) → 0 < m → bit_and m (m - 1) / 2 ≡ bit_and (m / 2) ((m - 1) / 2)
gone_half m p = omega (arith, and_step m (m - 1))

gone_odd : (m : ℕ) → m % 2 ≡ 1 → bit_and m (m - 1) / 2 ≡ m / 2
gone_odd m e =
    let p : 0 < m = omega arith in
    let h : (m - 1) / 2 ≡ m / 2 = omega arith in
    gone_half m p ∙ ap (bit_and (m / 2)) h ∙ and_self (m / 2)

gone_even : (m : ℕ) → 0 < m → m % 2 ≡ 0 → bit_and m (m - 1) / 2 ≡ bit_and (m / 2) (m / 2 - 1)
gone_even m p e =
    let h : (m - 1) / 2 ≡ m / 2 - 1 = omega arith in gone_half m p ∙ ap (bit_and (m / 2)) h

half_pos : (m : ℕ) → 0 < m → m % 2 ≡ 0 → 0 < m / 2
half_pos m p e = omega arith

half_lt : (d m : ℕ) → m < 2 ^ suc d → m / 2 < 2 ^ d
half_lt d m h = omega (arith, pow-suc 2 d)

-- the lowest digit says whether k is a member, and whether it is the lowest
pub from_even : (d k m : ℕ) → m % 2 ≡ 0 → members_from (suc d) k m ≡ members_from d (suc k) (m / 2)
unfolding members_from
from_even d k m e = ap (λ x. cond (eqb x 0) (members_from d (suc k) (m / 2)) (k ∷ members_from d (suc k) (m / 2))) e

pub from_odd : (d k m : ℕ) → m % 2 ≡ 1 → members_from (suc d) k m ≡ k ∷ members_from d (suc k) (m / 2)
unfolding members_from
from_odd d k m e = ap (λ x. cond (eqb x 0) (members_from d (suc k) (m / 2)) (k ∷ members_from d (suc k) (m / 2))) e

zeros_even : (d m : ℕ) → m % 2 ≡ 0 → count_trailing_zeros (suc d) m ≡ suc (count_trailing_zeros d (m / 2))
unfolding count_trailing_zeros
zeros_even d m e = ap (λ x. under x (count_trailing_zeros d (m / 2))) e

zeros_odd : (d m : ℕ) → m % 2 ≡ 1 → count_trailing_zeros (suc d) m ≡ 0
unfolding count_trailing_zeros
zeros_odd d m e = ap (λ x. under x (count_trailing_zeros d (m / 2))) e

pub lowest : (d k m : ℕ) → 0 < m → m < 2 ^ d → members_from d k m ≡ (k + count_trailing_zeros d m) ∷ members_from d k (bit_and m (m - 1))
lowest zero k m p h = absurd (omega arith)
lowest (suc d) k m p h = ⊎_elim
    (λ e.
    let s : suc k + count_trailing_zeros d (m / 2) ≡ k + count_trailing_zeros (suc d) m = omega (arith, zeros_even d m e) in
    let r : members_from d (suc k) (bit_and (m / 2) (m / 2 - 1)) ≡ members_from (suc d) k (bit_and m (m - 1)) =
    sym (from_even d k (bit_and m (m - 1)) (gone_low m p) ∙ ap (members_from d (suc k)) (gone_even m p e)) in
    from_even d k m e ∙ lowest d (suc k) (m / 2) (half_pos m p e) (half_lt d m h) ∙ ap₂ (λ x y. x ∷ y) s r)
    (λ e.
    let s : k ≡ k + count_trailing_zeros (suc d) m = omega (arith, zeros_odd d m e) in
    let r : members_from d (suc k) (m / 2) ≡ members_from (suc d) k (bit_and m (m - 1)) =
    sym (from_even d k (bit_and m (m - 1)) (gone_low m p) ∙ ap (members_from d (suc k)) (gone_odd m e)) in
    from_odd d k m e ∙ ap₂ (λ x y. x ∷ y) s r)
    (parity m)

pub none_from : (d k : ℕ) → members_from d k 0 ≡ []
unfolding members_from
none_from zero k = refl
none_from (suc d) k = none_from d (suc k)

pub counted : (d k m : ℕ) → m < 2 ^ d → length (members_from d k m) ≡ ones m
unfolding members_from ones
counted zero k m h = let e : m ≡ 0 = omega arith in rw e refl
counted (suc d) k m h =
    let ih = counted d (suc k) (m / 2) (half_lt d m h) in
    let s = ones_step m in
    ⊎_elim
    (λ e. let t : ones (m / 2) ≡ ones m = omega arith in ap length (from_even d k m e) ∙ ih ∙ t)
    (λ e. let t : suc (ones (m / 2)) ≡ ones m = omega arith in ap length (from_odd d k m e) ∙ ap suc ih ∙ t)
    (parity m)

-- a set that is not empty has a lowest member
pub trailing_lt : (d m : ℕ) → 0 < m → m < 2 ^ d → count_trailing_zeros d m < d
trailing_lt zero m p h = absurd (omega arith)
trailing_lt (suc d) m p h = ⊎_elim
    (λ e. omega (arith, zeros_even d m e, trailing_lt d (m / 2) (half_pos m p e) (half_lt d m h)))
    (λ e. omega (arith, zeros_odd d m e))
    (parity m)

-- the same of a set of 16
pub members_next : (m : ℕ) → 0 < m → m < 2 ^ 16 → members m ≡ count_trailing_zeros 16 m ∷ members (bit_and m (m - 1))
unfolding members
members_next m p h = lowest 16 0 m p h ∙ ap (λ x. x ∷ members_from 16 0 (bit_and m (m - 1))) (zero-add (count_trailing_zeros 16 m))

-- the digits below the lowest that is set: all 16 where there is none
pub lowest_some : (m : ℕ) → count_trailing_zeros 16 m < 16 → 0 < m
lowest_some zero h = absurd (omega (arith, trailing_of_zero 16))
lowest_some (suc m) h = omega arith

pub lowest_none : (m : ℕ) → m < 2 ^ 16 → 16 ≤ count_trailing_zeros 16 m → m ≡ 0
lowest_none zero b h = refl
lowest_none (suc m) b h = let p : 0 < suc m = omega arith in absurd (omega (arith, trailing_lt 16 (suc m) p b))

pub members_none : members 0 ≡ []
unfolding members
members_none = none_from 16 0

pub members_count : (m : ℕ) → m < 2 ^ 16 → length (members m) ≡ ones m
unfolding members
members_count m h = counted 16 0 m h
