-- `members` lists a set, and `joined` adds one node to it.
use Rattle.std.proofs.Common.{◌≡◌, ℕ, zero, suc, ◌+◌, ◌/◌, ◌%◌, ◌^◌, ◌<◌, max, ◌⊎◌, List, [], ◌∷◌, sym, refl, ap, ◌∙◌, subst, inl, inr, ⊎_elim, le_refl, pow-suc, zero-add, arith}
use Rattle.std.proofs.lemmas.Nat.{shr-shr, pow_below}
use lib.Bits.{bit_or, or_step, or_shr, or_zero_r, or_lt}
use lib.Count.{ones, ones_step}
use Rattle.home.specs.Sets.{members, members_from, RisingFrom, Holds, Listing, Member, Gains}
use Rattle.home.proofs.Lowest.{parity, from_even, from_odd, none_from}

weaker : (k : ℕ) (xs : List ℕ) → RisingFrom (suc k) xs → RisingFrom k xs
unfolding RisingFrom
weaker k [] h = tt
weaker k (x ∷ xs) h = (omega (arith, h.0), h.1)

rises : (d k m : ℕ) → RisingFrom k (members_from d k m)
unfolding RisingFrom members_from
rises zero k m = tt
rises (suc d) k m =
    let ih = rises d (suc k) (m / 2) in
    ⊎_elim
    (λ e. subst (RisingFrom k) (sym (from_even d k m e)) (weaker k (members_from d (suc k) (m / 2)) ih))
    (λ e. subst (RisingFrom k) (sym (from_odd d k m e)) (le_refl k, ih))
    (parity m)

-- digit i + 1 of m is digit i of its half
half_digit : (m i : ℕ) → m / 2 / 2 ^ i ≡ m / 2 ^ suc i
half_digit m i = shr-shr m 1 i ∙ ap (λ x. m / 2 ^ x) (omega arith)

no_digit : (m : ℕ) → m / 2 ^ 0 % 2 ≡ m % 2
no_digit m = omega arith

Place : ℕ → ℕ → ℕ → ℕ → Type 0
Place d k m j = (i : ℕ) × (i < d) × (j ≡ k + i) × (m / 2 ^ i % 2 ≡ 1)

later : (d k m j : ℕ) → Place d (suc k) (m / 2) j → Place (suc d) k m j
unfolding Place
later d k m j p = (suc p.0, omega (arith, p.1), omega (arith, p.2), ap (λ x. x % 2) (sym (half_digit m p.0)) ∙ p.3)

held : (d k m j : ℕ) → Holds (members_from d k m) j → Place d k m j
unfolding Holds members_from Place
held zero k m j h = absurd h
held (suc d) k m j h =
    ⊎_elim
    (λ e. later d k m j (held d (suc k) (m / 2) j (subst (λ xs. Holds xs j) (from_even d k m e) h)))
    (λ e.
    let split : (k ≡ j) ⊎ Holds (members_from d (suc k) (m / 2)) j = subst (λ xs. Holds xs j) (from_odd d k m e) h in
    ⊎_elim (λ is. (0, omega arith, omega (arith, is), no_digit m ∙ e)) (λ t. later d k m j (held d (suc k) (m / 2) j t)) split)
    (parity m)

holds : (d k m i : ℕ) → i < d → m / 2 ^ i % 2 ≡ 1 → Holds (members_from d k m) (k + i)
unfolding Holds members_from
holds zero k m i b h = absurd (omega arith)
holds (suc d) k m zero b h =
    subst (λ xs. Holds xs (k + 0)) (sym (from_odd d k m (sym (no_digit m) ∙ h))) (inl (omega arith))
holds (suc d) k m (suc i) b h =
    let ih : Holds (members_from d (suc k) (m / 2)) (suc k + i) = holds d (suc k) (m / 2) i (omega arith) (ap (λ x. x % 2) (half_digit m i) ∙ h) in
    let at : suc k + i ≡ k + suc i = omega arith in
    let there : Holds (members_from d (suc k) (m / 2)) (k + suc i) = subst (Holds (members_from d (suc k) (m / 2))) at ih in
    ⊎_elim
    (λ e. subst (λ xs. Holds xs (k + suc i)) (sym (from_even d k m e)) there)
    (λ e. subst (λ xs. Holds xs (k + suc i)) (sym (from_odd d k m e)) (inr there))
    (parity m)

pub listing : (m : ℕ) → Listing m
unfolding members Place
listing m = record {
  rising = rises 16 0 m;
  only = λ node h. let p = held 16 0 m node h in let is : p.0 ≡ node = omega (arith, p.2) in (omega (arith, p.1), ap (λ x. m / 2 ^ x % 2) (sym is) ∙ p.3);
  every = λ node h. subst (Holds (members_from 16 0 m)) (zero-add node) (holds 16 0 m node h.0 h.1);
}

-- the digits of a power of two
pow_half : (n : ℕ) → 2 ^ suc n / 2 ≡ 2 ^ n
pow_half n = omega (arith, pow-suc 2 n)

pow_low : (n : ℕ) → 2 ^ suc n % 2 ≡ 0
pow_low n = omega (arith, pow-suc 2 n)

own_digit : (n : ℕ) → 2 ^ n / 2 ^ n % 2 ≡ 1
own_digit zero = refl
own_digit (suc n) = ap (λ x. x % 2) (sym (half_digit (2 ^ suc n) n)) ∙ ap (λ x. x / 2 ^ n % 2) (pow_half n) ∙ own_digit n

zero_digit : (k : ℕ) → 0 / 2 ^ k % 2 ≡ 0
zero_digit zero = refl
zero_digit (suc k) = ap (λ x. x % 2) (sym (half_digit 0 k)) ∙ zero_digit k

other_digit : (n k : ℕ) → (k ≡ n → ⊥) → 2 ^ n / 2 ^ k % 2 ≡ 0
other_digit zero zero h = absurd (h refl)
other_digit zero (suc k) h = ap (λ x. x % 2) (sym (half_digit 1 k)) ∙ zero_digit k
other_digit (suc n) zero h = no_digit (2 ^ suc n) ∙ pow_low n
other_digit (suc n) (suc k) h =
    ap (λ x. x % 2) (sym (half_digit (2 ^ suc n) k)) ∙ ap (λ x. x / 2 ^ k % 2) (pow_half n)
    ∙ other_digit n k (λ e. h (ap suc e))

or_low : (a b : ℕ) → bit_or a b % 2 ≡ max (a % 2) (b % 2)
or_low a b = omega (arith, or_step a b)

or_half : (a b : ℕ) → bit_or a b / 2 ≡ bit_or (a / 2) (b / 2)
or_half a b = omega (arith, or_step a b)

or_digit : (a b k : ℕ) → bit_or a b / 2 ^ k % 2 ≡ max (a / 2 ^ k % 2) (b / 2 ^ k % 2)
or_digit a b k = ap (λ x. x % 2) (or_shr a b k) ∙ or_low (a / 2 ^ k) (b / 2 ^ k)

-- one digit more, or the same where it was there
ones_joined : (m n : ℕ) → ones (bit_or m (2 ^ n)) + m / 2 ^ n % 2 ≡ suc (ones m)
ones_joined m zero =
    let half : ones (bit_or m 1 / 2) ≡ ones (m / 2) = ap ones (or_half m 1 ∙ or_zero_r (m / 2)) in
    omega (arith, ones_step (bit_or m 1), ones_step m, or_low m 1, no_digit m)
ones_joined m (suc n) =
    let half : ones (bit_or m (2 ^ suc n) / 2) ≡ ones (bit_or (m / 2) (2 ^ n)) = ap ones (or_half m (2 ^ suc n) ∙ ap (bit_or (m / 2)) (pow_half n)) in
    let digit : m / 2 / 2 ^ n % 2 ≡ m / 2 ^ suc n % 2 = ap (λ x. x % 2) (half_digit m n) in
    omega (arith, ones_step (bit_or m (2 ^ suc n)), ones_step m, or_low m (2 ^ suc n), pow_low n, ones_joined (m / 2) n)

-- a node is in the set that it joined if it was there, or is the one that joined
one_of : (m n k : ℕ) → k < 16 → bit_or m (2 ^ n) / 2 ^ k % 2 ≡ 1 → (k ≡ n) ⊎ (k ≡ n → ⊥) → Member m k ⊎ (k ≡ n)
one_of m n k b h (inl e) = inr e
one_of m n k b h (inr ne) = inl (b, omega (arith, or_digit m (2 ^ n) k, other_digit n k ne))

same_or_not : (k n : ℕ) → (k ≡ n) ⊎ (k ≡ n → ⊥)
same_or_not k n = grind arith

pub gains : (m n : ℕ) → n < 16 → Gains m n
gains m n b = record {
  there = (b, omega (arith, or_digit m (2 ^ n) n, own_digit n));
  kept = λ k h. (h.0, omega (arith, or_digit m (2 ^ n) k, h.1));
  only = λ k h. one_of m n k h.0 h.1 (same_or_not k n);
  again = λ h. omega (arith, ones_joined m n, h.1);
  fits = λ h. or_lt 16 m (2 ^ n) h (pow_below n 16 b);
  anew = λ h. let z : m / 2 ^ n % 2 ≡ 0 = ⊎_elim (λ e. e) (λ e. absurd (h (b, e))) (parity (m / 2 ^ n)) in omega (arith, ones_joined m n);
}

-- the set of one node has that member
sole : (d k i : ℕ) → i < d → members_from d k (2 ^ i) ≡ (k + i) ∷ []
unfolding members_from
sole zero k i b = absurd (omega arith)
sole (suc d) k zero b =
    let at : k ≡ k + 0 = omega arith in
    from_odd d k 1 refl ∙ ap (λ xs. k ∷ xs) (none_from d (suc k)) ∙ ap (λ x. x ∷ []) at
sole (suc d) k (suc i) b =
    let at : suc k + i ≡ k + suc i = omega arith in
    from_even d k (2 ^ suc i) (pow_low i) ∙ ap (members_from d (suc k)) (pow_half i) ∙ sole d (suc k) i (omega arith) ∙ ap (λ x. x ∷ []) at

pub members_alone : (n : ℕ) → n < 16 → members (2 ^ n) ≡ n ∷ []
unfolding members
members_alone n b = sole 16 0 n b ∙ ap (λ x. x ∷ []) (zero-add n)
