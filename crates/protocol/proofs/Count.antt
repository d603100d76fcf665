-- Counts: the laws of `same` and `sum_to`, and of a list with one element less or one replaced.
use Rattle.std.proofs.Common.{◌≡◌, ℕ, zero, suc, ◌+◌, ◌*◌, ◌<◌, ◌≤◌, eqb, ◌⊎◌, List, [], ◌∷◌, length, get_or, set, Some, sum_by, sym, refl, ap, subst, ap₂, inl, inr, arith}
use Rattle.std.specs.List.{slice_get, remove, AllByRecursion}
use Rattle.std.proofs.lemmas.List.{get_or-set_same, get_or-set_other}
use Rattle.std.proofs.lemmas.List.Sums.{sum_by-cons}
use Rattle.std.proofs.lemmas.Bool.{eq-eqb, ne_eqb, cond-true, cond-false, cases_eq}
use Rattle.lines.specs.Model.{Read}
use Rattle.protocol.specs.Counts.{same, same_read, sum_to}

pub same_refl : (a : ℕ) → same a a ≡ 1
unfolding same
same_refl a = cond-true (eqb a a) 1 0 (eq-eqb a a refl)

pub same_apart : (a b : ℕ) → (a ≡ b → ⊥) → same a b ≡ 0
unfolding same
same_apart a b h = cond-false (eqb a b) 1 0 (ne_eqb a b h)

-- the two ways
pub same_or : (a b : ℕ) → ((a ≡ b) × (same a b ≡ 1)) ⊎ ((a ≡ b → ⊥) × (same a b ≡ 0))
same_or a b = elim (cases_eq a b) [ inl e ↦ inl (e, subst (λ x. same a x ≡ 1) e (same_refl a)) | inr h ↦ inr (h, same_apart a b h) ]

pub same_one : (a b : ℕ) → 1 ≤ same a b → a ≡ b
same_one a b h = elim (same_or a b) [ inl e ↦ e.0 | inr e ↦ absurd (let e1 = e.1 in let f : ⊥ = omega arith in f) ]

pub read_address : (q r : Read) → 1 ≤ same_read q r → q.address ≡ r.address
unfolding same_read
read_address q r h = elim (same_or q.address r.address) [
  | inl e ↦ e.0
  | inr e ↦ absurd (let k : 1 ≤ 0 * (same q.frame r.frame * same q.instruction r.instruction) = subst (λ z. 1 ≤ z * (same q.frame r.frame * same q.instruction r.instruction)) e.1 h in let f : ⊥ = omega arith in f)
]

-- sums below a bound
pub sum_to_like : (k : ℕ) (f g : ℕ → ℕ) → ((j : ℕ) → j < k → f j ≡ g j) → sum_to k f ≡ sum_to k g
unfolding sum_to
sum_to_like zero f g h = refl
sum_to_like (suc k) f g h = ap₂ ◌+◌ (h k (omega arith)) (sum_to_like k f g (λ j l. h j (omega arith)))

pub sum_to_zero : (k : ℕ) (f : ℕ → ℕ) → ((j : ℕ) → j < k → f j ≡ 0) → sum_to k f ≡ 0
unfolding sum_to
sum_to_zero zero f h = refl
sum_to_zero (suc k) f h = omega (arith, h k (omega arith), sum_to_zero k f (λ j l. h j (omega arith)))

pub sum_to_none : (f : ℕ → ℕ) → sum_to 0 f ≡ 0
unfolding sum_to
sum_to_none f = refl

pub sum_to_plus : (k : ℕ) (f g : ℕ → ℕ) → sum_to k (λ j. f j + g j) ≡ sum_to k f + sum_to k g
unfolding sum_to
sum_to_plus zero f g = refl
sum_to_plus (suc k) f g = omega (arith, sum_to_plus k f g)

-- a sum that is not 0 has a part that is not
pub sum_to_some : (k : ℕ) (f : ℕ → ℕ) → 1 ≤ sum_to k f → (j : ℕ) × (1 ≤ f j)
unfolding sum_to
sum_to_some zero f h = absurd (let g : ⊥ = omega arith in g)
sum_to_some (suc k) f h = elim (cases_eq (f k) 0) [ inl e ↦ sum_to_some k f (omega arith) | inr e ↦ (k, omega arith) ]

-- one part changed
pub sum_to_change : (k i : ℕ) (f g : ℕ → ℕ) → i < k → ((j : ℕ) → (j ≡ i → ⊥) → g j ≡ f j) → sum_to k g + f i ≡ sum_to k f + g i
unfolding sum_to
sum_to_change zero i f g h same = absurd (let z : ⊥ = omega arith in z)
sum_to_change (suc k) i f g h same = elim (cases_eq k i) [
  | inl e ↦ omega (arith, sum_to_like k g f (λ j l. same j (λ z. omega arith)), ap f e, ap g e)
  | inr e ↦ omega (arith, sum_to_change k i f g (omega arith) same, same k e)
]

-- a list with one element replaced
pub each_set : {X : Type 0} (P : ℕ → X → Type 0) (xs : List X) (i : ℕ) (v d : X) → i < length xs → P i v → ((j : ℕ) → (j ≡ i → ⊥) → P j (get_or xs j d)) → (j : ℕ) → P j (get_or (set xs i v) j d)
each_set P xs i v d lt here there j = elim (cases_eq j i) [
  | inl e ↦ subst (λ k. P k (get_or (set xs i v) k d)) (sym e) (subst (P i) (sym (get_or-set_same xs i v d lt)) here)
  | inr e ↦ subst (P j) (sym (get_or-set_other xs i j v d e)) (there j e)
]

pub sum_to_set : {X : Type 0} (g : X → ℕ) (xs : List X) (i : ℕ) (v d : X) (k : ℕ) → i < k → i < length xs → sum_to k (λ j. g (get_or (set xs i v) j d)) + g (get_or xs i d) ≡ sum_to k (λ j. g (get_or xs j d)) + g v
sum_to_set g xs i v d k lt inside =
    omega (arith, sum_to_change k i (λ j. g (get_or xs j d)) (λ j. g (get_or (set xs i v) j d)) lt (λ j e. ap g (get_or-set_other xs i j v d e)), ap g (get_or-set_same xs i v d inside))

-- a list with one element less
pub sum_removed : {X : Type 0} (f : X → ℕ) (xs : List X) (k : ℕ) (x : X) → slice_get xs k ≡ Some x → sum_by f xs ≡ f x + sum_by f (remove xs k)
sum_removed f [] k x e = absurd (let z : ◌≡◌ {A = ℕ} 0 1 = cc in let n : ⊥ = omega arith in n)
sum_removed f (y ∷ ys) zero x e = let s : y ≡ x = cc in omega (arith, sum_by-cons f y ys, ap f s)
sum_removed f (y ∷ ys) (suc k) x e = omega (arith, sum_by-cons f y ys, sum_by-cons f y (remove ys k), sum_removed f ys k x e)

pub all_removed : {X : Type 0} (P : X → Type 0) (xs : List X) (k : ℕ) (x : X) → slice_get xs k ≡ Some x → AllByRecursion P xs → P x × AllByRecursion P (remove xs k)
all_removed P [] k x e h = absurd (let z : ◌≡◌ {A = ℕ} 0 1 = cc in let n : ⊥ = omega arith in n)
all_removed P (y ∷ ys) zero x e h = let s : y ≡ x = cc in (subst P s h.0, h.1)
all_removed P (y ∷ ys) (suc k) x e h = let r = all_removed P ys k x e h.1 in (r.0, (h.0, r.1))
