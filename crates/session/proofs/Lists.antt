-- What a test says of a list's values, as one of them is set.
use Rattle.std.proofs.Common.{◌≡◌, ℕ, zero, suc, Bool, cond, eqb, List, [], ◌∷◌, length, get_or, set, replicate, sym, refl, ap, ◌∙◌, inl, inr, arith}
use Rattle.std.proofs.lemmas.List.{get_or-set_same, get_or-set_other, get_or_past, length-set}
use Rattle.std.proofs.lemmas.Bool.{cases_eq, cases_lt, eq-eqb, ne_eqb, cond-true, cond-false}

module _ {X : Type 0} (f : X → Bool) (d : X) where
  -- a value is set for which the test says the same
  pub set_alike : (xs : List X) (i : ℕ) (y : X) (j : ℕ) → f y ≡ f (get_or xs i d) → f (get_or (set xs i y) j d) ≡ f (get_or xs j d)
  set_alike [] i y j e = refl
  set_alike (x ∷ xs) zero y zero e = e
  set_alike (x ∷ xs) zero y (suc j) e = refl
  set_alike (x ∷ xs) (suc i) y zero e = refl
  set_alike (x ∷ xs) (suc i) y (suc j) e = set_alike xs i y j e

  -- whatever is set, the test changes at most there
  pub set_marks : (xs : List X) (i : ℕ) (y : X) (j : ℕ) (b : Bool) → f (get_or (set xs i y) i d) ≡ b → f (get_or (set xs i y) j d) ≡ cond (eqb i j) b (f (get_or xs j d))
  set_marks xs i y j b e = elim (cases_eq i j) [
    | inl s ↦ ap (λ k. f (get_or (set xs i y) k d)) (sym s) ∙ e ∙ sym (cond-true (eqb i j) b (f (get_or xs j d)) (eq-eqb i j s))
    | inr ne ↦ ap f (get_or-set_other xs i j y d (λ s. ne (sym s))) ∙ sym (cond-false (eqb i j) b (f (get_or xs j d)) (ne_eqb i j ne))
  ]

  -- a value is set that has the default's mark: so has the place, within the list or not
  pub set_default : (xs : List X) (i : ℕ) (y : X) → f y ≡ f d → f (get_or (set xs i y) i d) ≡ f d
  set_default xs i y e = elim (cases_lt i (length xs)) [
    | inl lt ↦ ap f (get_or-set_same xs i y d lt) ∙ e
    | inr ge ↦ ap f (get_or_past (set xs i y) i d (omega (arith, ge, length-set xs i y)))
  ]

pub of_replicate : {X : Type 0} (P : X → Type 0) (k : ℕ) (x d : X) (n : ℕ) → P x → P d → P (get_or (replicate k x) n d)
of_replicate P zero x d n p q = q
of_replicate P (suc k) x d zero p q = p
of_replicate P (suc k) x d (suc n) p q = of_replicate P k x d n p q

-- the new mark at the place q of the node k, elsewhere the old one
abbrev pub at_place : ℕ → ℕ → ℕ → ℕ → Bool → Bool → Bool
at_place k q n p new old = cond (eqb k n) (cond (eqb q p) new old) old

-- a test of two numbers lets one stand for the other
pub cond-eq : (n j : ℕ) (f : ℕ → Bool) (z : Bool) → cond (eqb n j) (f n) z ≡ cond (eqb n j) (f j) z
cond-eq n j f z = elim (cases_eq n j) [
  | inl s ↦ ap (λ k. cond (eqb n j) (f k) z) s
  | inr ne ↦ cond-false (eqb n j) (f n) z (ne_eqb n j ne) ∙ sym (cond-false (eqb n j) (f j) z (ne_eqb n j ne))
]
