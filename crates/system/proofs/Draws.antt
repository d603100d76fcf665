-- What a draw finds and leaves.
use Rattle.std.proofs.Common.{◌≡◌, ℕ, ◌<◌, cond, eqb, List, [], ◌∷◌, length, Some, None, refl, ap, inl, inr, arith}
use Rattle.std.proofs.lemmas.List.{get_or_past}
use Rattle.std.proofs.lemmas.Bool.{eq-eqb, cond-true, cases_lt}
use Rattle.lines.specs.declared.types.Answer.{Answer}
use Rattle.lines.specs.Facts.{ReadyOnce, times, if_ready}
use Rattle.lines.specs.Model.{Tables, first_ready, drawing, free, place_at}
use Rattle.lines.specs.Plain.{plain_answer}

pub nothing_drawn : (t : Tables) (ps : List ℕ) → None ≡ first_ready t ps → drawing t ps ≡ t
nothing_drawn t [] e = refl
nothing_drawn t (p ∷ ps) e = cc

some_same : {X : Type 0} {x y : X} → Some x ≡ Some y → x ≡ y
some_same e = cc

-- a place that is ready is one of the places
ready_within : (t : Tables) (p : ℕ) (ps : List ℕ) → ReadyOnce t → t.order ≡ p ∷ ps → p < length t.places
ready_within t p ps r o =
    elim (cases_lt p (length t.places)) [
      | inl lt ↦ lt
      | inr ge ↦
          absurd
          (let free-there : place_at t p ≡ free = get_or_past t.places p free ge in
          let none : if_ready (place_at t p) ≡ 0 = ap if_ready free-there in
          let one : ◌≡◌ {A = ℕ} (cond (eqb p p) 1 0) 1 = cond-true {A = ℕ} (eqb p p) 1 0 (eq-eqb p p refl) in
          let named : times p t.order ≡ times p (p ∷ ps) = ap (times p) o in
          let f : ⊥ = omega (arith, r p) in
          f)
    ]

pub drawn_within : (t : Tables) (x : Answer) → ReadyOnce t → length t.places ≡ 32 → Some (plain_answer x) ≡ first_ready t t.order → x.place < 32
drawn_within t x r all e = by_order t.order refl e where
  by_order : (ps : List ℕ) → t.order ≡ ps → Some (plain_answer x) ≡ first_ready t ps → x.place < 32
  by_order [] at e = cc
  by_order (p ∷ ps) at e = let same : x.place ≡ p = ap (λ a. a.place) (some_same e) in let lt = ready_within t p ps r at in omega (arith, all)
