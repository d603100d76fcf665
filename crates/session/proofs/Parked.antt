-- Which places are parked after a place is marked.
use Rattle.std.proofs.Common.{◌≡◌, ℕ, Bool, true, false, cond, eqb, List, [], length, get_or, set, sym, refl, ap, ◌∙◌, inl, inr, arith}
use Rattle.std.proofs.lemmas.List.{get_or-set_same, get_or_past, length-set}
use Rattle.std.proofs.lemmas.Bool.{cases_lt}
use Rattle.system.specs.Parked.{is_parked, parking}
use Rattle.session.proofs.Lists.{set_marks, set_default, at_place, cond-eq}

none_left : (x b : Bool) → false ≡ b → false ≡ cond x b false
none_left true b e = e
none_left false b e = refl

pub parked_at : (rows : List (List Bool)) (k q : ℕ) (b : Bool) → is_parked (parking rows k q b) k q ≡ b → (n p : ℕ) → is_parked (parking rows k q b) n p ≡ at_place k q n p b (is_parked rows n p)
parked_at rows k q b there n p =
    let row = set (get_or rows k []) q b in
    let here : get_or (get_or (set rows k row) k []) p false ≡ cond (eqb q p) b (is_parked rows k p) = elim (cases_lt k (length rows)) [
      | inl lt ↦
          let same = get_or-set_same rows k row [] lt in
          ap (λ r. get_or r p false) same ∙ set_marks (λ x. x) false (get_or rows k []) q b p b (sym (ap (λ r. get_or r q false) same) ∙ there)
      | inr ge ↦
          let past = get_or_past (set rows k row) k [] (omega (arith, ge, length-set rows k row)) in
          let none : false ≡ b = sym (ap (λ r. get_or r q false) past) ∙ there in
          ap (λ r. get_or r p false) past ∙ none_left (eqb q p) b none ∙ ap (λ r. cond (eqb q p) b (get_or r p false)) (sym (get_or_past rows k [] ge))
    ] in
    set_marks (λ r. get_or r p false) [] rows k row n (cond (eqb q p) b (is_parked rows k p)) here ∙ cond-eq k n (λ j. cond (eqb q p) b (is_parked rows j p)) (is_parked rows n p)

pub unparked : (rows : List (List Bool)) (k q : ℕ) → is_parked (parking rows k q false) k q ≡ false
unparked rows k q =
    set_default (λ r. get_or r q false) [] rows k (set (get_or rows k []) q false) (set_default (λ x. x) false (get_or rows k []) q false refl)
