-- A list of numbers below n, each at most once, has at most n of them.
use Rattle.std.proofs.Common.{◌≡◌, ℕ, zero, suc, ◌+◌, ◌≤◌, Bool, true, false, cond, eqb, List, [], ◌∷◌, length, refl, ap, ◌∙◌, arith, eqb-true}
use borrow.Author.Tests.{eqb-false}
use Rattle.lines.specs.Facts.{times}
use Rattle.lines.proofs.Counts.{times-here}

abbrev others : ℕ → List ℕ → List ℕ
others m [] = []
others m (x ∷ xs) = cond (eqb x m) (others m xs) (x ∷ others m xs)

length-others : (m : ℕ) (xs : List ℕ) → times m xs + length (others m xs) ≡ length xs
length-others m [] = refl
length-others m (x ∷ xs) =
    let h = length-others m xs in
    let by : (b : Bool) → cond b 1 0 + times m xs + length (cond b (others m xs) (x ∷ others m xs)) ≡ suc (length xs)
    = λ b. elim b as (λ v. cond v 1 0 + times m xs + length (cond v (others m xs) (x ∷ others m xs)) ≡ suc (length xs)) [ true ↦ omega arith | false ↦ omega arith ] in
    by (eqb x m)

others_fewer : (p m : ℕ) (xs : List ℕ) → times p (others m xs) ≤ times p xs
others_fewer p m [] = omega arith
others_fewer p m (x ∷ xs) =
    let h = others_fewer p m xs in
    let by : (b : Bool) → times p (cond b (others m xs) (x ∷ others m xs)) ≤ cond (eqb x p) 1 0 + times p xs
    = λ b. elim b as (λ v. times p (cond v (others m xs) (x ∷ others m xs)) ≤ cond (eqb x p) 1 0 + times p xs) [ true ↦ omega arith | false ↦ omega arith ] in
    by (eqb x m)

none_left_by : (m x : ℕ) (xs : List ℕ) (b : Bool) → eqb x m ≡ b → times m (others m xs) ≡ 0 → times m (cond b (others m xs) (x ∷ others m xs)) ≡ 0
none_left_by m x xs true e h = h
none_left_by m x xs false e h = ap (λ b. cond b 1 0 + times m (others m xs)) e ∙ (let z : 0 + times m (others m xs) ≡ 0 = omega arith in z)

none_left : (m : ℕ) (xs : List ℕ) → times m (others m xs) ≡ 0
none_left m [] = refl
none_left m (x ∷ xs) = none_left_by m x xs (eqb x m) refl (none_left m xs)

out_by : (m p : ℕ) (xs : List ℕ) (b : Bool) → eqb p m ≡ b → ((q : ℕ) → suc m ≤ q → times q xs ≡ 0) → m ≤ p → times p (others m xs) ≡ 0
out_by m p xs true e out h = ap (λ q. times q (others m xs)) (eqb-true p m e) ∙ none_left m xs
out_by m p xs false e out h =
    let ne = eqb-false p m e in
    let far : suc m ≤ p = omega (arith, ne) in
    let f = others_fewer p m xs in
    let z = out p far in
    omega arith

pub pigeon : (n : ℕ) (xs : List ℕ) → ((p : ℕ) → times p xs ≤ 1) → ((p : ℕ) → n ≤ p → times p xs ≡ 0) → length xs ≤ n
pigeon zero [] once out = omega arith
pigeon zero (x ∷ xs) once out =
    let z = out x (omega arith) in
    let one = times-here x xs in
    absurd (omega arith)
pigeon (suc m) xs once out =
    let ys = others m xs in
    let h = pigeon m ys (λ p. let a = others_fewer p m xs in let b = once p in omega arith) (λ p le. out_by m p xs (eqb p m) refl out le) in
    let e = length-others m xs in
    let o = once m in
    omega arith
