-- How the counts of a board's lists change as a list grows, loses an element, or has one replaced.
use Rattle.std.proofs.Common.{◌≡◌, ℕ, zero, suc, ◌+◌, ◌<◌, ◌≤◌, Bool, true, false, cond, eqb, List, [], ◌∷◌, ◌++◌, length, get_or, set, Some, sym, refl, ap, ◌∙◌, subst, arith, eq-eqb, eqb-true}
use borrow.Author.Tests.{eqb-false}
use Rattle.std.specs.List.{slice_get, remove}
use Rattle.std.proofs.lemmas.List.{get_or-set_same, get_or-set_other}
use Rattle.lines.specs.Model.{Line, empty, Command, reading, writing, waits, writes}
use Rattle.lines.specs.Facts.{times, reads_at, listed_at, for_address, lines_for}

-- what stands at k after a write at p
pub get_d_set : {X : Type 0} (d : X) (xs : List X) (p k : ℕ) (x : X) (b : Bool) → eqb p k ≡ b → p < length xs → get_or (set xs p x) k d ≡ cond b x (get_or xs k d)
get_d_set d xs p k x true e h = ap (λ j. get_or (set xs p x) j d) (sym (eqb-true p k e)) ∙ get_or-set_same xs p x d h
get_d_set d xs p k x false e h = get_or-set_other xs p k x d (λ q. eqb-false p k e (sym q))

-- what holds of each line holds still, if it holds of a line that is written
pub each_line : (P : Line → Type 0) (ls : List Line) (i : ℕ) (l : Line) → i < length ls → P l → ((j : ℕ) → P (get_or ls j empty)) → (j : ℕ) → P (get_or (set ls i l) j empty)
each_line P ls i l h new old j = by (eqb i j) refl where
  by : (b : Bool) → eqb i j ≡ b → P (get_or (set ls i l) j empty)
  by true e = subst P (sym (get_d_set empty ls i j l true e h)) new
  by false e = subst P (sym (get_d_set empty ls i j l false e h)) (old j)

pub times-append : (p : ℕ) (xs ys : List ℕ) → times p (xs ++ ys) ≡ times p xs + times p ys
times-append p [] ys = omega arith
times-append p (x ∷ xs) ys = let h = times-append p xs ys in omega arith

pub times-here : (p : ℕ) (xs : List ℕ) → times p (p ∷ xs) ≡ 1 + times p xs
times-here p xs = ap (λ b. cond b 1 0 + times p xs) (eq-eqb p p refl)

-- 1 for a command that names p
abbrev pub names : ℕ → Command → ℕ
names p (reading x) = cond (eqb x p) 1 0
names p (writing a v) = 0

-- 1 for a write
abbrev pub is_write : Command → ℕ
is_write (reading p) = 0
is_write (writing a v) = 1

reads_cons : (p : ℕ) (c : Command) (cs : List Command) → reads_at p (c ∷ cs) ≡ names p c + reads_at p cs
reads_cons p (reading x) cs = refl
reads_cons p (writing a v) cs = omega arith

writes_cons : (c : Command) (cs : List Command) → writes (c ∷ cs) ≡ is_write c + writes cs
writes_cons (reading p) cs = omega arith
writes_cons (writing a v) cs = refl

pub reads_push : (p : ℕ) (cs : List Command) (c : Command) → reads_at p (cs ++ c ∷ []) ≡ reads_at p cs + names p c
reads_push p [] c = let h = reads_cons p c [] in omega arith
reads_push p (x ∷ cs) c =
    let h = reads_push p cs c in
    let a = reads_cons p x cs in
    let b = reads_cons p x (cs ++ c ∷ []) in
    omega arith

pub writes_push : (cs : List Command) (c : Command) → writes (cs ++ c ∷ []) ≡ writes cs + is_write c
writes_push [] c = let h = writes_cons c [] in omega arith
writes_push (x ∷ cs) c =
    let h = writes_push cs c in
    let a = writes_cons x cs in
    let b = writes_cons x (cs ++ c ∷ []) in
    omega arith

pub reads_removed : (p k : ℕ) (cs : List Command) (c : Command) → slice_get cs k ≡ Some c → reads_at p (remove cs k) + names p c ≡ reads_at p cs
reads_removed p k [] c e = let z : ◌≡◌ {A = ℕ} 0 1 = cc in absurd (omega arith)
reads_removed p zero (x ∷ cs) c e =
    let q : x ≡ c = cc in
    let r = ap (names p) q in
    let a = reads_cons p x cs in
    omega arith
reads_removed p (suc k) (x ∷ cs) c e =
    let h = reads_removed p k cs c e in
    let a = reads_cons p x cs in
    let b = reads_cons p x (remove cs k) in
    omega arith

pub writes_removed : (k : ℕ) (cs : List Command) (c : Command) → slice_get cs k ≡ Some c → writes (remove cs k) + is_write c ≡ writes cs
writes_removed k [] c e = let z : ◌≡◌ {A = ℕ} 0 1 = cc in absurd (omega arith)
writes_removed zero (x ∷ cs) c e =
    let q : x ≡ c = cc in
    let r = ap is_write q in
    let a = writes_cons x cs in
    omega arith
writes_removed (suc k) (x ∷ cs) c e =
    let h = writes_removed k cs c e in
    let a = writes_cons x cs in
    let b = writes_cons x (remove cs k) in
    omega arith

pub listed_set : (p : ℕ) (ls : List Line) (i : ℕ) (l : Line) → i < length ls
    → listed_at p (set ls i l) + times p (waits (get_or ls i empty)) ≡ listed_at p ls + times p (waits l)
listed_set p [] i l h = absurd (omega arith)
listed_set p (x ∷ ls) zero l h = omega arith
listed_set p (x ∷ ls) (suc i) l h = let g = listed_set p ls i l (omega arith) in omega arith

pub listed_within : (p : ℕ) (ls : List Line) (i : ℕ) → times p (waits (get_or ls i empty)) ≤ listed_at p ls
listed_within p [] i = omega arith
listed_within p (x ∷ ls) zero = omega arith
listed_within p (x ∷ ls) (suc i) = let g = listed_within p ls i in omega arith

pub lines_for_set : (a : ℕ) (ls : List Line) (i : ℕ) (l : Line) → i < length ls
    → lines_for a (set ls i l) + for_address a (get_or ls i empty) ≡ lines_for a ls + for_address a l
lines_for_set a [] i l h = absurd (omega arith)
lines_for_set a (x ∷ ls) zero l h = omega arith
lines_for_set a (x ∷ ls) (suc i) l h = let g = lines_for_set a ls i l (omega arith) in omega arith
