-- From letters and fields to calls.
use Rattle.std.proofs.Common.{◌≡◌, ℕ, zero, suc, ◌+◌, ◌^◌, ◌<◌, ◌≤◌, true, cond, eqb, ◌⊎◌, List, [], ◌∷◌, length, get_or, drop, is_err, Ok, Err, Result, sym, refl, ap, ◌∙◌, subst, ⊎_elim, arith, MatchResult}
use Rattle.std.proofs.lemmas.List.{drop_more, drop_all}
use Rattle.script.specs.declared.fault.NotALine.{NotALine}
use Rattle.script.specs.declared.call.Call.{Call}
use Rattle.script.specs.declared.call.Call.TheVariants.{Start, Read, Write, Act, Deliver, Draw, Finish, PutBack, Create}
use Rattle.script.specs.Texts.{fields_text, Small, Fielded}
use Rattle.script.specs.Calls.{letter_of, fields_of, Narrow, Fits, call_text, Writes, NoCall, ReadsBack, Parts, NoParts}
use Rattle.script.proofs.Commas.{same_whole, length_fields}

-- a call from its letter and its fields
abbrev made : ℕ → List ℕ → Call
made l xs =
    cond (eqb l 83) (Start (get_or xs 0 0) (get_or xs 1 0) (get_or xs 2 0))
    (cond (eqb l 82) (Read (get_or xs 0 0) (get_or xs 1 0) (get_or xs 2 0) (get_or xs 3 0))
    (cond (eqb l 87) (Write (get_or xs 0 0) (get_or xs 1 0) (get_or xs 2 0))
    (cond (eqb l 65) (Act (get_or xs 0 0) (get_or xs 1 0))
    (cond (eqb l 68) (Deliver (get_or xs 0 0))
    (cond (eqb l 84) (Draw (get_or xs 0 0))
    (cond (eqb l 70) (Finish (get_or xs 0 0) (get_or xs 1 0))
    (cond (eqb l 80) (PutBack (get_or xs 0 0) (get_or xs 1 0))
    (Create (get_or xs 0 0) (get_or xs 1 0)))))))))

made_is : (c : Call) → made (letter_of c) (fields_of c) ≡ c
made_is (Start a b c) = refl
made_is (Read a b c d) = refl
made_is (Write a b c) = refl
made_is (Act a b) = refl
made_is (Deliver a) = refl
made_is (Draw a) = refl
made_is (Finish a b) = refl
made_is (PutBack a b) = refl
made_is (Create a b) = refl

-- so a letter and fields are those of one call only
same_made : (c d : Call) → letter_of c ≡ letter_of d → fields_of c ≡ fields_of d → c ≡ d
same_made c d l x = sym (made_is c) ∙ (ap (λ (n : ℕ). made n (fields_of c)) l ∙ (ap (λ (xs : List ℕ). made (letter_of d) xs) x ∙ made_is d))

-- and so is a line
pub one_call : (c d : Call) (line : List ℕ) → Writes c line → Writes d line → c ≡ d
one_call c d line p q =
    let e : call_text c ≡ call_text d = sym p.is ∙ q.is in
    let l : letter_of c ≡ letter_of d = cc in
    let t : fields_text (fields_of c) ≡ fields_text (fields_of d) = cc in
    same_made c d l (same_whole (fields_of c) (fields_of d) p.fits.small q.fits.small t)

-- the call of a letter and fields
pub parts : (l n : ℕ) (text xs : List ℕ) (c : Call) → Fielded n text xs → l ≡ letter_of c → xs ≡ fields_of c → Narrow c → Parts l text c
parts l n text xs c f k e w = record { kind = k; is = f.is ∙ ap fields_text e; fits = record { small = subst Small e f.small; narrow = w } }

-- n elements from the place i on
abbrev places : ℕ → ℕ → List ℕ → List ℕ
places zero i xs = []
places (suc n) i xs = get_or xs i 0 ∷ places n (i + 1) xs

places_from : (n i : ℕ) (xs : List ℕ) → length xs ≡ i + n → drop i xs ≡ places n i xs
places_from zero i xs e = drop_all i xs (omega (arith, e))
places_from (suc n) i xs e = drop_more xs i 0 (omega (arith, e)) ∙ ap (λ (ys : List ℕ). get_or xs i 0 ∷ ys) (places_from n (i + 1) xs (omega (arith, e)))

pub places_all : (n : ℕ) (xs : List ℕ) → length xs ≡ n → xs ≡ places n 0 xs
places_all n xs e = places_from n 0 xs (omega (arith, e))

-- a read's last two fields
pub read_narrow : (text xs : List ℕ) → Fielded 4 text xs → (2 ^ 32 ≤ get_or xs 2 0) ⊎ (2 ^ 32 ≤ get_or xs 3 0) → NoParts 82 text
read_narrow text xs f wide c p =
    let e = same_whole xs (fields_of c) f.small p.fits.small (sym f.is ∙ p.is) in
    let n = subst (λ (d : Call). Narrow d) (sym (made_is c) ∙ ap (λ (l : ℕ). made l (fields_of c)) (sym p.kind)) p.fits.narrow in
    ⊎_elim
    (λ w. omega (arith, w, n.0, ap (λ (ys : List ℕ). get_or ys 2 0) e))
    (λ w. omega (arith, w, n.1, ap (λ (ys : List ℕ). get_or ys 3 0) e))
    wide

pub read_fields : (xs : List ℕ) (f i : ℕ) → length xs ≡ 4 → f ≡ get_or xs 2 0 → i ≡ get_or xs 3 0 → xs ≡ get_or xs 0 0 ∷ get_or xs 1 0 ∷ f ∷ i ∷ []
read_fields xs f i l ef ei = rw (ef, ei) (places_all 4 xs l)

-- a call's line is of at most 85 bytes
few_fields : (c : Call) → length (fields_of c) ≤ 4
few_fields (Start a b c) = omega arith
few_fields (Read a b c d) = omega arith
few_fields (Write a b c) = omega arith
few_fields (Act a b) = omega arith
few_fields (Deliver a) = omega arith
few_fields (Draw a) = omega arith
few_fields (Finish a b) = omega arith
few_fields (PutBack a b) = omega arith
few_fields (Create a b) = omega arith

pub length-call : (c : Call) → Fits c → length (call_text c) ≤ 85
length-call c f = omega (arith, length_fields (fields_of c) f.small, few_fields c)

-- what is read of a line is the call that writes it, and nothing of a long line
pub reads_back : (line : List ℕ) (r : Result Call NotALine) → MatchResult r (λ c. Writes c line) (λ _. NoCall line) → ReadsBack line r
reads_back line (Ok c) h d w = ap (λ (x : Call). Ok x) (one_call c d line h w)
reads_back line (Err e) h d w = absurd (h d w)

pub refuses_long : (line : List ℕ) (r : Result Call NotALine) → MatchResult r (λ c. Writes c line) (λ _. NoCall line) → 96 < length line → is_err r ≡ true
refuses_long line (Ok c) h l = absurd (omega (arith, l, ap length h.is, length-call c h.fits))
refuses_long line (Err e) h l = refl
