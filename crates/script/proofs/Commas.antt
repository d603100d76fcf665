-- Fields with commas between them, and those that are read so far.
use Rattle.std.proofs.Common.{◌≡◌, ℕ, ◌+◌, ◌*◌, ◌^◌, ◌<◌, ◌≤◌, List, [], ◌∷◌, ◌++◌, length, get_or, take, drop, set, decimal, sym, refl, ap, ◌∙◌, subst, inl, append_assoc, arith, length-append, length-set}
use Rattle.std.proofs.lemmas.Fmt.{digits_decimal, decimal_injective, length-decimal-le}
use Rattle.std.proofs.lemmas.List.{take-append-drop, take_more_set, drop_more, length-take-le, drop_all, append-nil}
use Rattle.script.specs.Texts.{fields_text, Small, NoDigit, Front, NoFront, Fielded}
use Rattle.script.proofs.Numbers.{own, cut}

pub fields_split : (xs ys : List ℕ) → fields_text (xs ++ ys) ≡ fields_text xs ++ fields_text ys
fields_split [] ys = refl
fields_split (x ∷ xs) ys = ap (λ (l : List ℕ). 44 ∷ l) (simp (append_assoc, fields_split xs ys))

fields_push : (xs : List ℕ) (x : ℕ) (p : List ℕ) → fields_text (xs ++ x ∷ []) ++ p ≡ fields_text xs ++ (44 ∷ (decimal x ++ p))
fields_push xs x p = simp (fields_split xs (x ∷ []), append_assoc, append-nil)

no_digit : (xs p : List ℕ) → NoDigit p → NoDigit (fields_text xs ++ p)
no_digit [] p h = h
no_digit (x ∷ xs) p h = inl (omega arith)

no_digit_alone : (xs : List ℕ) → NoDigit (fields_text xs)
no_digit_alone xs = subst NoDigit (append-nil (fields_text xs)) (no_digit xs [] tt)

-- a field has at most 20 digits
pub length_fields : (xs : List ℕ) → Small xs → length (fields_text xs) ≤ 21 * length xs
length_fields [] h = omega arith
length_fields (x ∷ xs) h = omega (arith, length-append (decimal x) (fields_text xs), length-decimal-le 20 x (omega arith) (omega (arith, h.0)) h.0, length_fields xs h.1)

small_push : (xs : List ℕ) (x : ℕ) → Small xs → x < 2 ^ 64 → Small (xs ++ x ∷ [])
small_push [] x h l = (l, tt)
small_push (y ∷ xs) x h l = (h.0, small_push xs x h.1 l)

small_parts : (xs ys : List ℕ) → Small (xs ++ ys) → Small xs × Small ys
small_parts [] ys h = (tt, h)
small_parts (x ∷ xs) ys h = let p = small_parts xs ys h.1 in ((h.0, p.0), p.1)

-- texts that begin with a field have the same first number, and go on alike
same_first : (x y : ℕ) (p q : List ℕ) → x < 2 ^ 64 → y < 2 ^ 64 → NoDigit p → NoDigit q → decimal x ++ p ≡ decimal y ++ q → (x ≡ y) × (p ≡ q)
same_first x y p q hx hy hp hq e =
    let c = cut (decimal x) (decimal y) p q (digits_decimal own x hx) (digits_decimal own y hy) hp hq e in
    (decimal_injective x y hx hy c.0, c.1)

-- as many fields that write the same text are the same, and so is what follows
same_fields : (xs ys p q : List ℕ) → length xs ≡ length ys → Small xs → Small ys → (0 < length xs → NoDigit p) → NoDigit q → fields_text xs ++ p ≡ fields_text ys ++ q → (xs ≡ ys) × (p ≡ q)
same_fields [] [] p q l hx hy hp hq e = (refl, e)
same_fields [] (y ∷ ys) p q l hx hy hp hq e = absurd (omega (arith, l))
same_fields (x ∷ xs) [] p q l hx hy hp hq e = absurd (omega (arith, l))
same_fields (x ∷ xs) (y ∷ ys) p q l hx hy hp hq e =
    let tails : (decimal x ++ fields_text xs) ++ p ≡ (decimal y ++ fields_text ys) ++ q = cc in
    let first = same_first x y (fields_text xs ++ p) (fields_text ys ++ q) hx.0 hy.0 (no_digit xs p (hp (omega arith))) (no_digit ys q hq) (sym (append_assoc (decimal x) (fields_text xs) p) ∙ (tails ∙ append_assoc (decimal y) (fields_text ys) q)) in
    let more = same_fields xs ys p q (omega (arith, l)) hx.1 hy.1 (λ _. hp (omega arith)) hq first.1 in
    let head = first.0 in
    let tail = more.0 in
    (cc, more.1)

-- fields that write a whole text are those of the text
pub same_whole : (xs ys : List ℕ) → Small xs → Small ys → fields_text xs ≡ fields_text ys → xs ≡ ys
same_whole [] [] hx hy e = refl
same_whole [] (y ∷ ys) hx hy e = absurd (omega (arith, ap length e))
same_whole (x ∷ xs) [] hx hy e = absurd (omega (arith, ap length e))
same_whole (x ∷ xs) (y ∷ ys) hx hy e =
    let tails : decimal x ++ fields_text xs ≡ decimal y ++ fields_text ys = cc in
    let first = same_first x y (fields_text xs) (fields_text ys) hx.0 hy.0 (no_digit_alone xs) (no_digit_alone ys) tails in
    let head = first.0 in
    let tail = same_whole xs ys hx.1 hy.1 first.1 in
    cc

-- of n values the first i are read, and p is what is left of the text
pub record Sofar (n : ℕ) (text vs : List ℕ) (i : ℕ) (p : List ℕ) : Type 0 where
  pub is : text ≡ fields_text (take i vs) ++ p
  pub ends : 0 < i → NoDigit p
  pub small : Small (take i vs)
  pub count : length vs ≡ n

-- one more field
pub read : (n : ℕ) (text vs : List ℕ) (i : ℕ) (p s r : List ℕ) (x : ℕ) → i < n → Sofar n text vs i p → p ≡ 44 ∷ s → Front s x r → Sofar n text (set vs i x) (i + 1) r
read n text vs i p s r x l h e f =
    let t = take_more_set vs i x (omega (arith, l, h.count)) in
    record {
      is = rw (t, fields_push (take i vs) x r) (h.is ∙ ap (λ (z : List ℕ). fields_text (take i vs) ++ z) (e ∙ ap (λ (z : List ℕ). 44 ∷ z) f.is));
      ends = λ _. f.ends;
      small = rw t (small_push (take i vs) x h.small f.fits);
      count = length-set vs i x ∙ h.count;
    }

module _ (n : ℕ) (text vs : List ℕ) (i : ℕ) (p ys : List ℕ) (h : Sofar n text vs i p) (f : Fielded n text ys) where
  -- what is left of the fields that a text has
  left : i ≤ n → p ≡ fields_text (drop i ys)
  left l =
      let split : fields_text ys ≡ fields_text (take i ys) ++ fields_text (drop i ys) = ap fields_text (sym (take-append-drop i ys)) ∙ fields_split (take i ys) (drop i ys) in
      let s = small_parts (take i ys) (drop i ys) (rw (take-append-drop i ys) f.small) in
      (same_fields (take i vs) (take i ys) p (fields_text (drop i ys)) (length-take-le i vs (omega (arith, l, h.count)) ∙ sym (length-take-le i ys (omega (arith, l, f.count)))) h.small s.0 (λ some. h.ends (omega (arith, some, length-take-le i vs (omega (arith, l, h.count))))) (no_digit_alone (drop i ys)) (sym h.is ∙ (f.is ∙ split))).1

  -- a comma and a number, where there is more to come
  goes_on : i < n → (x : ℕ) × (r : List ℕ) × (x < 2 ^ 64) × NoDigit r × (p ≡ 44 ∷ (decimal x ++ r))
  goes_on l =
      let d = drop_more ys i 0 (omega (arith, l, f.count)) in
      let s : Small (get_or ys i 0 ∷ drop (i + 1) ys) = subst Small d (small_parts (take i ys) (drop i ys) (rw (take-append-drop i ys) f.small)).1 in
      (get_or ys i 0, fields_text (drop (i + 1) ys), s.0, no_digit_alone (drop (i + 1) ys), left (omega (arith, l)) ∙ ap fields_text d)

  -- so where no number comes, no comma, or too much, the text has no such fields
  pub no_number : (s : List ℕ) → i < n → p ≡ 44 ∷ s → NoFront s → ⊥
  no_number s l e none =
      let g = goes_on l in
      let eq = g.4 in
      let same : s ≡ decimal g.0 ++ g.1 = cc in
      none g.0 g.1 (record { is = same; fits = g.2; ends = g.3 })

  pub no_comma : i < n → ((s : List ℕ) → p ≡ 44 ∷ s → ⊥) → ⊥
  no_comma l none = let g = goes_on l in none (decimal g.0 ++ g.1) g.4

  pub too_much : n ≤ i → i ≤ n → 0 < length p → ⊥
  too_much m l some =
      let e = left l in
      let d : drop i ys ≡ [] = drop_all i ys (omega (arith, m, f.count)) in
      omega (arith, some, ap length e, ap (λ (z : List ℕ). length (fields_text z)) d)
