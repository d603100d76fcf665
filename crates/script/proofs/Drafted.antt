-- Writes to a draft, one after another.
use Rattle.std.proofs.Common.{◌≡◌, ℕ, suc, ◌+◌, ◌/◌, ◌%◌, ◌^◌, ◌<◌, ◌≤◌, List, [], ◌∷◌, ◌++◌, length, get_or, take, codes, decimal, sym, refl, ap, ◌∙◌, append_assoc, arith, length-append}
use Rattle.std.proofs.lemmas.Bool.{cond-true, lt-ltb}
use Rattle.std.proofs.lemmas.Fmt.{decimal_step}
use Rattle.std.proofs.lemmas.List.{take_more, take_all, append-nil, length_push}
use Rattle.bounded.specs.Listed.{pushed}
use Rattle.script.specs.declared.draft.Draft.{Draft}
use Rattle.script.specs.Drafts.{written, filled, Wrote}
use Rattle.script.specs.Texts.{fields_text, refused_text, ended, Small}
use Rattle.script.proofs.Commas.{fields_split, length_fields}

-- the digits before the last
pub length-step : (n : ℕ) → 10 ≤ n → n < 2 ^ 64 → length (decimal n) ≡ length (decimal (n / 10)) + 1
length-step n h fits = ap length (decimal_step n h fits) ∙ length-append (decimal (n / 10)) ((48 + n % 10) ∷ [])

filled_on : (text xs bs : List ℕ) → filled (filled text xs) bs ≡ filled text (xs ++ bs)
filled_on text [] bs = refl
filled_on text (x ∷ xs) bs = filled_on (pushed 108 text x) xs bs

-- where there is room for all
filled_all : (text bs : List ℕ) → length text + length bs ≤ 108 → filled text bs ≡ text ++ bs
filled_all text [] room = sym (append-nil text)
filled_all text (b ∷ bs) room =
    let lt : length text < 108 = omega (arith, room) in
    let e : pushed 108 text b ≡ text ++ b ∷ [] = cond-true _ _ _ (lt-ltb _ _ lt) in
    ap (λ (t : List ℕ). filled t bs) e ∙ (filled_all (text ++ b ∷ []) bs (omega (arith, room, length_push text b)) ∙ append_assoc text (b ∷ []) bs)

pub then : (d e f : Draft) (a b : List ℕ) → Wrote d a e → Wrote e b f → Wrote d (a ++ b) f
then d e f a b p q = record { text = q.text ∙ (ap (λ (t : List ℕ). filled t b) p.text ∙ filled_on (written d) a b) }

-- all that is written to a new draft
pub fresh : (d e : Draft) (a b : List ℕ) → written d ≡ [] → Wrote d a e → a ≡ b → length b ≤ 108 → written e ≡ b
fresh d e a b none w same room = w.text ∙ (ap (λ (t : List ℕ). filled t a) none ∙ (ap (filled []) same ∙ filled_all [] b (omega (arith, room))))

-- a text, byte by byte
pub part_more : (d e f : Draft) (bs : List ℕ) (i : ℕ) → i < length bs → Wrote d (take i bs) e → Wrote e (get_or bs i 0 ∷ []) f → Wrote d (take (i + 1) bs) f
part_more d e f bs i lt p q = rw (take_more bs i 0 lt) (then d e f (take i bs) (get_or bs i 0 ∷ []) p q)

-- a word and numbers, one by one
pub number_more : (d e f : Draft) (ns : List ℕ) (i : ℕ) → i < length ns → Wrote d (fields_text (take i ns)) e → Wrote e (44 ∷ decimal (get_or ns i 0)) f → Wrote d (fields_text (take (i + 1) ns)) f
number_more d e f ns i lt p q = rw (take_more ns i 0 lt) (simp (fields_split, append-nil) (then d e f (fields_text (take i ns)) (44 ∷ decimal (get_or ns i 0)) p q))

pub numbers_all : (d e f line : Draft) (word ns : List ℕ) (i : ℕ) → written d ≡ [] → Wrote d word e → Wrote e (fields_text (take i ns)) f → Wrote f (10 ∷ []) line → length ns ≤ i → length word ≤ 2 → length ns ≤ 5 → Small ns → written line ≡ ended (word ++ fields_text ns)
numbers_all d e f line word ns i none p q r all w n small =
    let text = word ++ fields_text ns in
    let whole : Wrote e (fields_text ns) f = rw (take_all i ns all) at q in
    fresh d line (text ++ 10 ∷ []) (ended text) none (then d f line text (10 ∷ []) (then d e f word (fields_text ns) p whole) r) refl
    (omega (arith, w, n, length_fields ns small, length-append word (fields_text ns), length-append text (10 ∷ [])))

pub small_each : (xs : List ℕ) → ((i : ℕ) → get_or xs i 0 < 2 ^ 64) → Small xs
small_each [] h = tt
small_each (x ∷ xs) h = (h 0, small_each xs (λ i. h (suc i)))

-- the parts of a refusal
pub refusal_all : (d line : Draft) (n l a b : List ℕ) → written d ≡ [] → Wrote d (codes "no" ++ ((44 ∷ n) ++ ((44 ∷ []) ++ (l ++ ((44 ∷ a) ++ ((44 ∷ b) ++ 10 ∷ [])))))) line → length n ≤ 20 → length l ≤ 6 → length a ≤ 20 → length b ≤ 20 → written line ≡ ended (refused_text n l a b)
refusal_all d line n l a b none w hn hl ha hb = fresh d line _ (ended (refused_text n l a b)) none w (simp (append_assoc, append-nil)) (simp (length-append) (omega (arith, hn, hl, ha, hb)))
