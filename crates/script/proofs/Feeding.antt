-- A reader that is fed an input byte by byte.
use Rattle.std.proofs.Common.{◌≡◌, ℕ, ◌<◌, ◌≤◌, Bool, true, false, cond, eqb, leb, List, [], ◌∷◌, ◌++◌, length, sym, refl, ap, ◌∙◌, ⊎_elim, arith}
use Rattle.std.proofs.lemmas.List.{length_push}
use Rattle.std.proofs.lemmas.Bool.{cond-true, cond-false, le-leb, lt-leb, cases_lt}
use Rattle.script.specs.Inputs.{InputLine, text, overlong, unended, line_of, last_of, lines_from}
use Rattle.script.specs.Readers.{Reading, begun, opened, grown, given, left, read_all, ReadsAll}

kept : (bs : List ℕ) → length bs ≤ 96 → line_of bs ≡ text bs
kept bs l = cond-true (leb (length bs) 96) (text bs) overlong (le-leb (length bs) 96 l)

passed : (bs : List ℕ) → 96 < length bs → line_of bs ≡ overlong
passed bs l = cond-false (leb (length bs) 96) (text bs) overlong (lt-leb (length bs) 96 l)

-- one byte more, and the end, of a line as it is kept
grown_line : (held : List ℕ) (b : ℕ) → grown (line_of held) b ≡ line_of (held ++ b ∷ [])
grown_line held b =
    ⊎_elim
    (λ l. ap (λ (z : InputLine). grown z b) (passed held l) ∙ sym (passed (held ++ b ∷ []) (omega (arith, length_push held b))))
    (λ l. ap (λ (z : InputLine). grown z b) (kept held l))
    (cases_lt 96 (length held))

left_long : (held : List ℕ) → 96 < length held → unended ∷ [] ≡ last_of held
left_long [] l = absurd (omega (arith, l))
left_long (b ∷ bs) l = refl

left_line : (held : List ℕ) → left (line_of held) ≡ last_of held
left_line held =
    ⊎_elim
    (λ l. ap left (passed held l) ∙ left_long held l)
    (λ l. ap left (kept held l))
    (cases_lt 96 (length held))

step : (v : Bool) (m : Reading) (b : ℕ) (held bs : List ℕ) → (opened m).line ≡ line_of held → read_all (record { line = (opened m).line; ended = true }) bs ≡ lines_from [] bs → read_all (record { line = grown (opened m).line b; ended = false }) bs ≡ lines_from (held ++ b ∷ []) bs → given (cond v (record { line = (opened m).line; ended = true }) (record { line = grown (opened m).line b; ended = false })) ++ read_all (cond v (record { line = (opened m).line; ended = true }) (record { line = grown (opened m).line b; ended = false })) bs ≡ cond v (line_of held ∷ lines_from [] bs) (lines_from (held ++ b ∷ []) bs)
step true m b held bs e p q = ap (λ (l : InputLine). l ∷ read_all (record { line = (opened m).line; ended = true }) bs) e ∙ ap (λ (ls : List InputLine). line_of held ∷ ls) p
step false m b held bs e p q = q

reads_from : (m : Reading) (held input : List ℕ) → (opened m).line ≡ line_of held → read_all m input ≡ lines_from held input
reads_from m held [] e = ap left e ∙ left_line held
reads_from m held (b ∷ bs) e =
    step (eqb b 10) m b held bs e
    (reads_from (record { line = (opened m).line; ended = true }) [] bs refl)
    (reads_from (record { line = grown (opened m).line b; ended = false }) (held ++ b ∷ []) bs (ap (λ (z : InputLine). grown z b) e ∙ grown_line held b))

pub reads_all : ReadsAll
reads_all input = reads_from begun [] input refl
