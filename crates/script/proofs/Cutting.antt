-- The lines of an input are what its line feeds part.
use Rattle.std.proofs.Common.{◌≡◌, ℕ, eqb, List, [], ◌∷◌, ◌++◌, map, sym, refl, ap, ◌∙◌, ⊎_elim, append_assoc}
use Rattle.std.proofs.lemmas.List.{append-nil}
use Rattle.std.proofs.lemmas.Bool.{cond-false, ne_eqb, cases_eq}
use Rattle.std.specs.List.{AllByRecursion}
use Rattle.script.specs.Inputs.{InputLine, line_of, last_of, lines_from, lines_of, joined, NoFeed, Cut, CutAtFeeds}
use Rattle.script.specs.Texts.{ended}

-- bytes without a line feed are held
held_on : (held l more : List ℕ) → NoFeed l → lines_from held (l ++ more) ≡ lines_from (held ++ l) more
held_on held [] more h = ap (λ (t : List ℕ). lines_from t more) (sym (append-nil held))
held_on held (b ∷ l) more h =
    cond-false (eqb b 10) _ _ (ne_eqb b 10 h.0)
    ∙ (held_on (held ++ b ∷ []) l more h.1 ∙ ap (λ (t : List ℕ). lines_from t more) (append_assoc held (b ∷ []) l))

one_line : (l more : List ℕ) → NoFeed l → lines_of (ended l ++ more) ≡ line_of l ∷ lines_of more
one_line l more h = ap lines_of (append_assoc l (10 ∷ []) more) ∙ held_on [] l (10 ∷ more) h

rest_line : (rest : List ℕ) → NoFeed rest → lines_of rest ≡ last_of rest
rest_line rest h = ap lines_of (sym (append-nil rest)) ∙ held_on [] rest [] h

lines_of_lem : (ls : List (List ℕ)) (rest : List ℕ) → AllByRecursion NoFeed ls → NoFeed rest → lines_of (joined ls ++ rest) ≡ map line_of ls ++ last_of rest
lines_of_lem [] rest h r = rest_line rest r
lines_of_lem (l ∷ ls) rest h r =
    ap lines_of (append_assoc (ended l) (joined ls) rest)
    ∙ (one_line l (joined ls ++ rest) h.0 ∙ ap (λ (z : List InputLine). line_of l ∷ z) (lines_of_lem ls rest h.1 r))

-- a byte more in front
cut_feed : (b : ℕ) (bs : List ℕ) (ls : List (List ℕ)) (rest : List ℕ) → b ≡ 10 → Cut bs ls rest → Cut (b ∷ bs) ([] ∷ ls) rest
cut_feed b bs ls rest e k = let i = k.is in record { is = cc; whole = (tt, k.whole); last = k.last }

cut_byte : (b : ℕ) (bs : List ℕ) (ls : List (List ℕ)) (rest : List ℕ) → (b ≡ 10 → ⊥) → Cut bs ls rest → (ms : List (List ℕ)) × (more : List ℕ) × Cut (b ∷ bs) ms more
cut_byte b bs [] rest ne k = ([], b ∷ rest, record { is = ap (λ (t : List ℕ). b ∷ t) k.is; whole = tt; last = (ne, k.last) })
cut_byte b bs (l ∷ ls) rest ne k =
    ((b ∷ l) ∷ ls, rest, record { is = ap (λ (t : List ℕ). b ∷ t) k.is; whole = ((ne, k.whole.0), k.whole.1); last = k.last })

cuts : (input : List ℕ) → (ls : List (List ℕ)) × (rest : List ℕ) × Cut input ls rest
cuts [] = ([], [], record { is = refl; whole = tt; last = tt })
cuts (b ∷ bs) =
    let k = cuts bs in
    ⊎_elim
    (λ e. ([] ∷ k.0, k.1, cut_feed b bs k.0 k.1 e k.2))
    (λ ne. cut_byte b bs k.0 k.1 ne k.2)
    (cases_eq b 10)

pub cut_at_feeds : CutAtFeeds
cut_at_feeds = record { some = cuts; lines = λ input ls rest k. ap lines_of k.is ∙ lines_of_lem ls rest k.whole k.last }
