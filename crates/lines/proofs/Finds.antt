-- What a search of the lines for an address says.
use Rattle.std.proofs.Common.{◌≡◌, ℕ, suc, ◌+◌, ◌<◌, Bool, true, false, cond, eqb, List, [], ◌∷◌, length, get_or, refl, ap, ◌∙◌, subst, arith, eqb-true}
use Rattle.lines.specs.Model.{Line, empty, waiting, filled, waits, Found, absent, waits_at, holds, or_later, found}
use Rattle.lines.specs.Facts.{lines_for}

-- line d from the first that is searched, which has the number j
abbrev WaitsFrom : ℕ → ℕ → List Line → ℕ → Type 0
WaitsFrom a j ls i = (d : ℕ) × (i ≡ j + d) × (d < length ls) × (get_or ls d empty ≡ waiting a (waits (get_or ls d empty)))

abbrev HoldsFrom : ℕ → List Line → ℕ → Type 0
HoldsFrom a ls v = (d : ℕ) × (d < length ls) × (get_or ls d empty ≡ filled a v)

waits_later : (a j : ℕ) (l : Line) (ls : List Line) (i : ℕ) → WaitsFrom a (j + 1) ls i → WaitsFrom a j (l ∷ ls) i
waits_later a j l ls i (d, e, h, w) = (suc d, omega arith, omega arith, w)

holds_later : (a : ℕ) (l : Line) (ls : List Line) (v : ℕ) → HoldsFrom a ls v → HoldsFrom a (l ∷ ls) v
holds_later a l ls v (d, h, w) = (suc d, omega arith, w)

-- a line of another address tells nothing
waits_by : (a j i b : ℕ) (ws : List ℕ) (ls : List Line) (t : Bool) → eqb b a ≡ t → (found a (j + 1) ls ≡ waits_at i → WaitsFrom a (j + 1) ls i)
    → or_later (cond t (waits_at j) absent) (found a (j + 1) ls) ≡ waits_at i → WaitsFrom a j (waiting b ws ∷ ls) i
waits_by a j i b ws ls true t later e =
    let q : j ≡ i = cc in
    (0, omega arith, omega arith, ap (λ c. waiting c ws) (eqb-true b a t))
waits_by a j i b ws ls false t later e = waits_later a j (waiting b ws) ls i (later e)

passed_filled : (v i : ℕ) (f : Found) (t : Bool) → or_later (cond t (holds v) absent) f ≡ waits_at i → f ≡ waits_at i
passed_filled v i f true e = let z : ◌≡◌ {A = ℕ} 0 1 = cc in absurd (omega arith)
passed_filled v i f false e = e

waits_from : (a j : ℕ) (ls : List Line) (i : ℕ) → found a j ls ≡ waits_at i → WaitsFrom a j ls i
waits_from a j [] i e = let z : ◌≡◌ {A = ℕ} 0 1 = cc in absurd (omega arith)
waits_from a j (empty ∷ ls) i e = waits_later a j empty ls i (waits_from a (j + 1) ls i e)
waits_from a j (waiting b ws ∷ ls) i e = waits_by a j i b ws ls (eqb b a) refl (waits_from a (j + 1) ls i) e
waits_from a j (filled b v ∷ ls) i e =
    waits_later a j (filled b v) ls i (waits_from a (j + 1) ls i (passed_filled v i (found a (j + 1) ls) (eqb b a) e))

pub found_waits : (a : ℕ) (ls : List Line) (i : ℕ) → found a 0 ls ≡ waits_at i → (i < length ls) × (get_or ls i empty ≡ waiting a (waits (get_or ls i empty)))
found_waits a ls i e =
    let (d, q, h, w) = waits_from a 0 ls i e in
    let s : d ≡ i = omega arith in
    (omega arith, subst (λ k. get_or ls k empty ≡ waiting a (waits (get_or ls k empty))) s w)

passed_waiting : (j v : ℕ) (f : Found) (t : Bool) → or_later (cond t (waits_at j) absent) f ≡ holds v → f ≡ holds v
passed_waiting j v f true e = let z : ◌≡◌ {A = ℕ} 0 1 = cc in absurd (omega arith)
passed_waiting j v f false e = e

holds_by : (a v b u : ℕ) (ls : List Line) (f : Found) (t : Bool) → eqb b a ≡ t → (f ≡ holds v → HoldsFrom a ls v)
    → or_later (cond t (holds u) absent) f ≡ holds v → HoldsFrom a (filled b u ∷ ls) v
holds_by a v b u ls f true t later e =
    let q : u ≡ v = cc in
    (0, omega arith, ap (λ c. filled c u) (eqb-true b a t) ∙ ap (filled a) q)
holds_by a v b u ls f false t later e = holds_later a (filled b u) ls v (later e)

holds_from : (a j : ℕ) (ls : List Line) (v : ℕ) → found a j ls ≡ holds v → HoldsFrom a ls v
holds_from a j [] v e = let z : ◌≡◌ {A = ℕ} 0 1 = cc in absurd (omega arith)
holds_from a j (empty ∷ ls) v e = holds_later a empty ls v (holds_from a (j + 1) ls v e)
holds_from a j (waiting b ws ∷ ls) v e =
    holds_later a (waiting b ws) ls v (holds_from a (j + 1) ls v (passed_waiting j v (found a (j + 1) ls) (eqb b a) e))
holds_from a j (filled b u ∷ ls) v e = holds_by a v b u ls (found a (j + 1) ls) (eqb b a) refl (holds_from a (j + 1) ls v) e

pub found_holds : (a : ℕ) (ls : List Line) (v : ℕ) → found a 0 ls ≡ holds v → (i : ℕ) × (i < length ls) × (get_or ls i empty ≡ filled a v)
found_holds a ls v e = holds_from a 0 ls v e

-- what is not absent stays told
absent_by : (a j : ℕ) (g : Found) (ls : List Line) (t : Bool) → (g ≡ absent → ⊥) → (found a (j + 1) ls ≡ absent → lines_for a ls ≡ 0)
    → or_later (cond t g absent) (found a (j + 1) ls) ≡ absent → cond t 1 0 + lines_for a ls ≡ 0
absent_by a j absent ls true n later e = absurd (n refl)
absent_by a j (waits_at i) ls true n later e = let z : ◌≡◌ {A = ℕ} 0 1 = cc in absurd (omega arith)
absent_by a j (holds v) ls true n later e = let z : ◌≡◌ {A = ℕ} 0 1 = cc in absurd (omega arith)
absent_by a j g ls false n later e = let h = later e in omega arith

absent_from : (a j : ℕ) (ls : List Line) → found a j ls ≡ absent → lines_for a ls ≡ 0
absent_from a j [] e = refl
absent_from a j (empty ∷ ls) e = let h = absent_from a (j + 1) ls e in omega arith
absent_from a j (waiting b ws ∷ ls) e =
    absent_by a j (waits_at j) ls (eqb b a) (λ q. let z : ◌≡◌ {A = ℕ} 0 1 = cc in omega arith) (absent_from a (j + 1) ls) e
absent_from a j (filled b v ∷ ls) e =
    absent_by a j (holds v) ls (eqb b a) (λ q. let z : ◌≡◌ {A = ℕ} 0 1 = cc in omega arith) (absent_from a (j + 1) ls) e

pub found_absent : (a : ℕ) (ls : List Line) → found a 0 ls ≡ absent → lines_for a ls ≡ 0
found_absent a ls e = absent_from a 0 ls e
