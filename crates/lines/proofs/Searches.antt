-- The first line that tells of an address.
use Rattle.std.proofs.Common.{◌≡◌, ℕ, zero, suc, ◌+◌, ◌<◌, List, [], ◌∷◌, map, length, get_or, Some, None, Option, refl, ap, sym, ◌∙◌, arith}
use Rattle.std.specs.Option.{MatchOption}
use Rattle.lines.specs.declared.types.Found as code
use Rattle.lines.specs.declared.types.Line.{Line}
use Rattle.lines.specs.declared.types.Found.TheVariants.{Waits, Holds}
use Rattle.lines.specs.Model.{absent, found, tells, or_later, waits_at, holds}
use Rattle.lines.specs.Model as model
use Rattle.lines.specs.Plain.{plain_line, plain_found}

-- line k, counted from line j of all, tells what it is to tell
abbrev pub Tells : ℕ → ℕ → List Line → ℕ → model.Found → Type 0
Tells a j ls k f = (d : Line) → tells a (j + k) (plain_line (get_or ls k d)) ≡ f

abbrev pub FirstTells : ℕ → ℕ → List Line → Option code.Found → Type 0
FirstTells a j ls o =
    MatchOption o
    ((k : ℕ) → k < length ls → Tells a j ls k absent)
    (λ f. (i : ℕ) × (i < length ls) × Tells a j ls i (plain_found (Some f)) × ((k : ℕ) → k < i → Tells a j ls k absent))

same_number : (a : ℕ) {m n : ℕ} (l : model.Line) (f : model.Found) → m ≡ n → tells a n l ≡ f → tells a m l ≡ f
same_number a l f e t = ap (λ k. tells a k l) e ∙ t

passed : (a j : ℕ) (l : Line) (later told : model.Found) → tells a j (plain_line l) ≡ absent → told ≡ later → told ≡ or_later (tells a j (plain_line l)) later
passed a j l later told none e = e ∙ ap (λ t. or_later t later) (sym none)

told_here : (f : code.Found) (told later : model.Found) → told ≡ plain_found (Some f) → plain_found (Some f) ≡ or_later told later
told_here (Waits i) told later e = ap (λ t. or_later t later) (sym e)
told_here (Holds v) told later e = ap (λ t. or_later t later) (sym e)

pub first_tells : (a j : ℕ) (ls : List Line) (o : Option code.Found) → FirstTells a j ls o → plain_found o ≡ found a j (map plain_line ls)
first_tells a j [] None h = refl
first_tells a j [] (Some f) h = absurd (omega (arith, h.1))
first_tells a j (l ∷ ls) None h =
    passed a j l _ _ (same_number a _ _ (omega arith) (h 0 (omega arith) l))
    (first_tells a (j + 1) ls None (λ k low d. same_number a _ _ (omega arith) (h (suc k) (omega arith) d)))
first_tells a j (l ∷ ls) (Some f) (zero, low, here, before) = told_here f _ _ (same_number a _ _ (omega arith) (here l))
first_tells a j (l ∷ ls) (Some f) (suc i, low, here, before) =
    passed a j l _ _ (same_number a _ _ (omega arith) (before 0 (omega arith) l))
    (first_tells a (j + 1) ls (Some f) (i, omega arith, (λ d. same_number a _ _ (omega arith) (here d)), λ k few d. same_number a _ _ (omega arith) (before (suc k) (omega arith) d)))
