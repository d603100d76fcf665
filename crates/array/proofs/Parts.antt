-- A reference and the three parts of its word. References of the same numbers are the same: each fact of a ghost field has one proof.
use Rattle.std.proofs.Common.{◌≡◌, ℕ, ◌+◌, ◌≤◌, Some, None, Option, Result, sym, ◌∙◌, subst, arith}
use native.Mathlib.Bridge.{le_prop}
use Rattle.std.proofs.lemmas.Bool.Decides.{nat_tests}
use Rattle.std.specs.Option.{option_map, ok_or}
use Rattle.array.specs.declared.reference.ArrayRef.{ArrayRef}
use Rattle.array.specs.References.{Plain, plain, parted, reference_word}
use Rattle.array.specs.Elements.{Opens}
use Rattle.array.proofs.Opened.{opened, refused}

abbrev made : (k b n : ℕ) → 1 ≤ k → k ≤ 255 → 1 ≤ n → b + n ≤ 1024 → ArrayRef
made k b n w x y z = record { kind = k; base = b; length = n; known = w; byte = x; filled = y; within = z }

same : (a b : ArrayRef) → a.kind ≡ b.kind → a.base ≡ b.base → a.length ≡ b.length → a ≡ b
same a b p q r =
    let P : ℕ × ℕ × ℕ → Type 0 =
    λ t. (w : 1 ≤ t.0) (x : t.0 ≤ 255) (y : 1 ≤ t.2) (z : t.1 + t.2 ≤ 1024) → a ≡ made t.0 t.1 t.2 w x y z in
    subst P (λ i. (p i, q i, r i))
    (λ w x y z. λ i. made a.kind a.base a.length (le_prop a.known w i) (le_prop a.byte x i) (le_prop a.filled y i) (le_prop a.within z i))
    b.known b.byte b.filled b.within

-- no two references have one word
apart : (a b : ArrayRef) → reference_word (plain a) ≡ reference_word (plain b) → a ≡ b
apart a b e = same a b (omega arith) (omega arith) (omega arith)

-- the reference of a word's three parts has that word
joined : (a : ArrayRef) (w : ℕ) → Some (plain a) ≡ parted w → reference_word (plain a) ≡ w
joined a w is = grind (arith, nat_tests)

-- the three parts of a reference's word are not refused
taken : (a : ArrayRef) (w : ℕ) → ◌≡◌ {A = Option Plain} None (parted w) → reference_word (plain a) ≡ w → ⊥
taken a w is e = grind (arith, nat_tests)

made-opens :
    {F : Type 0} (w : ℕ) (f : F) (r : Option ArrayRef) →
    option_map plain r ≡ parted w →
    Opens (λ _. Unit {0}) (λ a. reference_word (plain a)) w (ok_or r f)
made-opens w f (Some a) is = opened _ _ w a tt (joined a w is) (λ e g p. apart a e (joined a w is ∙ sym p))
made-opens w f None is = refused _ _ w f (λ e g p. taken e w is p)

-- so a word opens as what its parts make
pub opens :
    {F : Type 0} (w : ℕ) (f : F) (r : Option ArrayRef) (o : Result ArrayRef F) →
    option_map plain r ≡ parted w →
    o ≡ ok_or r f →
    Opens (λ _. Unit {0}) (λ a. reference_word (plain a)) w o
opens w f r o is e = subst (λ v. Opens (λ _. Unit {0}) (λ a. reference_word (plain a)) w v) (sym e) (made-opens w f r is)
