-- How an answer of `open` is shown right, for any kind of element.
use Rattle.std.proofs.Common.{◌≡◌, ℕ, true, is_err, Ok, Err, Result, refl, ap, subst, arith}
use Rattle.array.specs.Elements.{Opens}

same_ok : {E F : Type 0} (x y : E) → ◌≡◌ {A = Result E F} (Ok x) (Ok y) → x ≡ y
same_ok x y is = cc

never_ok : {E F : Type 0} (f : F) (x : E) → ◌≡◌ {A = Result E F} (Err f) (Ok x) → ⊥
never_ok f x is = let z : ◌≡◌ {A = ℕ} 0 1 = cc in omega arith

pub opened :
    {E F : Type 0} (valid : E → Type 0) (packed : E → ℕ) (word : ℕ) (x : E) →
    valid x →
    packed x ≡ word →
    ((e : E) → valid e → packed e ≡ word → x ≡ e) →
    Opens {F = F} valid packed word (Ok x)
opened {E} {F} valid packed word x good is alone = record {
  back = λ e g p. ap Ok (alone e g p);
  only = λ e o.
      let P : E → Type 0 = λ v. valid v × (packed v ≡ word) in
      subst P (same_ok {F = F} x e o) (good, is);
}

pub refused :
    {E F : Type 0} (valid : E → Type 0) (packed : E → ℕ) (word : ℕ) (f : F) →
    ((e : E) → valid e → packed e ≡ word → ⊥) →
    Opens valid packed word (Err f)
refused valid packed word f none = record { back = λ e g p. absurd (none e g p); only = λ e o. absurd (never_ok f e o) }

-- a word that is no element's was refused
pub refusal :
    {E F : Type 0} (valid : E → Type 0) (packed : E → ℕ) (word : ℕ) (r : Result E F) →
    Opens valid packed word r →
    ((e : E) → valid e → packed e ≡ word → ⊥) →
    is_err r ≡ true
refusal valid packed word (Ok x) is none = let own = is.only x refl in absurd (none x own.0 own.1)
refusal valid packed word (Err f) is none = refl
