-- What a word opens as a sample.
use Rattle.std.proofs.Common.{◌≡◌, ℕ, ◌<◌, ◌^◌, T, Ok, Err, Result, sym, ap, ◌∙◌, subst, arith}
use Rattle.std.specs.Result.{IsErr}
use Rattle.std.proofs.lemmas.Bool.{false≢true}
use lib.Ieee.{Float, binary32, fits, to_bits, of_bits}
use lib.Ieee.Bits.{of_bits-fits, of_bits-to_bits, to_bits-lt}
use Rattle.array.specs.Elements.{Opens}
use Rattle.array.proofs.Opened.{opened, refused}

-- no other sample than that of these bits has the word
alone : (w : ℕ) (x e : Float) → x ≡ of_bits binary32 w → T (fits binary32 e) → to_bits binary32 e ≡ w → x ≡ e
alone w x e is g p = is ∙ ap (of_bits binary32) (sym p) ∙ of_bits-to_bits binary32 e g

pub accepts :
    {F : Type 0} (w : ℕ) (x : Float) →
    x ≡ of_bits binary32 w →
    to_bits binary32 x ≡ w →
    Opens {F = F} (λ v. T (fits binary32 v)) (to_bits binary32) w (Ok x)
accepts w x is own =
    let good = subst (λ v. T (fits binary32 v)) (sym is) (of_bits-fits binary32 w) in
    opened _ _ w x good own (λ e g p. alone w x e is g p)

pub refuses :
    {F : Type 0} (w : ℕ) (f : F) (x : Float) →
    x ≡ of_bits binary32 w →
    (to_bits binary32 x ≡ w → ⊥) →
    Opens (λ v. T (fits binary32 v)) (to_bits binary32) w (Err f)
refuses w f x is other = refused _ _ w f (λ e g p. other (ap (to_bits binary32) (alone w x e is g p) ∙ p))

-- no sample has a word above 32 bits
pub too_large :
    {F : Type 0} (w : ℕ) (r : Result Float F) →
    (w < 2 ^ 32 → ⊥) →
    IsErr r →
    Opens (λ v. T (fits binary32 v)) (to_bits binary32) w r
too_large w (Ok x) large err = absurd (false≢true err)
too_large w (Err f) large err = refused _ _ w f (λ e g p. large (omega (arith, to_bits-lt binary32 e g)))
