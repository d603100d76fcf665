-- Numbers at the front of a text.
use Rattle.std.proofs.Common.{◌≡◌, ℕ, zero, suc, ◌+◌, ◌-◌, ◌*◌, ◌^◌, ◌<◌, ◌≤◌, Bool, true, false, ◌&&◌, eqb, ltb, List, [], ◌∷◌, ◌++◌, length, get_or, take, drop, decimal, sym, refl, ap, ◌∙◌, subst, ⊎_elim, arith, le-ltb, lt-ltb, true≢false}
use Rattle.std.specs.Str.Parse.{AllDigits, digits_value}
use Rattle.std.specs.Int.{IsInRange, IsOutOfRange}
use Rattle.std.specs.Result.{IsErr, OkIff}
use Rattle.std.specs.declared.result.Result.{Result}
use Rattle.std.specs.declared.result.Result.TheVariants.{Ok, Err}
use Rattle.std.specs.Char.{digit_value}
use Rattle.std.specs.Float.Numeral.{digits_len}
use Rattle.std.proofs.lemmas.Str.Parse.{IsNumeralModel, numerals_by_value, tells_digits, digit_from_value, digit_at, digits_value-take-le}
use Rattle.std.proofs.lemmas.Int.Digits.{digits_value_more}
use Rattle.std.proofs.lemmas.Bool.{cond-true, cond-false}
use Rattle.std.proofs.lemmas.Fmt.{decimal-digits_value, digits_decimal, decimal_nonempty, first_decimal, decimal_digit, digits_value-decimal}
use Rattle.std.proofs.lemmas.Bool.Decides.{nat_tests}
use Rattle.std.proofs.lemmas.List.{take-append-drop}
use Rattle.script.specs.Texts.{NoDigit, Parted, Front, NoFront}

pub own : IsNumeralModel (AllDigits 10) (digits_value 10)
own = numerals_by_value (AllDigits 10) tells_digits

-- a digit is no other byte
apart : (c : ℕ) → digit_value c < 10 → IsOutOfRange 48 57 c → ⊥
apart c d o = let i = digit_from_value c d in ⊎_elim (λ l. omega arith) (λ l. omega arith) o

-- digits end where the text goes on with another byte
pub cut : (ds es p q : List ℕ) → AllDigits 10 ds → AllDigits 10 es → NoDigit p → NoDigit q → ds ++ p ≡ es ++ q → (ds ≡ es) × (p ≡ q)
cut [] [] p q hd he hp hq e = (refl, e)
cut [] (x ∷ es) p q hd he hp hq e = absurd (apart x he.0 (subst NoDigit e hp))
cut (d ∷ ds) [] p q hd he hp hq e = absurd (apart d hd.0 (subst NoDigit (sym e) hq))
cut (d ∷ ds) (x ∷ es) p q hd he hp hq e =
    let tails : ds ++ p ≡ es ++ q = cc in
    let heads : d ≡ x = cc in
    let both = cut ds es p q hd.1 he.1 hp hq tails in
    let fronts = both.0 in
    (cc, both.1)

-- the digits that a text begins with
front_digits : (n : ℕ) (text : List ℕ) → n ≡ digits_len text → AllDigits 10 (take n text)
front_digits zero text e = tt
front_digits (suc n) [] e = tt
front_digits (suc n) (b ∷ bs) e =
    let d : digit_value b < 10 = grind (arith, nat_tests) in
    let m : n ≡ digits_len bs = grind (arith, nat_tests) in
    (d, front_digits n bs m)

after_digits : (n : ℕ) (text : List ℕ) → n ≡ digits_len text → NoDigit (drop n text)
after_digits zero [] e = tt
after_digits (suc n) [] e = tt
after_digits zero (b ∷ bs) e = grind (arith, nat_tests)
after_digits (suc n) (b ∷ bs) e = let m : n ≡ digits_len bs = grind (arith, nat_tests) in after_digits n bs m

pub parted : (text front rest : List ℕ) (n : ℕ) → n ≡ digits_len text → front ≡ take n text → rest ≡ drop n text → Parted text front rest
parted text front rest n e f r = record { is = rw (f, r) (sym (take-append-drop n text)); digits = rw f (front_digits n text e); ends = rw r (after_digits n text e) }

-- digits of which some are read: what one more makes of their number, which the whole number does not fall below
module _ (ds : List ℕ) (i n : ℕ) (all : AllDigits 10 ds) (lt : i < length ds) (so_far : n ≡ digits_value 10 (take i ds)) where
  pub is_digit : IsInRange 48 57 (get_or ds i 0)
  is_digit = digit_at ds i all lt

  worth : digit_value (get_or ds i 0) ≡ get_or ds i 0 - 48
  worth =
      let low : 48 ≤ get_or ds i 0 = omega (arith, is_digit.0) in
      let high : get_or ds i 0 < 58 = omega (arith, is_digit.1) in
      cond-false _ _ _ (le-ltb (get_or ds i 0) 48 low) ∙ cond-true _ _ _ (lt-ltb (get_or ds i 0) 58 high)

  pub one_more : n * 10 + (get_or ds i 0 - 48) ≡ digits_value 10 (take (i + 1) ds)
  one_more = omega (arith, digits_value_more 10 ds i lt, worth, so_far)

  pub at_most : n * 10 + (get_or ds i 0 - 48) ≤ digits_value 10 ds
  at_most = omega (arith, one_more, digits_value-take-le 10 ds (i + 1) (omega arith))

-- what is refused, where it must be
pub refused : {T E : Type 0} (r : Result T E) (P : Type 0) (v : T) → IsErr r → (P → ⊥) → OkIff r P v
refused (Ok x) P v e none = absurd (true≢false (sym e))
refused (Err y) P v e none = none

-- a number at the front is just the digits there
same_front : (text front rest : List ℕ) → Parted text front rest → (n : ℕ) (more : List ℕ) → Front text n more → front ≡ decimal n
same_front text front rest p n more f = (cut front (decimal n) rest more p.digits (digits_decimal own n f.fits) p.ends f.ends (sym p.is ∙ f.is)).0

-- no number is written with no digit, or with a zero in front
decimal_form : (n : ℕ) → n < 2 ^ 64 → (0 < length (decimal n)) × (get_or (decimal n) 0 0 ≡ 48 → length (decimal n) ≡ 1)
decimal_form zero fits = (decimal_nonempty 0 fits, λ _. ap length (decimal_digit 0 (omega arith)))
decimal_form (suc n) fits = (decimal_nonempty (suc n) fits, λ e. absurd (omega (arith, e, first_decimal (suc n) (omega arith) fits)))

-- a zero with more digits behind it
abbrev pub leads : List ℕ → Bool
leads ds = ltb 1 (length ds) && eqb (get_or ds 0 0) 48

zero_alone : (ds : List ℕ) → false ≡ leads ds → get_or ds 0 0 ≡ 48 → 0 < length ds → length ds ≡ 1
zero_alone ds h e some = grind (arith, nat_tests)

-- what number stands at the front, and where there is none
pub taken : (text front rest : List ℕ) (n : ℕ) → Parted text front rest → false ≡ leads front → ((0 < length front) × (digits_value 10 front < 2 ^ 64)) × (n ≡ digits_value 10 front) → Front text n rest
taken text front rest n p lead v =
    rw v.1 (record { is = rw (decimal-digits_value own front p.digits v.0.0 (λ z. zero_alone front lead z v.0.0) v.0.1) p.is; fits = v.0.1; ends = p.ends })

pub zero_leads : (text front rest : List ℕ) → Parted text front rest → true ≡ leads front → NoFront text
zero_leads text front rest p h n more f =
    let e = same_front text front rest p n more f in
    let long : 1 < length front = grind (arith, nat_tests) in
    let first : get_or front 0 0 ≡ 48 = grind (arith, nat_tests) in
    omega (arith, long, ap length e, (decimal_form n f.fits).1 (sym (ap (λ (d : List ℕ). get_or d 0 0) e) ∙ first))

pub no_value : (text front rest : List ℕ) → Parted text front rest → ((0 < length front) × (digits_value 10 front < 2 ^ 64) → ⊥) → NoFront text
no_value text front rest p none n more f =
    let e = same_front text front rest p n more f in
    let form = decimal_form n f.fits in
    none (omega (arith, form.0, ap length e), omega (arith, ap (digits_value 10) e, digits_value-decimal own n f.fits))
