-- Numbers and fields as bytes. 44 is the comma, 45 the dash, 10 the line feed, 48 to 57 are the digits.
use Rattle.std.specs.Prelude.{◌≡◌, ℕ, ◌^◌, ◌<◌, List, [], ◌∷◌, ◌++◌, map, length, Some, None, codes, decimal, Option}
use Rattle.std.specs.Int.{IsOutOfRange}
use Rattle.std.specs.Str.Parse.{AllDigits}

-- each text, with a comma before it
abbrev pub commas : List (List ℕ) → List ℕ
commas [] = []
commas (t ∷ ts) = 44 ∷ (t ++ commas ts)

-- each number, with a comma before it
abbrev pub fields_text : List ℕ → List ℕ
fields_text xs = commas (map decimal xs)

-- the number, or a dash where there is none
abbrev pub option_text : Option ℕ → List ℕ
option_text None = 45 ∷ []
option_text (Some n) = decimal n

-- a refusal's number, layer, node and address
abbrev pub refused_text : List ℕ → List ℕ → List ℕ → List ℕ → List ℕ
refused_text number layer node address = codes "no" ++ commas (number ∷ layer ∷ node ∷ address ∷ [])

-- a text with its line feed
abbrev pub ended : List ℕ → List ℕ
ended text = text ++ 10 ∷ []

-- each number has at most 64 bits
abbrev pub Small : List ℕ → Type 0
Small [] = Unit {0}
Small (x ∷ xs) = (x < 2 ^ 64) × Small xs

-- the text does not begin with a digit
abbrev pub NoDigit : List ℕ → Type 0
NoDigit [] = Unit {0}
NoDigit (b ∷ bs) = IsOutOfRange 48 57 b

-- the digits that the text begins with, and what follows them
pub record Parted (text front rest : List ℕ) : Type 0 where
  pub is : text ≡ front ++ rest
  pub digits : AllDigits 10 front
  pub ends : NoDigit rest

-- the text begins with the number n, of at most 64 bits, and then comes the rest
pub record Front (text : List ℕ) (n : ℕ) (rest : List ℕ) : Type 0 where
  pub is : text ≡ decimal n ++ rest
  pub fits : n < 2 ^ 64
  pub ends : NoDigit rest

-- no such number stands at the front of the text
abbrev pub NoFront : List ℕ → Type 0
NoFront text = (n : ℕ) (rest : List ℕ) → Front text n rest → ⊥

-- the text has just n fields, each with a comma before it, and these are their numbers
pub record Fielded (n : ℕ) (text xs : List ℕ) : Type 0 where
  pub is : text ≡ fields_text xs
  pub small : Small xs
  pub count : length xs ≡ n

-- the text has no such fields
abbrev pub NotFielded : ℕ → List ℕ → Type 0
NotFielded n text = (xs : List ℕ) → Fielded n text xs → ⊥
