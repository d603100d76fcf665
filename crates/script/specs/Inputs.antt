-- A whole input as lines.
use Rattle.std.specs.Prelude.{◌≡◌, ℕ, cond, List, [], ◌∷◌, ◌++◌, map, length, ◌==◌, ◌≢◌, nat_le}
use Rattle.std.specs.List.{AllByRecursion}
use Rattle.script.specs.declared.call.Call.{Call}
use Rattle.script.specs.Calls.{Writes}
use Rattle.script.specs.Texts.{ended}

-- a line's bytes without its line feed; one that is too long; bytes at the input's end that no line feed follows
pub data InputLine : Type 0 where
  text : List ℕ → InputLine
  overlong : InputLine
  unended : InputLine

-- a line that a line feed ends
abbrev pub line_of : List ℕ → InputLine
line_of bs = cond (nat_le (length bs) 96) (text bs) overlong

-- what comes after the last line feed, if anything does
abbrev pub last_of : List ℕ → List InputLine
last_of [] = []
last_of (b ∷ bs) = unended ∷ []

-- the lines of an input before which the bytes `held` came, with no line feed among them
abbrev pub lines_from : List ℕ → List ℕ → List InputLine
lines_from held [] = last_of held
lines_from held (b ∷ bs) = cond (b == 10) (line_of held ∷ lines_from [] bs) (lines_from (held ++ b ∷ []) bs)

abbrev pub lines_of : List ℕ → List InputLine
lines_of input = lines_from [] input

-- each line with its line feed, one after another
abbrev pub joined : List (List ℕ) → List ℕ
joined [] = []
joined (l ∷ ls) = ended l ++ joined ls

abbrev pub NoFeed : List ℕ → Type 0
NoFeed bs = AllByRecursion (λ b. b ≢ 10) bs

-- the input is these lines, each with its line feed, and then the rest, which has none
pub record Cut (input : List ℕ) (ls : List (List ℕ)) (rest : List ℕ) : Type 0 where
  pub is : input ≡ joined ls ++ rest
  pub whole : AllByRecursion NoFeed ls
  pub last : NoFeed rest

-- every input is so cut, and its lines are those of the cut
pub record CutAtFeeds : Type 0 where
  pub some : (input : List ℕ) → (ls : List (List ℕ)) × (rest : List ℕ) × Cut input ls rest
  pub lines : (input : List ℕ) (ls : List (List ℕ)) (rest : List ℕ) → Cut input ls rest → lines_of input ≡ map line_of ls ++ last_of rest

-- the line writes the call: only a whole line of at most 96 bytes does
abbrev pub WritesLine : Call → InputLine → Type 0
WritesLine c (text bs) = Writes c bs
WritesLine c overlong = ⊥
WritesLine c unended = ⊥

abbrev pub NoCallLine : InputLine → Type 0
NoCallLine line = (c : Call) → WritesLine c line → ⊥
