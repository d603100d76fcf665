-- What a reader has of an input that comes byte by byte.
use Rattle.std.specs.Prelude.{◌≡◌, ℕ, Bool, true, false, cond, List, [], ◌∷◌, ◌++◌, Some, None, Option, ◌==◌}
use Rattle.bounded.specs.declared.list.ArrayVec.{ArrayVec}
use Rattle.bounded.specs.Listed.{listed}
use Rattle.script.specs.declared.reader.Line.{Line}
use Rattle.script.specs.declared.reader.Line.TheVariants.{Text, Overlong, Unended}
use Rattle.script.specs.declared.reader.LineReader.{LineReader}
use Rattle.script.specs.Inputs.{InputLine, text, overlong, unended, line_of, last_of, lines_of}

abbrev pub told : Line → InputLine
told (Text t) = text t.now
told Overlong = overlong
told Unended = unended

abbrev pub told_end : Option Line → List InputLine
told_end None = []
told_end (Some line) = told line ∷ []

-- the line as far as it is read, and whether its line feed came
pub record Reading : Type 0 where
  pub line : InputLine
  pub ended : Bool

-- the bytes that are kept of a line, which is too long where none are
abbrev pub kept_line : {cap : ℕ} → Option (ArrayVec ℕ cap) → InputLine
kept_line None = overlong
kept_line (Some bytes) = text (listed bytes)

abbrev pub reading : LineReader → Reading
reading r = record { line = kept_line r.kept; ended = r.ended }

abbrev pub begun : Reading
begun = record { line = text []; ended = false }

-- after a line feed another line begins
abbrev pub opened : Reading → Reading
opened m = cond m.ended begun m

-- one byte more
abbrev pub grown : InputLine → ℕ → InputLine
grown (text bs) b = line_of (bs ++ b ∷ [])
grown overlong b = overlong
grown unended b = unended

abbrev pub fed : Reading → ℕ → Reading
fed m b = cond (b == 10) (record { line = (opened m).line; ended = true }) (record { line = grown (opened m).line b; ended = false })

-- the line that is read now, if it is ended
abbrev pub given : Reading → List InputLine
given m = cond m.ended (m.line ∷ []) []

-- what the end of the input leaves
abbrev pub left : InputLine → List InputLine
left (text bs) = last_of bs
left overlong = unended ∷ []
left unended = unended ∷ []

abbrev pub at_end : Reading → List InputLine
at_end m = left (opened m).line

-- all lines that are read while the bytes are fed, and at their end
abbrev pub read_all : Reading → List ℕ → List InputLine
read_all m [] = at_end m
read_all m (b ∷ bs) = given (fed m b) ++ read_all (fed m b) bs

-- a reader that is fed a whole input gives just the lines of the input
abbrev pub ReadsAll : Type 0
ReadsAll = (input : List ℕ) → read_all begun input ≡ lines_of input
