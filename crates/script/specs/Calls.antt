-- The calls of a script, as the lines that write them.
use Rattle.std.specs.Prelude.{◌≡◌, ℕ, ◌^◌, ◌<◌, List, [], ◌∷◌, Ok, Result}
use Rattle.script.specs.declared.call.Call.{Call}
use Rattle.script.specs.declared.call.Call.TheVariants.{Start, Read, Write, Act, Deliver, Draw, Finish, PutBack, Create}
use Rattle.script.specs.declared.fault.NotALine.{NotALine}
use Rattle.script.specs.Texts.{fields_text, Small}

-- S R W A D T F P C
abbrev pub letter_of : Call → ℕ
letter_of (Start nodes lines cells) = 83
letter_of (Read node address frame instruction) = 82
letter_of (Write node address word) = 87
letter_of (Act node pick) = 65
letter_of (Deliver pick) = 68
letter_of (Draw node) = 84
letter_of (Finish node place) = 70
letter_of (PutBack node place) = 80
letter_of (Create kind length) = 67

abbrev pub fields_of : Call → List ℕ
fields_of (Start nodes lines cells) = nodes ∷ lines ∷ cells ∷ []
fields_of (Read node address frame instruction) = node ∷ address ∷ frame ∷ instruction ∷ []
fields_of (Write node address word) = node ∷ address ∷ word ∷ []
fields_of (Act node pick) = node ∷ pick ∷ []
fields_of (Deliver pick) = pick ∷ []
fields_of (Draw node) = node ∷ []
fields_of (Finish node place) = node ∷ place ∷ []
fields_of (PutBack node place) = node ∷ place ∷ []
fields_of (Create kind length) = kind ∷ length ∷ []

-- a read's frame and instruction have at most 32 bits
abbrev pub Narrow : Call → Type 0
Narrow (Start nodes lines cells) = Unit {0}
Narrow (Read node address frame instruction) = (frame < 2 ^ 32) × (instruction < 2 ^ 32)
Narrow (Write node address word) = Unit {0}
Narrow (Act node pick) = Unit {0}
Narrow (Deliver pick) = Unit {0}
Narrow (Draw node) = Unit {0}
Narrow (Finish node place) = Unit {0}
Narrow (PutBack node place) = Unit {0}
Narrow (Create kind length) = Unit {0}

-- each field fits its type, as it does in every call that there is
pub record Fits (c : Call) : Type 0 where
  pub small : Small (fields_of c)
  pub narrow : Narrow c

-- the letter, and then each field with a comma before it
abbrev pub call_text : Call → List ℕ
call_text c = letter_of c ∷ fields_text (fields_of c)

-- the line, without its line feed, is the call's
pub record Writes (c : Call) (line : List ℕ) : Type 0 where
  pub is : line ≡ call_text c
  pub fits : Fits c

-- no call is written so
abbrev pub NoCall : List ℕ → Type 0
NoCall line = (c : Call) → Writes c line → ⊥

-- a line that a call writes is read as that call
abbrev pub ReadsBack : List ℕ → Result Call NotALine → Type 0
ReadsBack line r = (c : Call) → Writes c line → r ≡ Ok c

-- no other call is written as this one
abbrev pub Alone : Call → Type 0
Alone c = (d : Call) → Writes d (call_text c) → d ≡ c

-- a line's letter and the text behind it are the call's
pub record Parts (letter : ℕ) (text : List ℕ) (c : Call) : Type 0 where
  pub kind : letter ≡ letter_of c
  pub is : text ≡ fields_text (fields_of c)
  pub fits : Fits c

abbrev pub NoParts : ℕ → List ℕ → Type 0
NoParts letter text = (c : Call) → Parts letter text c → ⊥
