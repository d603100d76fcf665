-- A line that is being written, and what a write to a caller's buffer leaves in it.
use Rattle.std.specs.Prelude.{◌≡◌, ℕ, ◌<◌, List, [], ◌∷◌, ◌++◌, length, drop}
use Rattle.bounded.specs.Listed.{listed, pushed}
use Rattle.script.specs.declared.draft.Draft.{Draft}

abbrev pub written : Draft → List ℕ
written d = listed d.text

-- a text of at most 108 bytes after bs were written behind it, each where there was room
abbrev pub filled : List ℕ → List ℕ → List ℕ
filled text [] = text
filled text (b ∷ bs) = filled (pushed 108 text b) bs

-- e is d after bs was written, as far as there was room
pub record Wrote (d : Draft) (bs : List ℕ) (e : Draft) : Type 0 where
  pub text : written e ≡ filled (written d) bs

-- the buffer begins with the text, which has n bytes, and goes on as before
pub record Printed (text : List ℕ) (n : ℕ) (before after : List ℕ) : Type 0 where
  pub count : n ≡ length text
  pub is : after ≡ text ++ drop n before

-- the buffer is shorter than the text, and as before
pub record NoRoom (text before after : List ℕ) : Type 0 where
  pub short : length before < length text
  pub same : after ≡ before
