-- What every board keeps.
use Rattle.std.specs.Prelude.{◌≡◌, ℕ, ◌+◌, ◌<◌, ◌≤◌, Bool, true, false, cond, List, [], ◌∷◌, length, ◌==◌}
use Rattle.lines.specs.Model.{Place, free, held, deferred, ready, drawn, Line, empty, waiting, filled, Command, reading, writing}
use Rattle.lines.specs.Model.{Tables, place_at, line_at, read_of, waits, writes}

-- how often a list names p
abbrev pub times : ℕ → List ℕ → ℕ
times p [] = 0
times p (x ∷ xs) = cond (x == p) 1 0 + times p xs

-- how many commands name the place p
abbrev pub reads_at : ℕ → List Command → ℕ
reads_at p [] = 0
reads_at p (reading x ∷ cs) = cond (x == p) 1 0 + reads_at p cs
reads_at p (writing a v ∷ cs) = reads_at p cs

-- how often the lines list the place p
abbrev pub listed_at : ℕ → List Line → ℕ
listed_at p [] = 0
listed_at p (l ∷ ls) = times p (waits l) + listed_at p ls

-- 1 for a line of the address a
abbrev pub for_address : ℕ → Line → ℕ
for_address a empty = 0
for_address a (waiting b ps) = cond (b == a) 1 0
for_address a (filled b v) = cond (b == a) 1 0

abbrev pub lines_for : ℕ → List Line → ℕ
lines_for a [] = 0
lines_for a (l ∷ ls) = for_address a l + lines_for a ls

abbrev pub if_held : Place → ℕ
if_held free = 0
if_held (held q) = 1
if_held (deferred q) = 0
if_held (ready q v) = 0
if_held (drawn q v) = 0

abbrev pub if_deferred : Place → ℕ
if_deferred free = 0
if_deferred (held q) = 0
if_deferred (deferred q) = 1
if_deferred (ready q v) = 0
if_deferred (drawn q v) = 0

abbrev pub if_ready : Place → ℕ
if_ready free = 0
if_ready (held q) = 0
if_ready (deferred q) = 0
if_ready (ready q v) = 1
if_ready (drawn q v) = 0

-- at most one line for an address
abbrev pub OneLine : Tables → Type 0
OneLine t = (a : ℕ) → lines_for a t.lines ≤ 1

-- a place is deferred exactly when one line lists it, once
abbrev pub DeferredOnce : Tables → Type 0
DeferredOnce t = (p : ℕ) → listed_at p t.lines ≡ if_deferred (place_at t p)

-- and that line waits for the address of its read
abbrev pub line_address : Line → ℕ
line_address empty = 0
line_address (waiting a ps) = a
line_address (filled a v) = a

abbrev pub AtItsLine : Tables → Type 0
AtItsLine t = (i p : ℕ) → 1 ≤ times p (waits (line_at t i)) → line_address (line_at t i) ≡ (read_of (place_at t p)).address

-- a waiting line's list is never empty
abbrev pub is_idle : Line → Bool
is_idle empty = false
is_idle (waiting a []) = true
is_idle (waiting a (p ∷ ps)) = false
is_idle (filled a v) = false

abbrev pub NeverIdle : Tables → Type 0
NeverIdle t = (i : ℕ) → is_idle (line_at t i) ≡ false

-- a place is held exactly when one command names it
abbrev pub HeldOnce : Tables → Type 0
HeldOnce t = (p : ℕ) → reads_at p t.commands ≡ if_held (place_at t p)

-- the order names exactly the ready places, each once
abbrev pub ReadyOnce : Tables → Type 0
ReadyOnce t = (p : ℕ) → times p t.order ≡ if_ready (place_at t p)

pub record Facts (t : Tables) : Type 0 where
  pub one_line : OneLine t
  pub deferred_once : DeferredOnce t
  pub at_its_line : AtItsLine t
  pub never_idle : NeverIdle t
  pub held_once : HeldOnce t
  pub ready_once : ReadyOnce t
  pub few_writes : writes t.commands ≤ 32
  pub all_places : length t.places ≡ 32
  pub some_lines : 1 ≤ length t.lines
  pub few_lines : length t.lines ≤ 16
  pub last_place : t.last < 32
  pub pointed : t.hand < length t.lines
