-- A board as plain lists, and what each call does to it.
use Rattle.std.specs.Prelude.{ℕ, ◌+◌, ◌-◌, Bool, true, false, cond, List, [], ◌∷◌, ◌++◌, length, replicate, Some, None, Ok, Err, Option, Result, ◌==◌, nat_le, nat_lt, slice_index_or, slice_set}
use Rattle.std.specs.List.{slice_get, remove}
use Rattle.rounds.specs.Rounds.{after, first_round}

-- an address, and where its answer goes on: a frame and an instruction
pub record Read : Type 0 where
  pub address : ℕ
  pub frame : ℕ
  pub instruction : ℕ

-- a place for a read; a ready or drawn one has the word
pub data Place : Type 0 where
  free : Place
  held : Read → Place
  deferred : Read → Place
  ready : Read → ℕ → Place
  drawn : Read → ℕ → Place

-- waiting for an address, with the places that wait, oldest first; filled with an address and a word
pub data Line : Type 0 where
  empty : Line
  waiting : ℕ → List ℕ → Line
  filled : ℕ → ℕ → Line

-- the read at a place; a write of an address and a word
pub data Command : Type 0 where
  reading : ℕ → Command
  writing : ℕ → ℕ → Command

pub record Tables : Type 0 where
  -- oldest first
  pub commands : List Command
  pub places : List Place
  -- the place last given
  pub last : ℕ
  pub lines : List Line
  pub hand : ℕ
  -- the ready places, longest ready first
  pub order : List ℕ

-- a new board: the first place to be given is 0
abbrev pub start : ℕ → Tables
start n =
    record {
      commands = [];
      places = replicate 32 free;
      last = 31;
      lines = replicate n empty;
      hand = 0;
      order = [];
    }

abbrev pub place_at : Tables → ℕ → Place
place_at t p = slice_index_or t.places p free

abbrev pub line_at : Tables → ℕ → Line
line_at t i = slice_index_or t.lines i empty

-- what a place holds; a free one holds nothing that counts
abbrev pub read_of : Place → Read
read_of free = record { address = 0; frame = 0; instruction = 0 }
read_of (held q) = q
read_of (deferred q) = q
read_of (ready q v) = q
read_of (drawn q v) = q

abbrev pub word_of : Place → ℕ
word_of free = 0
word_of (held q) = 0
word_of (deferred q) = 0
word_of (ready q v) = v
word_of (drawn q v) = v

-- the places that wait at a line
abbrev pub waits : Line → List ℕ
waits empty = []
waits (waiting a ps) = ps
waits (filled a v) = []

-- the write commands
abbrev pub writes : List Command → ℕ
writes [] = 0
writes (reading p ∷ cs) = writes cs
writes (writing a v ∷ cs) = 1 + writes cs

-- read: the first free place, counted up and round from one past the place last given
abbrev pub is_free : Place → Bool
is_free free = true
is_free (held q) = false
is_free (deferred q) = false
is_free (ready q v) = false
is_free (drawn q v) = false

abbrev pub free_place : Tables → Option ℕ
free_place t = first_round (λ i. is_free (place_at t i)) 32 (after 32 t.last)

abbrev pub given : Tables → Read → Option ℕ → Tables
given t q None = t
given t q (Some p) =
    record {
      commands = t.commands ++ reading p ∷ [];
      places = slice_set t.places p (held q);
      last = p;
      lines = t.lines;
      hand = t.hand;
      order = t.order;
    }

-- write: 32 at most
abbrev pub may_write : Tables → Bool
may_write t = nat_lt (writes t.commands) 32

abbrev pub written : Tables → ℕ → ℕ → Tables
written t a v =
    record {
      commands = t.commands ++ writing a v ∷ [];
      places = t.places;
      last = t.last;
      lines = t.lines;
      hand = t.hand;
      order = t.order;
    }

-- what the lines say of an address
pub data Found : Type 0 where
  absent : Found
  waits_at : ℕ → Found
  holds : ℕ → Found

-- what line i says of it
abbrev pub tells : ℕ → ℕ → Line → Found
tells a i empty = absent
tells a i (waiting b ps) = cond (b == a) (waits_at i) absent
tells a i (filled b v) = cond (b == a) (holds v) absent

abbrev pub or_later : Found → Found → Found
or_later absent later = later
or_later (waits_at i) later = waits_at i
or_later (holds v) later = holds v

-- the lines one after another, from line i on
abbrev pub found : ℕ → ℕ → List Line → Found
found a i [] = absent
found a i (l ∷ ls) = or_later (tells a i l) (found a (i + 1) ls)

-- to claim: the first empty line counted up and round from the hand, else the first filled one
abbrev pub is_empty : Line → Bool
is_empty empty = true
is_empty (waiting a ps) = false
is_empty (filled a v) = false

abbrev pub is_filled : Line → Bool
is_filled empty = false
is_filled (waiting a ps) = false
is_filled (filled a v) = true

abbrev pub or_else : Option ℕ → Option ℕ → Option ℕ
or_else None o = o
or_else (Some i) o = Some i

abbrev pub claimed : Tables → Option ℕ
claimed t =
    or_else
    (first_round (λ i. is_empty (line_at t i)) (length t.lines) t.hand)
    (first_round (λ i. is_filled (line_at t i)) (length t.lines) t.hand)

-- a claimed line, and the hand on the line after it
abbrev pub claiming : Tables → ℕ → Line → Tables
claiming t i l =
    record {
      commands = t.commands;
      places = t.places;
      last = t.last;
      lines = slice_set t.lines i l;
      hand = after (length t.lines) i;
      order = t.order;
    }

-- places that wait get their word, one after another
abbrev pub woken : ℕ → List Place → List ℕ → List Place
woken v places [] = places
woken v places (p ∷ ps) = woken v (slice_set places p (ready (read_of (slice_index_or places p free)) v)) ps

-- the word v of the address a comes to line i: its places become ready, oldest first
abbrev pub filling : Tables → ℕ → ℕ → ℕ → Tables
filling t i a v =
    record {
      commands = t.commands;
      places = woken v t.places (waits (line_at t i));
      last = t.last;
      lines = slice_set t.lines i (filled a v);
      hand = t.hand;
      order = t.order ++ waits (line_at t i);
    }

-- reply: only a waiting line takes the word
pub record Count : Type 0 where
  pub answer : ℕ
  pub after : Tables

abbrev pub reply_finds : Tables → ℕ → ℕ → Found → Count
reply_finds t a v absent = record { answer = 0; after = t }
reply_finds t a v (waits_at i) = record { answer = length (waits (line_at t i)); after = filling t i a v }
reply_finds t a v (holds u) = record { answer = 0; after = t }

abbrev pub replied : Tables → ℕ → ℕ → Count
replied t a v = reply_finds t a v (found a 0 t.lines)

-- act: what goes out, a READ or a WRITE
pub data Outgoing : Type 0 where
  asks : ℕ → Outgoing
  gives : ℕ → ℕ → Outgoing

-- the places made ready, and what goes out
pub record Acted : Type 0 where
  pub readied : ℕ
  pub sends : Option Outgoing

-- why an act is refused, with the node and the address that it names
pub data Refusal : Type 0 where
  no_such_command : Refusal
  network_full : ℕ → Refusal
  every_line_waits : ℕ → ℕ → Refusal
  written_twice : ℕ → ℕ → Refusal

pub record Step : Type 0 where
  pub answer : Result Acted Refusal
  pub after : Tables

abbrev pub refused : Tables → Refusal → Step
refused t e = record { answer = Err e; after = t }

-- command k is used up
abbrev pub used : Tables → ℕ → Tables
used t k =
    record {
      commands = remove t.commands k;
      places = t.places;
      last = t.last;
      lines = t.lines;
      hand = t.hand;
      order = t.order;
    }

abbrev pub taken : Tables → ℕ → ℕ → Option Outgoing → Step
taken t k readied sends = record { answer = Ok (record { readied = readied; sends = sends }); after = used t k }

-- the place p waits with the read q
abbrev pub deferring : Tables → ℕ → Read → Tables
deferring t p q =
    record {
      commands = t.commands;
      places = slice_set t.places p (deferred q);
      last = t.last;
      lines = t.lines;
      hand = t.hand;
      order = t.order;
    }

-- the place p joins the end of a waiting line's list
abbrev pub joined : ℕ → Line → Line
joined p empty = empty
joined p (waiting a ps) = waiting a (ps ++ p ∷ [])
joined p (filled a v) = filled a v

abbrev pub joining : Tables → ℕ → ℕ → Tables
joining t i p =
    record {
      commands = t.commands;
      places = t.places;
      last = t.last;
      lines = slice_set t.lines i (joined p (line_at t i));
      hand = t.hand;
      order = t.order;
    }

-- the place p becomes ready, behind the others
abbrev pub readying : Tables → ℕ → Read → ℕ → Tables
readying t p q v =
    record {
      commands = t.commands;
      places = slice_set t.places p (ready q v);
      last = t.last;
      lines = t.lines;
      hand = t.hand;
      order = t.order ++ p ∷ [];
    }

-- a read with no line: the line claimed, if any, where the load leaves room for a READ and its REPLY
abbrev pub read_claims : ℕ → Tables → ℕ → ℕ → Read → ℕ → ℕ → Option ℕ → Step
read_claims n t k p q load limit None = refused t (every_line_waits n q.address)
read_claims n t k p q load limit (Some i) =
    cond (nat_le (limit - 1) load)
    (refused t (network_full q.address))
    (taken (deferring (claiming t i (waiting q.address (p ∷ []))) p q) k 0 (Some (asks q.address)))

abbrev pub read_finds : ℕ → Tables → ℕ → ℕ → Read → ℕ → ℕ → Found → Step
read_finds n t k p q load limit absent = read_claims n t k p q load limit (claimed t)
read_finds n t k p q load limit (waits_at i) = taken (deferring (joining t i p) p q) k 0 None
read_finds n t k p q load limit (holds v) = taken (readying t p q v) k 1 None

-- a write with no line: one is claimed and filled, unless every line waits
abbrev pub filling_new : Tables → ℕ → ℕ → Option ℕ → Tables
filling_new t a v None = t
filling_new t a v (Some i) = claiming t i (filled a v)

abbrev pub write_finds : ℕ → Tables → ℕ → ℕ → ℕ → ℕ → ℕ → Found → Step
write_finds n t k a v load limit absent =
    cond (nat_le limit load)
    (refused t (network_full a))
    (taken (filling_new t a v (claimed t)) k 0 (Some (gives a v)))
write_finds n t k a v load limit (waits_at i) =
    cond (nat_le limit load)
    (refused t (network_full a))
    (taken (filling t i a v) k (length (waits (line_at t i))) (Some (gives a v)))
write_finds n t k a v load limit (holds u) = record { answer = Err (written_twice n a); after = used t k }

abbrev pub act_on : ℕ → Tables → ℕ → ℕ → ℕ → Option Command → Step
act_on n t k load limit None = refused t no_such_command
act_on n t k load limit (Some (reading p)) =
    read_finds n t k p (read_of (place_at t p)) load limit (found (read_of (place_at t p)).address 0 t.lines)
act_on n t k load limit (Some (writing a v)) = write_finds n t k a v load limit (found a 0 t.lines)

-- command k of node n, oldest 0, at a load of the network and its limit
abbrev pub acted : ℕ → Tables → ℕ → ℕ → ℕ → Step
acted n t k load limit = act_on n t k load limit (slice_get t.commands k)

-- draw: the place longest ready
pub record Answer : Type 0 where
  pub place : ℕ
  pub read : Read
  pub word : ℕ

abbrev pub first_ready : Tables → List ℕ → Option Answer
first_ready t [] = None
first_ready t (p ∷ ps) = Some (record { place = p; read = read_of (place_at t p); word = word_of (place_at t p) })

abbrev pub drawing : Tables → List ℕ → Tables
drawing t [] = t
drawing t (p ∷ ps) =
    record {
      commands = t.commands;
      places = slice_set t.places p (drawn (read_of (place_at t p)) (word_of (place_at t p)));
      last = t.last;
      lines = t.lines;
      hand = t.hand;
      order = ps;
    }

-- finish and put back: only a drawn place
abbrev pub is_drawn : Place → Bool
is_drawn free = false
is_drawn (held q) = false
is_drawn (deferred q) = false
is_drawn (ready q v) = false
is_drawn (drawn q v) = true

abbrev pub freeing : Tables → ℕ → Tables
freeing t p =
    record {
      commands = t.commands;
      places = slice_set t.places p free;
      last = t.last;
      lines = t.lines;
      hand = t.hand;
      order = t.order;
    }

abbrev pub finished : Tables → ℕ → Tables
finished t p = cond (is_drawn (place_at t p)) (freeing t p) t

abbrev pub returned : Tables → ℕ → Tables
returned t p = cond (is_drawn (place_at t p)) (readying t p (read_of (place_at t p)) (word_of (place_at t p))) t
