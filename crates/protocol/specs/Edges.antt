-- The edges of the memory: the last address, the last room of the network, a write that overtakes the READ before it.
use Rattle.std.specs.Prelude.{◌≡◌, ℕ, ◌*◌, ◌%◌, ◌<◌, cond, List, [], ◌∷◌, ◌++◌, length, Some, None, Option, nat_lt}
use Rattle.std.specs.List.{slice_get, remove}
use Rattle.network.specs.Messages.{Plain}
use Rattle.network.specs.Messages as message
use Rattle.network.specs.Rules.{Appended, PoolTakes}
use Rattle.lines.specs.Model.{Read}
use Rattle.protocol.specs.Moments.{Moment, unused, is_started, home_of, transit, load, with_bag}
use Rattle.protocol.specs.Moments.{Call, start, read, write, act, deliver, draw, finish, put_back, create}
use Rattle.protocol.specs.Moments.{Event, at, started, delivered, refused, accepted, wrote, acted}
use Rattle.protocol.specs.Moments as layer
use Rattle.protocol.specs.Steps.{does, refusal, Step, Reached}

-- what a pool hands out, and what it keeps
pub record Handed : Type 0 where
  pub got : Option Plain
  pub rest : List Plain

abbrev pub unasked : List Plain → Handed
unasked bag = record { got = None; rest = bag }

-- the message at position pick mod count, in order of sending
abbrev pub picked : List Plain → ℕ → Handed
picked bag pick = record { got = slice_get bag (pick % length bag); rest = remove bag (pick % length bag) }

-- only a delivery asks, once started
abbrev pub hands : Moment → Call → Handed
hands m (start n l c) = unasked m.bag
hands m (read n q) = unasked m.bag
hands m (write n a v) = unasked m.bag
hands m (act n k) = unasked m.bag
hands m (deliver pick) = cond (is_started m) (picked m.bag pick) (unasked m.bag)
hands m (draw n) = unasked m.bag
hands m (finish n p) = unasked m.bag
hands m (put_back n p) = unasked m.bag
hands m (create kind size) = unasked m.bag

-- what is sent goes behind the others, where there is room
abbrev pub behind : ℕ → List Plain → List Plain → List Plain
behind limit bag [] = bag
behind limit bag (x ∷ xs) = behind limit (cond (nat_lt (length bag) limit) (bag ++ x ∷ []) bag) xs

-- one call over a pool: its answer, and the memory afterwards
abbrev pub pool_says : Moment → Call → Event
pool_says m c = (does m c (hands m c).got).event

abbrev pub pool_leaves : Moment → Call → Moment
pool_leaves m c = with_bag (does m c (hands m c).got).after (behind m.limit (hands m c).rest (does m c (hands m c).got).sent)

-- calls on an unused memory over an empty pool of this limit, newest first: the memory afterwards, and the history
abbrev pub pool_after : ℕ → List Call → Moment
pool_after limit [] = unused limit []
pool_after limit (c ∷ cs) = pool_leaves (pool_after limit cs) c

abbrev pub pool_history : ℕ → List Call → List Event
pool_history limit [] = []
pool_history limit (c ∷ cs) = pool_says (pool_after limit cs) c ∷ pool_history limit cs

-- after these calls, at this load, a call answers so
abbrev pub AtLoad : ℕ → List Call → ℕ → Call → Event → Type 0
AtLoad limit cs n c e = (load (pool_after limit cs) ≡ n) × (pool_says (pool_after limit cs) c ≡ e)

-- a read of address a, to go on at frame f, instruction i
abbrev pub of : ℕ → ℕ → ℕ → Read
of a f i = record { address = a; frame = f; instruction = i }

-- 3 nodes with one line and 5 cells each
abbrev pub three_nodes : List Call
three_nodes = start 3 1 5 ∷ []

-- one node with 2 lines and 2 cells: a read of address 0, which acts; a read of address 1; a write of it, which acts; a write of address 0
abbrev pub one_read : List Call
one_read = read 0 (of 0 1 1) ∷ start 1 2 2 ∷ []

abbrev pub two_reads : List Call
two_reads = read 0 (of 1 1 1) ∷ act 0 0 ∷ one_read

abbrev pub one_write : List Call
one_write = write 0 1 9 ∷ two_reads

abbrev pub two_writes : List Call
two_writes = write 0 0 9 ∷ act 0 1 ∷ one_write

-- one node with one line and one cell: a read goes out, and a write of the same address
abbrev pub both_out : List Call
both_out = act 0 0 ∷ write 0 0 9 ∷ act 0 0 ∷ read 0 (of 0 1 1) ∷ start 1 1 1 ∷ []

pub record MemoryEdges : Type 0 where
  -- 3 nodes of 5 cells have 15 addresses, and address 14 is location 4 of node 2
  pub last_address : (m : Moment) → m.nodes ≡ 3 → m.cells ≡ 5 → (m.nodes * m.cells ≡ 15) × (home_of m 14 ≡ 2) × (14 % m.cells ≡ 4)
  -- address 14 is taken by a read and by a write, and address 15 is refused with 3
  pub last_read : (f i : ℕ) → pool_says (pool_after 64 three_nodes) (read 0 (of 14 f i)) ≡ at 0 (accepted (of 14 f i) 0)
  pub past_read : (f i : ℕ) → pool_says (pool_after 64 three_nodes) (read 0 (of 15 f i)) ≡ refused (read 0 (of 15 f i)) (refusal 3 layer.system (Some 0) (Some 15))
  pub last_written : (v : ℕ) → pool_says (pool_after 64 three_nodes) (write 0 14 v) ≡ at 0 (wrote 14 v)
  pub past_written : (v : ℕ) → pool_says (pool_after 64 three_nodes) (write 0 15 v) ≡ refused (write 0 15 v) (refusal 3 layer.system (Some 0) (Some 15))
  -- at limit 2, a read with no line for its address acts at load 0, and is refused with 26 at load 1
  pub read_acts : AtLoad 2 one_read 0 (act 0 0) (at 0 (acted 0 0))
  pub read_refused : AtLoad 2 two_reads 1 (act 0 0) (refused (act 0 0) (refusal 26 layer.system (Some 0) (Some 1)))
  -- at limit 2, a write acts at load 1, and is refused with 26 at load 2
  pub write_acts : AtLoad 2 one_write 1 (act 0 1) (at 0 (acted 1 0))
  pub write_refused : AtLoad 2 two_writes 2 (act 0 1) (refused (act 0 1) (refusal 26 layer.system (Some 0) (Some 0)))
  -- a write makes the place that waits at its own node ready, before the READ is home: both messages are in transit
  pub readied : pool_history 64 both_out ≡ at 0 (acted 0 1) ∷ at 0 (wrote 0 9) ∷ at 0 (acted 0 0) ∷ at 0 (accepted (of 0 1 1) 0) ∷ started 1 1 1 ∷ []
  pub in_transit : transit (pool_after 64 both_out) ≡ message.reading 0 0 0 ∷ message.writing 0 0 0 9 ∷ []
  -- in either order home, they and the REPLY make nothing more ready
  pub read_first : pool_history 64 (deliver 0 ∷ deliver 0 ∷ deliver 0 ∷ both_out) ≡ delivered 0 0 ∷ delivered 0 0 ∷ delivered 0 0 ∷ pool_history 64 both_out
  pub write_first : pool_history 64 (deliver 0 ∷ deliver 0 ∷ deliver 1 ∷ both_out) ≡ delivered 0 0 ∷ delivered 0 0 ∷ delivered 1 0 ∷ pool_history 64 both_out
  -- a take and a send are as the pool's rules say
  pub takes : (bag : List Plain) (pick : ℕ) → PoolTakes bag pick (picked bag pick).got (picked bag pick).rest
  pub sends : (limit : ℕ) (bag : List Plain) (x : Plain) → length bag < limit → Appended bag x (behind limit bag (x ∷ []))
  -- a call over a pool is a step of the memory, and calls over a pool are a run of it
  pub steps : (m : Moment) (c : Call) → Step m c (pool_says m c) (pool_leaves m c)
  pub runs : (limit : ℕ) (cs : List Call) → Reached (pool_history limit cs) (pool_after limit cs)
