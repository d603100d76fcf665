-- The words of the laws: counts over a history and over a moment.
use Rattle.std.specs.Prelude.{ℕ, zero, suc, ◌+◌, ◌*◌, cond, List, [], ◌∷◌, ◌++◌, Some, None, sum_by, Option, ◌==◌}
use Rattle.network.specs.declared.message.Kind.{Kind}
use Rattle.network.specs.declared.message.Kind.TheVariants as kind
use Rattle.network.specs.Messages.{Plain}
use Rattle.home.specs.declared.cell.Cell.{Cell}
use Rattle.home.specs.declared.cell.Cell.TheVariants.{Undefined, Waiting, Defined}
use Rattle.lines.specs.Model.{Read, Place, free, held, deferred, ready, drawn, Command, reading, writing}
use Rattle.protocol.specs.Moments.{Moment, place_at, Deed, nothing, accepted, wrote, acted, drew, finished, returned, Event, at, started, delivered, created, refused}

-- 1 if two numbers are the same, else 0
unfoldable pub same : ℕ → ℕ → ℕ
same a b = cond (a == b) 1 0

-- 1 if two reads have the same address and the same continuation
unfoldable pub same_read : Read → Read → ℕ
same_read q r = same q.address r.address * (same q.frame r.frame * same q.instruction r.instruction)

-- the sum of f over the numbers below a bound
unfoldable pub sum_to : ℕ → (ℕ → ℕ) → ℕ
sum_to zero f = 0
sum_to (suc k) f = f k + sum_to k f

-- the commands that a history accepted, newest first
pub data Accepted : Type 0 where
  READ : (node : ℕ) (what : Read) → Accepted
  WRITE : (address word : ℕ) → Accepted

abbrev pub from_deed : ℕ → Deed → List Accepted
from_deed n nothing = []
from_deed n (accepted q p) = READ n q ∷ []
from_deed n (wrote a v) = WRITE a v ∷ []
from_deed n (acted k c) = []
from_deed n (drew p q v) = []
from_deed n (finished p) = []
from_deed n (returned p) = []

abbrev pub from_event : Event → List Accepted
from_event (at n d) = from_deed n d
from_event (started n l c) = []
from_event (delivered k c) = []
from_event (created kind size base) = []
from_event (refused c why) = []

abbrev pub accepted_in : List Event → List Accepted
accepted_in [] = []
accepted_in (e ∷ h) = from_event e ++ accepted_in h

abbrev pub is_read : ℕ → Read → Accepted → ℕ
is_read n q (READ k r) = same n k * same_read q r
is_read n q (WRITE a v) = 0

abbrev pub is_write : ℕ → Accepted → ℕ
is_write a (READ k r) = 0
is_write a (WRITE b v) = same a b

abbrev pub is_write_of : ℕ → ℕ → Accepted → ℕ
is_write_of a v (READ k r) = 0
is_write_of a v (WRITE b w) = same a b * same v w

-- reads of q accepted at the node n; writes to a accepted; writes of the word v to a accepted
abbrev pub reads_accepted : ℕ → Read → List Event → ℕ
reads_accepted n q h = sum_by (is_read n q) (accepted_in h)

abbrev pub writes_accepted : ℕ → List Event → ℕ
writes_accepted a h = sum_by (is_write a) (accepted_in h)

abbrev pub given : ℕ → ℕ → List Event → ℕ
given a v h = sum_by (is_write_of a v) (accepted_in h)

-- what the node n did, newest first
abbrev pub deed_of : ℕ → Event → Deed
deed_of n (at k d) = cond (n == k) d nothing
deed_of n (started x y z) = nothing
deed_of n (delivered k c) = nothing
deed_of n (created kind size base) = nothing
deed_of n (refused c why) = nothing

abbrev pub deeds : ℕ → List Event → List Deed
deeds n [] = []
deeds n (e ∷ h) = deed_of n e ∷ deeds n h

-- the weight, on read and word, of what the latest draw of the place p answered
abbrev pub latest : (Read → ℕ → ℕ) → ℕ → List Deed → ℕ
latest f p [] = 0
latest f p (nothing ∷ ds) = latest f p ds
latest f p (accepted q k ∷ ds) = latest f p ds
latest f p (wrote a v ∷ ds) = latest f p ds
latest f p (acted k c ∷ ds) = latest f p ds
latest f p (drew k q v ∷ ds) = cond (p == k) (f q v) (latest f p ds)
latest f p (finished k ∷ ds) = latest f p ds
latest f p (returned k ∷ ds) = latest f p ds

-- the weight of what was finished: of each finish, what draw last answered for its place
abbrev pub finished_by : (Read → ℕ → ℕ) → List Deed → ℕ
finished_by f [] = 0
finished_by f (nothing ∷ ds) = finished_by f ds
finished_by f (accepted q k ∷ ds) = finished_by f ds
finished_by f (wrote a v ∷ ds) = finished_by f ds
finished_by f (acted k c ∷ ds) = finished_by f ds
finished_by f (drew k q v ∷ ds) = finished_by f ds
finished_by f (finished k ∷ ds) = latest f k ds + finished_by f ds
finished_by f (returned k ∷ ds) = finished_by f ds

abbrev pub reads_finished : ℕ → Read → List Event → ℕ
reads_finished n q h = finished_by (λ r _. same_read q r) (deeds n h)

-- the weight of a place in a given state; a place with no word counts with 0
pub data State : Type 0 where
  Held : State
  Deferred : State
  Ready : State
  Drawn : State

abbrev pub weight : State → (Read → ℕ → ℕ) → Place → ℕ
weight Held f free = 0
weight Held f (held q) = f q 0
weight Held f (deferred q) = 0
weight Held f (ready q v) = 0
weight Held f (drawn q v) = 0
weight Deferred f free = 0
weight Deferred f (held q) = 0
weight Deferred f (deferred q) = f q 0
weight Deferred f (ready q v) = 0
weight Deferred f (drawn q v) = 0
weight Ready f free = 0
weight Ready f (held q) = 0
weight Ready f (deferred q) = 0
weight Ready f (ready q v) = f q v
weight Ready f (drawn q v) = 0
weight Drawn f free = 0
weight Drawn f (held q) = 0
weight Drawn f (deferred q) = 0
weight Drawn f (ready q v) = 0
weight Drawn f (drawn q v) = f q v

-- the places of the node n that are in a state with the read q
abbrev pub reads_in : State → Moment → ℕ → Read → ℕ
reads_in s m n q = sum_to 32 (λ p. weight s (λ r _. same_read q r) (place_at m n p))

-- write commands to a; WRITEs to a; writes that a cell stores
abbrev pub is_writing : ℕ → Command → ℕ
is_writing a (reading p) = 0
is_writing a (writing b v) = same a b

abbrev pub if_write : Kind → ℕ → ℕ
if_write kind.Read n = 0
if_write kind.Write n = n
if_write kind.Reply n = 0

abbrev pub is_write_to : ℕ → Plain → ℕ
is_write_to a x = if_write x.kind (same a x.address)

abbrev pub stored : Cell → ℕ
stored Undefined = 0
stored (Waiting set) = 0
stored (Defined w) = 1

-- a refusal as written twice counts for the address that it names
abbrev pub names : ℕ → Option ℕ → ℕ
names a None = 0
names a (Some b) = same a b

abbrev pub told_twice : ℕ → Event → ℕ
told_twice a (at n d) = 0
told_twice a (started x y z) = 0
told_twice a (delivered k c) = 0
told_twice a (created kind size base) = 0
told_twice a (refused c why) = (same why.number 29 + same why.number 30) * names a why.address

abbrev pub reported : ℕ → List Event → ℕ
reported a h = sum_by (told_twice a) h
