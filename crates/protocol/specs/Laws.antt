-- The laws of every run, over its history (newest call first) and the moment reached.
use Rattle.std.specs.Prelude.{◌≡◌, ℕ, ◌+◌, ◌*◌, ◌/◌, ◌<◌, ◌≤◌, List, [], ◌∷◌, ◌++◌, sum_by}
use Rattle.std.specs.List.{AllByRecursion}
use Rattle.network.specs.declared.message.Kind.{Kind}
use Rattle.network.specs.declared.message.Kind.TheVariants as kind
use Rattle.network.specs.Messages.{Plain}
use Rattle.lines.specs.Model.{Read}
use Rattle.lines.specs.Facts.{Facts}
use Rattle.protocol.specs.Moments.{Moment, board_at, cell_at, transit, load, Call, Event, at, drew}
use Rattle.protocol.specs.Steps.{Step, Reached}
use Rattle.protocol.specs.Counts.{sum_to, reads_accepted, reads_finished, reads_in, Held, Deferred, Ready, Drawn}
use Rattle.protocol.specs.Counts.{writes_accepted, given, reported, is_writing, is_write_to, stored}

-- no read is lost, doubled or made up: for each board, address and continuation
abbrev pub ReadsBalance : List Event → Moment → Type 0
ReadsBalance h m = (n : ℕ) (q : Read) → reads_accepted n q h ≡
    reads_in Held m n q + reads_in Deferred m n q + reads_in Ready m n q + reads_in Drawn m n q + reads_finished n q h

-- each word that a draw answered was given to that address by a write accepted earlier
abbrev pub DrawsGiven : List Event → Type 0
DrawsGiven h = (later : List Event) (n p v : ℕ) (q : Read) (earlier : List Event) →
    h ≡ later ++ (at n (drew p q v) ∷ earlier) → 1 ≤ given q.address v earlier

-- no command held and nothing in transit
abbrev pub Quiet : Moment → Type 0
Quiet m = ((n : ℕ) → n < m.nodes → (board_at m n).commands ≡ []) × (transit m ≡ [])

-- in a quiet memory an accepted read is deferred exactly when no write to its address was accepted
abbrev pub DeferredUnwritten : List Event → Moment → Type 0
DeferredUnwritten h m = Quiet m → (n : ℕ) (q : Read) → n < m.nodes →
    (writes_accepted q.address h ≡ 0 → reads_in Deferred m n q ≡ reads_accepted n q h)
    × (1 ≤ writes_accepted q.address h → reads_in Deferred m n q ≡ 0)

-- no write is lost, doubled or made up: held, in transit, stored at home (a cell stores one at most), or reported as written twice
abbrev pub WritesBalance : List Event → Moment → Type 0
WritesBalance h m = (a : ℕ) → writes_accepted a h ≡
    sum_to m.nodes (λ n. sum_by (is_writing a) (board_at m n).commands) + sum_by (is_write_to a) (transit m) + stored (cell_at m a) + reported a h

-- a READ and a WRITE go to the home of their address, a REPLY to a node at work
abbrev pub Goes : Moment → Kind → Plain → Type 0
Goes m kind.Read x = x.to ≡ x.address / m.cells
Goes m kind.Write x = x.to ≡ x.address / m.cells
Goes m kind.Reply x = x.to < m.nodes

-- each message in transit names an address of the memory, and goes where it should
abbrev pub Homes : Moment → Type 0
Homes m = AllByRecursion (λ x. (x.address < m.nodes * m.cells) × Goes m x.kind x) (transit m)

pub record Laws (h : List Event) (m : Moment) : Type 0 where
  pub reads : ReadsBalance h m
  pub draws : DrawsGiven h
  pub deferred : DeferredUnwritten h m
  pub writes : WritesBalance h m
  -- every board keeps its facts, and the load never passes the limit
  pub boards : (n : ℕ) → Facts (board_at m n)
  pub room : 1 ≤ m.nodes → load m ≤ m.limit
  pub homes : Homes m

-- a call, from whatever history led to m, leads on to m', where the laws hold
abbrev pub Runs : Moment → Event → Moment → Type 0
Runs m e m' = (h : List Event) → Reached h m → Reached (e ∷ h) m' × Laws (e ∷ h) m'

-- a call is carried out: one step, and the laws hold of the history that it makes
pub record Carried (m : Moment) (c : Call) (e : Event) (m' : Moment) : Type 0 where
  pub step : Step m c e m'
  pub runs : Runs m e m'

-- every step from a reached moment keeps the laws
abbrev pub LawOfRuns : Type 0
LawOfRuns = (m : Moment) (c : Call) (e : Event) (m' : Moment) → Step m c e m' → Runs m e m'
