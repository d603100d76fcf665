-- What every run keeps.
use Rattle.std.proofs.Common.{◌≡◌, ℕ, ◌+◌, ◌*◌, ◌/◌, ◌^◌, ◌<◌, ◌≤◌, List, [], ◌∷◌, length, get_or, sum_by, refl, ◌∙◌, arith}
use Rattle.std.specs.List.{AllByRecursion}
use Rattle.std.proofs.lemmas.List.Sums.{sum_by-append}
use Rattle.network.specs.declared.message.Kind.{Kind}
use Rattle.network.specs.declared.message.Kind.TheVariants as kind
use Rattle.network.specs.Messages.{Plain}
use Rattle.home.specs.declared.cell.Cell.{Cell}
use Rattle.home.specs.declared.cell.Cell.TheVariants.{Undefined, Waiting, Defined}
use Rattle.home.specs.Sets.{members, Member}
use Rattle.lines.specs.Model.{Read, Place, free, held, deferred, ready, drawn, Line, empty, waiting, filled, Command, reading, writing, Tables}
use Rattle.lines.specs.Facts.{Facts}
use Rattle.protocol.specs.Moments.{Moment, board_at, place_at, cell_at, transit, waiters, Deed, nothing, accepted, wrote, acted, drew, finished, returned, Event, at, started, delivered, created, refused}
use Rattle.protocol.specs.Counts.{same, same_read, sum_to, Accepted, from_event, accepted_in, is_write_of, reads_accepted, writes_accepted, given, deeds, latest, reads_finished, is_writing, is_write_to, stored, reported}

-- the read q in a place, whatever the place's state
abbrev pub in_place : Read → Place → ℕ
in_place q free = 0
in_place q (held r) = same_read q r
in_place q (deferred r) = same_read q r
in_place q (ready r w) = same_read q r
in_place q (drawn r w) = same_read q r

-- 1 for a line that waits for a
abbrev pub awaits : ℕ → Line → ℕ
awaits a empty = 0
awaits a (waiting b ps) = same a b
awaits a (filled b w) = 0

-- a read of a by the node n that is under way: a READ from it, or a REPLY to it
abbrev pub asking : Kind → ℕ → ℕ → Plain → ℕ
asking kind.Read n a x = same n x.from * same a x.address
asking kind.Write n a x = 0
asking kind.Reply n a x = same n x.to * same a x.address

abbrev pub asks : ℕ → ℕ → Plain → ℕ
asks n a x = asking x.kind n a x

-- or a place in the waiting set
abbrev pub is_member : ℕ → Cell → ℕ
is_member n Undefined = 0
is_member n (Waiting set) = sum_by (same n) (members set.mask)
is_member n (Defined w) = 0

-- what the parts of a memory are judged by: the addresses, the nodes and the cells of each; how often a word was given to an address,
-- whether an address is written (stored, or on its way), and the reads of an address by a node that are under way
pub record View : Type 0 where
  pub space : ℕ
  pub nodes : ℕ
  pub cells : ℕ
  pub given : ℕ → ℕ → ℕ
  pub written : ℕ → ℕ
  pub pending : ℕ → ℕ → ℕ

abbrev pub PlaceOk : View → List Deed → ℕ → Place → Type 0
PlaceOk v ds p free = Unit {0}
PlaceOk v ds p (held r) = r.address < v.space
PlaceOk v ds p (deferred r) = r.address < v.space
PlaceOk v ds p (ready r w) = (r.address < v.space) × (1 ≤ v.given r.address w)
PlaceOk v ds p (drawn r w) = (r.address < v.space) × (1 ≤ v.given r.address w) × ((f : Read → ℕ → ℕ) → latest f p ds ≡ f r w)

abbrev pub CommandOk : View → Command → Type 0
CommandOk v (reading p) = Unit {0}
CommandOk v (writing a w) = (a < v.space) × (1 ≤ v.given a w)

abbrev pub LineOk : View → Line → Type 0
LineOk v empty = Unit {0}
LineOk v (waiting a ps) = Unit {0}
LineOk v (filled a w) = (1 ≤ v.given a w) × (1 ≤ v.written a)

abbrev pub CellOk : View → ℕ → Cell → Type 0
CellOk v a Undefined = Unit {0}
CellOk v a (Waiting set) = (set.mask < 2 ^ 16) × ((n : ℕ) → Member set.mask n → n < v.nodes)
CellOk v a (Defined w) = 1 ≤ v.given a w

abbrev pub KindOk : View → Kind → Plain → Type 0
KindOk v kind.Read x = (x.to ≡ x.address / v.cells) × (x.from < v.nodes)
KindOk v kind.Write x = (x.to ≡ x.address / v.cells) × (1 ≤ v.given x.address x.word)
KindOk v kind.Reply x = (x.to < v.nodes) × (1 ≤ v.given x.address x.word) × (1 ≤ v.written x.address)

abbrev pub MessageOk : View → Plain → Type 0
MessageOk v x = (x.address < v.space) × KindOk v x.kind x

pub record PlacesOk (v : View) (n : ℕ) (h : List Event) (ps : List Place) : Type 0 where
  pub balance : (q : Read) → reads_accepted n q h ≡ sum_to 32 (λ p. in_place q (get_or ps p free)) + reads_finished n q h
  pub each : (p : ℕ) → PlaceOk v (deeds n h) p (get_or ps p free)

pub record LinesOk (v : View) (n : ℕ) (ls : List Line) : Type 0 where
  pub each : AllByRecursion (LineOk v) ls
  pub asked : (a : ℕ) → 1 ≤ sum_by (awaits a) ls → 1 ≤ v.pending n a

pub record BoardInv (v : View) (n : ℕ) (h : List Event) (t : Tables) : Type 0 where
  pub places : PlacesOk v n h t.places
  pub commands : AllByRecursion (CommandOk v) t.commands
  pub lines : LinesOk v n t.lines

-- each draw answered a word that was given before
abbrev pub DeedOk : List Event → Deed → Type 0
DeedOk h nothing = Unit {0}
DeedOk h (accepted q p) = Unit {0}
DeedOk h (wrote a w) = Unit {0}
DeedOk h (acted k c) = Unit {0}
DeedOk h (drew p q w) = 1 ≤ given q.address w h
DeedOk h (finished p) = Unit {0}
DeedOk h (returned p) = Unit {0}

abbrev pub EventOk : List Event → Event → Type 0
EventOk h (at n d) = DeedOk h d
EventOk h (started n l c) = Unit {0}
EventOk h (delivered k c) = Unit {0}
EventOk h (created kind size base) = Unit {0}
EventOk h (refused c why) = Unit {0}

abbrev pub Sound : List Event → Type 0
Sound [] = Unit {0}
Sound (e ∷ h) = EventOk h e × Sound h

-- a memory after a history, with what is in transit
abbrev pub view : List Event → Moment → List Plain → View
view h m bag = record {
  space = m.nodes * m.cells;
  nodes = m.nodes;
  cells = m.cells;
  given = λ a w. given a w h;
  written = λ a. sum_by (is_write_to a) bag + stored (cell_at m a);
  pending = λ n a. sum_by (asks n a) bag + is_member n (cell_at m a);
}

pub record InvAt (h : List Event) (m : Moment) (bag : List Plain) : Type 0 where
  pub few : m.nodes ≤ 16
  pub low : m.cells ≤ 64
  pub all : length m.boards ≡ 16
  pub deep : length m.memory ≡ 1024
  pub facts : (n : ℕ) → Facts (board_at m n)
  pub boards : (n : ℕ) → BoardInv (view h m bag) n h (board_at m n)
  pub memory : (a : ℕ) → CellOk (view h m bag) a (cell_at m a)
  pub in_bag : AllByRecursion (MessageOk (view h m bag)) bag
  pub fits : length bag + sum_by waiters m.memory ≤ m.limit
  pub reports : (a : ℕ) → 1 ≤ reported a h → 1 ≤ (view h m bag).written a
  pub writes : (a : ℕ) → writes_accepted a h ≡ sum_to m.nodes (λ n. sum_by (is_writing a) (board_at m n).commands) + sum_by (is_write_to a) bag + stored (cell_at m a) + reported a h
  pub draws : Sound h
  pub idle : m.nodes ≡ 0 → ((n p : ℕ) → place_at m n p ≡ free) × ((a : ℕ) → cell_at m a ≡ Undefined)

abbrev pub Inv : List Event → Moment → Type 0
Inv h m = InvAt h m (transit m)

-- a view that has what another has
pub record Up (v v' : View) : Type 0 where
  pub low : (a : ℕ) → a < v.space → a < v'.space
  pub near : (n : ℕ) → n < v.nodes → n < v'.nodes
  pub home : (a : ℕ) → a / v.cells ≡ a / v'.cells
  pub given : (a w : ℕ) → 1 ≤ v.given a w → 1 ≤ v'.given a w
  pub written : (a : ℕ) → 1 ≤ v.written a → 1 ≤ v'.written a

pub up_self : (v : View) → Up v v
up_self v = record { low = λ a k. k; near = λ n k. k; home = λ a. refl; given = λ a w k. k; written = λ a k. k }

module _ (v v' : View) (up : Up v v') where
  -- a place that stays as it is
  pub place_up : (ds ds' : List Deed) (p : ℕ) → ((f : Read → ℕ → ℕ) → latest f p ds' ≡ latest f p ds) → (x : Place) → PlaceOk v ds p x → PlaceOk v' ds' p x
  place_up ds ds' p same free h = tt
  place_up ds ds' p same (held r) h = up.low r.address h
  place_up ds ds' p same (deferred r) h = up.low r.address h
  place_up ds ds' p same (ready r w) h = (up.low r.address h.0, up.given r.address w h.1)
  place_up ds ds' p same (drawn r w) h = (up.low r.address h.0, up.given r.address w h.1, λ f. same f ∙ h.2 f)

  pub command_up : (c : Command) → CommandOk v c → CommandOk v' c
  command_up (reading p) h = tt
  command_up (writing a w) h = (up.low a h.0, up.given a w h.1)

  pub line_up : (x : Line) → LineOk v x → LineOk v' x
  line_up empty h = tt
  line_up (waiting a ps) h = tt
  line_up (filled a w) h = (up.given a w h.0, up.written a h.1)

  pub cell_up : (a : ℕ) (c : Cell) → CellOk v a c → CellOk v' a c
  cell_up a Undefined h = tt
  cell_up a (Waiting set) h = (h.0, λ n k. up.near n (h.1 n k))
  cell_up a (Defined w) h = up.given a w h

  kind_up : (k : Kind) (x : Plain) → KindOk v k x → KindOk v' k x
  kind_up kind.Read x h = (h.0 ∙ up.home x.address, up.near x.from h.1)
  kind_up kind.Write x h = (h.0 ∙ up.home x.address, up.given x.address x.word h.1)
  kind_up kind.Reply x h = (up.near x.to h.0, up.given x.address x.word h.1, up.written x.address h.2)

  pub message_up : (x : Plain) → MessageOk v x → MessageOk v' x
  message_up x h = (up.low x.address h.0, kind_up x.kind x h.1)

-- one event more
pub accepted_more : (f : Accepted → ℕ) (e : Event) (h : List Event) → sum_by f (accepted_in (e ∷ h)) ≡ sum_by f (from_event e) + sum_by f (accepted_in h)
accepted_more f e h = sum_by-append f (from_event e) (accepted_in h)

pub given_up : (h : List Event) (e : Event) (a w : ℕ) → 1 ≤ given a w h → 1 ≤ given a w (e ∷ h)
given_up h e a w k = omega (arith, accepted_more (is_write_of a w) e h)
