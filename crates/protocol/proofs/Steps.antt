-- What the whole memory keeps: through a call that changes nothing, the start, a call on one board, a message at a home.
use Rattle.std.proofs.Common.{◌≡◌, ℕ, zero, suc, ◌+◌, ◌<◌, ◌≤◌, List, [], ◌∷◌, length, get_or, replicate, sum_by, Option, sym, refl, ap, ◌∙◌, subst, inl, inr, arith, lit≤}
use lib.ListN.{length-replicate}
use Rattle.std.specs.Option.{option_to_list}
use Rattle.std.specs.List.{AllByRecursion}
use Rattle.std.proofs.ByRecursion.{All-weaker}
use Rattle.std.proofs.lemmas.List.{length-set}
use Rattle.std.proofs.lemmas.List.Sums.{sum_by-cons}
use Rattle.std.proofs.lemmas.Bool.{cases_eq}
use Rattle.network.specs.Messages.{Plain}
use Rattle.home.specs.declared.cell.Cell.TheVariants.{Undefined}
use Rattle.lines.specs.Model.{Read, Place, free, empty, Tables}
use Rattle.lines.specs.Model as board
use Rattle.lines.specs.Facts.{Facts}
use Rattle.lines.proofs.Keeps.{start_facts}
use Rattle.protocol.specs.Moments.{Moment, unused, board_at, cell_at, waiters, with_board, with_end, with_bag, Event, started}
use Rattle.protocol.specs.Steps.{fresh}
use Rattle.protocol.specs.Counts.{sum_to, from_event, is_write, is_write_of, reads_accepted, writes_accepted, deeds, reads_finished, is_writing, is_write_to, stored, told_twice, reported}
use Rattle.protocol.proofs.Count.{sum_to_zero, sum_to_none, sum_to_set, each_set}
use Rattle.protocol.proofs.Moves.{Moved, moved_sum, moved_length, taken_all, next_all}
use Rattle.protocol.proofs.Inv.{in_place, awaits, asks, View, PlaceOk, CommandOk, LineOk, CellOk, MessageOk, BoardInv, EventOk, Sound, view, InvAt, Up, command_up, cell_up, message_up, accepted_more, given_up}
use Rattle.protocol.proofs.Boards.{Mute, places_kept, lines_kept}

-- one board more that takes part in nothing
pub board_up : (v v' : View) → Up v v' → (n : ℕ) (h : List Event) (e : Event) (t : Tables) → Mute n h e → ((a : ℕ) → 1 ≤ v.pending n a → 1 ≤ v'.pending n a) → BoardInv v n h t → BoardInv v' n (e ∷ h) t
board_up v v' up n h e t mute more inv = record {
  places = places_kept v v' up n h e t.places inv.places mute;
  commands = All-weaker (CommandOk v) (CommandOk v') (command_up v v' up) t.commands inv.commands;
  lines = lines_kept v v' up n t.lines inv.lines (λ a k. more a);
}

-- what an event adds to the counts
pub writes_more : (a : ℕ) (e : Event) (h : List Event) → writes_accepted a (e ∷ h) ≡ sum_by (is_write a) (from_event e) + writes_accepted a h
writes_more a e h = accepted_more (is_write a) e h

pub reported_more : (a : ℕ) (e : Event) (h : List Event) → reported a (e ∷ h) ≡ told_twice a e + reported a h
reported_more a e h = sum_by-cons (told_twice a) e h

-- a call that changes nothing, but for the end of the arrays
pub record Quiet (h : List Event) (e : Event) : Type 0 where
  pub mute : (n : ℕ) → Mute n h e
  pub no_write : (a : ℕ) → sum_by (is_write a) (from_event e) ≡ 0
  pub sound : EventOk h e
  pub untold : (a : ℕ) → told_twice a e ≡ 0

pub inv_quiet : (h : List Event) (m : Moment) (bag : List Plain) (e : Event) (end : ℕ) (next : List Plain) → Quiet h e → InvAt h m bag → InvAt (e ∷ h) (with_bag (with_end m end) next) bag
inv_quiet h m bag e end next quiet inv =
    let v = view h m bag in
    let v' = view (e ∷ h) m bag in
    let up : Up v v' = record { low = λ a k. k; near = λ n k. k; home = λ a. refl; given = given_up h e; written = λ a k. k } in
    record {
      few = inv.few;
      low = inv.low;
      all = inv.all;
      deep = inv.deep;
      facts = inv.facts;
      boards = λ n. board_up v v' up n h e (board_at m n) (quiet.mute n) (λ a k. k) (inv.boards n);
      memory = λ a. cell_up v v' up a (cell_at m a) (inv.memory a);
      in_bag = All-weaker (MessageOk v) (MessageOk v') (message_up v v' up) bag inv.in_bag;
      fits = inv.fits;
      reports = λ a k. inv.reports a (omega (arith, reported_more a e h, quiet.untold a));
      writes = λ a. omega (arith, inv.writes a, writes_more a e h, quiet.no_write a, reported_more a e h, quiet.untold a);
      draws = (quiet.sound, inv.draws);
      idle = inv.idle;
    }

-- boards and cells with nothing in them
all_free : (k p : ℕ) → get_or (replicate k free) p free ≡ free
all_free zero p = refl
all_free (suc k) zero = refl
all_free (suc k) (suc p) = all_free k p

all_undefined : (k a : ℕ) → get_or (replicate k Undefined) a Undefined ≡ Undefined
all_undefined zero a = refl
all_undefined (suc k) zero = refl
all_undefined (suc k) (suc a) = all_undefined k a

all_start : (P : Tables → Type 0) (k l n : ℕ) → P (board.start l) → P (board.start 1) → P (get_or (replicate k (board.start l)) n (board.start 1))
all_start P zero l n here there = there
all_start P (suc k) l zero here there = here
all_start P (suc k) l (suc n) here there = all_start P k l n here there

none_waiting : (k : ℕ) → sum_by waiters (replicate k Undefined) ≡ 0
none_waiting zero = refl
none_waiting (suc k) = omega (arith, sum_by-cons waiters Undefined (replicate k Undefined), none_waiting k)

none_awaited : (a l : ℕ) → sum_by (awaits a) (replicate l empty) ≡ 0
none_awaited a zero = refl
none_awaited a (suc l) = omega (arith, sum_by-cons (awaits a) empty (replicate l empty), none_awaited a l)

empty_ok : (v : View) (l : ℕ) → AllByRecursion (LineOk v) (replicate l empty)
empty_ok v zero = tt
empty_ok v (suc l) = (tt, empty_ok v l)

none_in : (q : Read) (ps : List Place) → ((p : ℕ) → get_or ps p free ≡ free) → sum_to 32 (λ p. in_place q (get_or ps p free)) ≡ 0
none_in q ps e = sum_to_zero 32 (λ p. in_place q (get_or ps p free)) (λ p l. ap (in_place q) (e p))

start_inv : (v : View) (n : ℕ) (h : List Event) (l : ℕ) → ((q : Read) → reads_accepted n q h ≡ reads_finished n q h) → BoardInv v n h (board.start l)
start_inv v n h l even = record {
  places = record {
    balance = λ q. omega (arith, even q, none_in q (replicate 32 free) (all_free 32));
    each = λ p. subst (PlaceOk v (deeds n h) p) (sym (all_free 32 p)) tt;
  };
  commands = tt;
  lines = record { each = empty_ok v l; asked = λ a k. absurd (let f : ⊥ = omega (arith, none_awaited a l) in f) };
}

-- a memory with boards and cells that hold nothing, after a history that holds nothing
module _ (h : List Event) (n l c limit : ℕ) (next : List Plain) where
  abbrev bare : Moment
  bare = record { nodes = n; cells = c; boards = replicate 16 (board.start l); memory = replicate 1024 Undefined; end = 0; limit = limit; bag = next }

  cell_none : (a : ℕ) → stored (cell_at bare a) ≡ 0
  cell_none a = ap stored (all_undefined 1024 a)

  pub inv_bare : n ≤ 16 → c ≤ 64 → 1 ≤ l → l ≤ 16 → ((k : ℕ) (q : Read) → reads_accepted k q h ≡ reads_finished k q h) → ((a : ℕ) → writes_accepted a h ≡ 0) → ((a : ℕ) → reported a h ≡ 0) → Sound h → InvAt h bare []
  inv_bare few low some most even unwritten unreported sound = record {
    few = few;
    low = low;
    all = length-replicate 16 (board.start l);
    deep = length-replicate 1024 Undefined;
    facts = λ k. all_start Facts 16 l k (start_facts l some most) (start_facts 1 (lit≤ tt) (lit≤ tt));
    boards = λ k. all_start (BoardInv (view h bare []) k h) 16 l k (start_inv (view h bare []) k h l (even k)) (start_inv (view h bare []) k h 1 (even k));
    memory = λ a. subst (CellOk (view h bare []) a) (sym (all_undefined 1024 a)) tt;
    in_bag = tt;
    fits = omega (arith, none_waiting 1024);
    reports = λ a k. absurd (let f : ⊥ = omega (arith, unreported a) in f);
    writes = λ a. omega (arith, unwritten a, unreported a, cell_none a, sum_to_zero n (λ k. sum_by (is_writing a) (board_at bare k).commands) (λ k lt. all_start (λ t. sum_by (is_writing a) t.commands ≡ 0) 16 l k refl refl));
    draws = sound;
    idle = λ z. (λ k p. all_start (λ t. board.place_at t p ≡ free) 16 l k (all_free 32 p) (all_free 32 p), all_undefined 1024);
  }

pub inv_unused : (limit : ℕ) (bag : List Plain) → InvAt [] (unused limit bag) []
inv_unused limit bag = inv_bare [] 0 1 0 limit bag (lit≤ tt) (lit≤ tt) (lit≤ tt) (lit≤ tt) (λ k q. refl) (λ a. refl) (λ a. refl) tt

pub inv_start : (h : List Event) (m : Moment) (n l c : ℕ) (next : List Plain) → m.nodes ≡ 0 → n ≤ 16 → c ≤ 64 → 1 ≤ l → l ≤ 16 → InvAt h m [] → InvAt (started n l c ∷ h) (with_bag (fresh m n l c) next) []
inv_start h m n l c next z few low some most inv =
    let was = inv.idle z in
    let none : (a : ℕ) → stored (cell_at m a) ≡ 0 = λ a. ap stored (was.1 a) in
    let unreported : (a : ℕ) → reported a h ≡ 0 = λ a. elim (cases_eq (reported a h) 0) [ inl e ↦ e | inr e ↦ omega (arith, inv.reports a (omega arith), none a) ] in
    inv_bare (started n l c ∷ h) n l c m.limit next few low some most
    (λ k q. omega (arith, (inv.boards k).places.balance q, none_in q (board_at m k).places (was.0 k)))
    (λ a. omega (arith, inv.writes a, none a, unreported a, ap (λ k. sum_to k (λ j. sum_by (is_writing a) (board_at m j).commands)) z, sum_to_none (λ j. sum_by (is_writing a) (board_at m j).commands)))
    (λ a. omega (arith, reported_more a (started n l c) h, unreported a))
    (tt, inv.draws)

-- how a memory is seen by node n after the call e, in which it took and sent messages
pub record Next (v v' : View) (n : ℕ) (e : Event) (taken added : List Plain) : Type 0 where
  pub up : Up v v'
  pub given : (a w : ℕ) → sum_by (is_write_of a w) (from_event e) ≤ v'.given a w
  pub written : (a : ℕ) → sum_by (is_write_to a) added ≤ v'.written a
  pub pending : (a : ℕ) → v'.pending n a + sum_by (asks n a) taken ≡ v.pending n a + sum_by (asks n a) added

-- what the board n did in the call e
pub record OnBoard (h : List Event) (m : Moment) (bag : List Plain) (n : ℕ) (e : Event) (t : Tables) (taken added : List Plain) : Type 0 where
  pub facts : Facts t
  pub board : (v : View) → Next (view h m bag) v n e taken added → BoardInv v n (e ∷ h) t
  pub sends : (v : View) → Up (view h m bag) v → AllByRecursion (MessageOk v) added
  pub others : (k : ℕ) → (k ≡ n → ⊥) → Mute k h e
  pub apart : (k : ℕ) → (k ≡ n → ⊥) → (a : ℕ) → sum_by (asks k a) taken ≡ 0
  pub unwritten : (a : ℕ) → sum_by (is_write_to a) taken ≡ 0
  pub count : (a : ℕ) → sum_by (is_write a) (from_event e) + sum_by (is_writing a) (board_at m n).commands ≡ sum_by (is_writing a) t.commands + sum_by (is_write_to a) added + told_twice a e
  pub sound : EventOk h e
  pub report : (a : ℕ) → 1 ≤ told_twice a e → 1 ≤ (view h m bag).written a

pub inv_board : (h : List Event) (m : Moment) (bag : List Plain) (n : ℕ) (e : Event) (t : Tables) (got : Option Plain) (added next : List Plain) → InvAt h m bag → n < m.nodes
    → OnBoard h m bag n e t (option_to_list got) added → Moved m.limit bag got added next → length bag + length added + sum_by waiters m.memory ≤ m.limit + length (option_to_list got)
    → InvAt (e ∷ h) (with_bag (with_board m n t) next) next
inv_board h m bag n e t got added next inv lt did mv room =
    let v = view h m bag in
    let v' = view (e ∷ h) m next in
    let sums : (f : Plain → ℕ) → sum_by f next + sum_by f (option_to_list got) ≡ sum_by f bag + sum_by f added = moved_sum m.limit bag got added next mv in
    let up : Up v v' = record { low = λ a k. k; near = λ k l. l; home = λ a. refl; given = given_up h e; written = λ a k. omega (arith, sums (is_write_to a), did.unwritten a) } in
    let parts = taken_all m.limit bag got added next mv (MessageOk v) inv.in_bag in
    let inside : n < length m.boards = omega (arith, inv.few, inv.all) in
    record {
      few = inv.few;
      low = inv.low;
      all = length-set m.boards n t ∙ inv.all;
      deep = inv.deep;
      facts = each_set (λ k. Facts) m.boards n t (board.start 1) inside did.facts (λ k ne. inv.facts k);
      boards = each_set (λ k. BoardInv v' k (e ∷ h)) m.boards n t (board.start 1) inside
          (did.board v' (record {
            up = up;
            given = λ a w. omega (arith, accepted_more (is_write_of a w) e h);
            written = λ a. omega (arith, sums (is_write_to a), did.unwritten a);
            pending = λ a. omega (arith, sums (asks n a));
          }))
          (λ k ne. board_up v v' up k h e (board_at m k) (did.others k ne) (λ a l. omega (arith, sums (asks k a), did.apart k ne a)) (inv.boards k));
      memory = λ a. cell_up v v' up a (cell_at m a) (inv.memory a);
      in_bag = next_all m.limit bag got added next mv (MessageOk v') (All-weaker (MessageOk v) (MessageOk v') (message_up v v' up) mv.rest parts.1) (did.sends v' up);
      fits = omega (arith, moved_length m.limit bag got added next mv);
      reports = λ a k. up.written a (now a k);
      writes = λ a. omega (arith, inv.writes a, did.count a, writes_more a e h, reported_more a e h, sums (is_write_to a), did.unwritten a, sum_to_set (λ x. sum_by (is_writing a) x.commands) m.boards n t (board.start 1) m.nodes lt inside);
      draws = (did.sound, inv.draws);
      idle = λ z. absurd (let f : ⊥ = omega arith in f);
    }
  where
    now : (a : ℕ) → 1 ≤ reported a (e ∷ h) → 1 ≤ (view h m bag).written a
    now a k = elim (cases_eq (told_twice a e) 0) [ inl z ↦ inv.reports a (omega (arith, reported_more a e h)) | inr z ↦ did.report a (omega arith) ]
