-- The laws, from what every run keeps.
use Rattle.std.proofs.Common.{◌≡◌, ℕ, suc, ◌+◌, ◌*◌, ◌/◌, ◌<◌, ◌≤◌, eqb, List, [], ◌∷◌, ◌++◌, length, get_or, Some, sum_by, sym, refl, ap, ◌∙◌, subst, inl, inr, arith}
use Rattle.std.specs.List.{slice_get, AllByRecursion}
use Rattle.std.proofs.ByRecursion.{All-weaker}
use Rattle.std.proofs.lemmas.List.Sums.{sum_by-cons, get_or-le-sum_by}
use Rattle.std.proofs.lemmas.Bool.{cond_both, cases_eq}
use Rattle.network.specs.declared.message.Kind.{Kind}
use Rattle.network.specs.declared.message.Kind.TheVariants as kind
use Rattle.network.specs.Messages.{Plain}
use Rattle.home.specs.declared.cell.Cell.{Cell}
use Rattle.home.specs.declared.cell.Cell.TheVariants.{Undefined, Waiting, Defined}
use Rattle.lines.specs.Model.{Read, Place, free, held, deferred, ready, drawn, Line, empty, waiting, filled, writing, Tables, read_of, waits}
use Rattle.lines.specs.Facts.{Facts, times, reads_at, listed_at, if_held, if_deferred, line_address}
use Rattle.protocol.specs.Moments.{Moment, board_at, place_at, cell_at, home_of, transit, Deed, nothing, accepted, wrote, acted, drew, finished, returned, Event, at, started, delivered, created, refused}
use Rattle.protocol.specs.Steps.{Reached, then}
use Rattle.protocol.specs.Counts.{same, same_read, sum_to, Accepted, READ, WRITE, accepted_in, is_write, is_write_of, reads_accepted, writes_accepted, given, deed_of, deeds, latest, finished_by, Held, Deferred, Ready, Drawn, weight, reads_in, is_writing, is_write_to, stored}
use Rattle.protocol.specs.Laws.{ReadsBalance, DrawsGiven, Quiet, Goes, Homes, Laws, LawOfRuns}
use Rattle.protocol.proofs.Count.{same_refl, same_or, read_address, sum_to_like, sum_to_zero, sum_to_plus, sum_to_some, all_removed}
use Rattle.protocol.proofs.Inv.{in_place, awaits, asks, is_member, PlaceOk, CommandOk, KindOk, MessageOk, DeedOk, EventOk, Sound, view, Inv, accepted_more}
use Rattle.protocol.proofs.Deeds.{home_is}
use Rattle.protocol.proofs.Runs.{run_inv}

-- no read is lost, doubled or made up
abbrev by_read : Read → Read → ℕ → ℕ
by_read q r w = same_read q r

four_ways : (q : Read) (x : Place) → in_place q x ≡ weight Held (by_read q) x + weight Deferred (by_read q) x + weight Ready (by_read q) x + weight Drawn (by_read q) x
four_ways q free = refl
four_ways q (held r) = omega arith
four_ways q (deferred r) = omega arith
four_ways q (ready r w) = omega arith
four_ways q (drawn r w) = omega arith

four_sums : (q : Read) (f : ℕ → Place) → sum_to 32 (λ p. in_place q (f p)) ≡ sum_to 32 (λ p. weight Held (by_read q) (f p)) + sum_to 32 (λ p. weight Deferred (by_read q) (f p)) + sum_to 32 (λ p. weight Ready (by_read q) (f p)) + sum_to 32 (λ p. weight Drawn (by_read q) (f p))
four_sums q f = omega (
  arith,
  sum_to_like 32 (λ p. in_place q (f p)) (λ p. weight Held (by_read q) (f p) + weight Deferred (by_read q) (f p) + weight Ready (by_read q) (f p) + weight Drawn (by_read q) (f p)) (λ p l. four_ways q (f p)),
  sum_to_plus 32 (λ p. weight Held (by_read q) (f p) + weight Deferred (by_read q) (f p) + weight Ready (by_read q) (f p)) (λ p. weight Drawn (by_read q) (f p)),
  sum_to_plus 32 (λ p. weight Held (by_read q) (f p) + weight Deferred (by_read q) (f p)) (λ p. weight Ready (by_read q) (f p)),
  sum_to_plus 32 (λ p. weight Held (by_read q) (f p)) (λ p. weight Deferred (by_read q) (f p)),
)

law_reads : (h : List Event) (m : Moment) → Inv h m → ReadsBalance h m
law_reads h m inv n q = omega (arith, (inv.boards n).places.balance q, four_sums q (place_at m n))

-- each draw answered a word that was given
sound_at : (later : List Event) (e : Event) (earlier : List Event) → Sound (later ++ e ∷ earlier) → EventOk earlier e
sound_at [] e earlier s = s.0
sound_at (x ∷ later) e earlier s = sound_at later e earlier s.1

law_draws : (h : List Event) → Sound h → DrawsGiven h
law_draws h s later n p v q earlier e = sound_at later (at n (drew p q v)) earlier (subst Sound e s)

-- where nothing was written to an address, no read of it was answered
given_le : (a w : ℕ) (xs : List Accepted) → sum_by (is_write_of a w) xs ≤ sum_by (is_write a) xs
given_le a w [] = omega arith
given_le a w (x ∷ xs) = omega (arith, sum_by-cons (is_write_of a w) x xs, sum_by-cons (is_write a) x xs, given_le a w xs, one x)
  where
    one : (x : Accepted) → is_write_of a w x ≤ is_write a x
    one (READ n q) = omega arith
    one (WRITE b u) = elim (same_or w u) [ inl e ↦ omega (arith, ap (λ y. same a b * y) e.1) | inr e ↦ omega (arith, ap (λ y. same a b * y) e.1) ]

not_given : (h : List Event) (q r : Read) (w : ℕ) → writes_accepted q.address h ≡ 0 → 1 ≤ given r.address w h → same_read q r ≡ 0
not_given h q r w z g = elim (cases_eq (same_read q r) 0) [ inl e ↦ e | inr e ↦ omega (arith, given_le r.address w (accepted_in h), ap (λ a. writes_accepted a h) (read_address q r (omega arith))) ]

abbrev Undrawn : Read → Deed → Type 0
Undrawn q nothing = Unit {0}
Undrawn q (accepted r p) = Unit {0}
Undrawn q (wrote a w) = Unit {0}
Undrawn q (acted k c) = Unit {0}
Undrawn q (drew p r w) = same_read q r ≡ 0
Undrawn q (finished p) = Unit {0}
Undrawn q (returned p) = Unit {0}

undrawn_deed : (h : List Event) (q : Read) (d : Deed) → writes_accepted q.address h ≡ 0 → DeedOk h d → Undrawn q d
undrawn_deed h q nothing z k = tt
undrawn_deed h q (accepted r p) z k = tt
undrawn_deed h q (wrote a w) z k = tt
undrawn_deed h q (acted c e) z k = tt
undrawn_deed h q (drew p r w) z k = not_given h q r w z k
undrawn_deed h q (finished p) z k = tt
undrawn_deed h q (returned p) z k = tt

undrawn_event : (h : List Event) (q : Read) (n : ℕ) (e : Event) → writes_accepted q.address h ≡ 0 → EventOk h e → Undrawn q (deed_of n e)
undrawn_event h q n (at k d) z ok = cond_both (eqb n k) d nothing (Undrawn q) (λ _. undrawn_deed h q d z ok) (λ _. tt)
undrawn_event h q n (started x y w) z ok = tt
undrawn_event h q n (delivered k c) z ok = tt
undrawn_event h q n (created kind size base) z ok = tt
undrawn_event h q n (refused c why) z ok = tt

undrawn : (h : List Event) (q : Read) (n : ℕ) → writes_accepted q.address h ≡ 0 → Sound h → AllByRecursion (Undrawn q) (deeds n h)
undrawn [] q n z s = tt
undrawn (e ∷ h) q n z s = let was : writes_accepted q.address h ≡ 0 = omega (arith, accepted_more (is_write q.address) e h) in (undrawn_event h q n e was s.0, undrawn h q n was s.1)

latest_none : (q : Read) (p : ℕ) (ds : List Deed) → AllByRecursion (Undrawn q) ds → latest (by_read q) p ds ≡ 0
latest_none q p [] u = refl
latest_none q p (nothing ∷ ds) u = latest_none q p ds u.1
latest_none q p (accepted r k ∷ ds) u = latest_none q p ds u.1
latest_none q p (wrote a w ∷ ds) u = latest_none q p ds u.1
latest_none q p (acted k c ∷ ds) u = latest_none q p ds u.1
latest_none q p (drew k r w ∷ ds) u = cond_both (eqb p k) (same_read q r) (latest (by_read q) p ds) (λ x. x ≡ 0) (λ _. u.0) (λ _. latest_none q p ds u.1)
latest_none q p (finished k ∷ ds) u = latest_none q p ds u.1
latest_none q p (returned k ∷ ds) u = latest_none q p ds u.1

finished_none : (q : Read) (ds : List Deed) → AllByRecursion (Undrawn q) ds → finished_by (by_read q) ds ≡ 0
finished_none q [] u = refl
finished_none q (nothing ∷ ds) u = finished_none q ds u.1
finished_none q (accepted r k ∷ ds) u = finished_none q ds u.1
finished_none q (wrote a w ∷ ds) u = finished_none q ds u.1
finished_none q (acted k c ∷ ds) u = finished_none q ds u.1
finished_none q (drew k r w ∷ ds) u = finished_none q ds u.1
finished_none q (finished k ∷ ds) u = omega (arith, latest_none q k ds u.1, finished_none q ds u.1)
finished_none q (returned k ∷ ds) u = finished_none q ds u.1

-- a deferred place stands in a line that waits for its address
listed_some : (p : ℕ) (ls : List Line) → 1 ≤ listed_at p ls → (i : ℕ) × (i < length ls) × (1 ≤ times p (waits (get_or ls i empty)))
listed_some p [] h = absurd (let f : ⊥ = omega arith in f)
listed_some p (l ∷ ls) h = elim (cases_eq (times p (waits l)) 0) [
  | inl z ↦ (let r = listed_some p ls (omega arith) in (suc r.0, omega (arith, r.1), r.2))
  | inr z ↦ (0, omega arith, omega arith)
]

listed_waits : (p : ℕ) (x : Line) → 1 ≤ times p (waits x) → awaits (line_address x) x ≡ 1
listed_waits p empty h = absurd (let f : ⊥ = omega arith in f)
listed_waits p (waiting a ps) h = same_refl a
listed_waits p (filled a w) h = absurd (let f : ⊥ = omega arith in f)

deferred_awaited : (t : Tables) (p : ℕ) (r : Read) → Facts t → get_or t.places p free ≡ deferred r → 1 ≤ sum_by (awaits r.address) t.lines
deferred_awaited t p r s is =
    let some = listed_some p t.lines (omega (arith, s.deferred_once p, ap if_deferred is)) in
    let line = get_or t.lines some.0 empty in
    let its : line_address line ≡ r.address = s.at_its_line some.0 p some.2 ∙ ap (λ x. (read_of x).address) is in
    omega (arith, get_or-le-sum_by (awaits r.address) t.lines some.0 empty some.1, ap (λ a. awaits a line) its, listed_waits p line some.2)

member_unstored : (n : ℕ) (c : Cell) → 1 ≤ is_member n c → stored c ≡ 0
member_unstored n Undefined k = refl
member_unstored n (Waiting s) k = refl
member_unstored n (Defined w) k = absurd (let f : ⊥ = omega arith in f)

-- in a quiet memory
module _ (h : List Event) (m : Moment) (inv : Inv h m) (quiet : Quiet m) (n : ℕ) (q : Read) (here : n < m.nodes) where
  none_held : (x : Place) → if_held x ≡ 0 → weight Held (by_read q) x ≡ 0
  none_held free k = refl
  none_held (held r) k = absurd (let f : ⊥ = omega arith in f)
  none_held (deferred r) k = refl
  none_held (ready r w) k = refl
  none_held (drawn r w) k = refl

  none_answered : writes_accepted q.address h ≡ 0 → (p : ℕ) (x : Place) → PlaceOk (view h m (transit m)) (deeds n h) p x → weight Ready (by_read q) x + weight Drawn (by_read q) x ≡ 0
  none_answered z p free k = refl
  none_answered z p (held r) k = refl
  none_answered z p (deferred r) k = refl
  none_answered z p (ready r w) k = omega (arith, not_given h q r w z k.1)
  none_answered z p (drawn r w) k = omega (arith, not_given h q r w z k.1)

  unwritten : writes_accepted q.address h ≡ 0 → reads_in Deferred m n q ≡ reads_accepted n q h
  unwritten z = omega (
    arith,
    law_reads h m inv n q,
    sum_to_zero 32 (λ p. weight Held (by_read q) (place_at m n p)) (λ p l. none_held (place_at m n p) (sym ((inv.facts n).held_once p) ∙ ap (reads_at p) (quiet.0 n here))),
    sum_to_zero 32 (λ p. weight Ready (by_read q) (place_at m n p) + weight Drawn (by_read q) (place_at m n p)) (λ p l. none_answered z p (place_at m n p) ((inv.boards n).places.each p)),
    sum_to_plus 32 (λ p. weight Ready (by_read q) (place_at m n p)) (λ p. weight Drawn (by_read q) (place_at m n p)),
    finished_none q (deeds n h) (undrawn h q n z inv.draws),
  )

  awaited : (p : ℕ) (x : Place) → place_at m n p ≡ x → 1 ≤ weight Deferred (by_read q) x → 1 ≤ sum_by (awaits q.address) (board_at m n).lines
  awaited p free e d = absurd (let f : ⊥ = omega arith in f)
  awaited p (held r) e d = absurd (let f : ⊥ = omega arith in f)
  awaited p (deferred r) e d = subst (λ a. 1 ≤ sum_by (awaits a) (board_at m n).lines) (sym (read_address q r d)) (deferred_awaited (board_at m n) p r (inv.facts n) e)
  awaited p (ready r w) e d = absurd (let f : ⊥ = omega arith in f)
  awaited p (drawn r w) e d = absurd (let f : ⊥ = omega arith in f)

  no_waiter : 1 ≤ writes_accepted q.address h → 1 ≤ reads_in Deferred m n q → ⊥
  no_waiter wr d =
      let a = q.address in
      let some = sum_to_some 32 (λ p. weight Deferred (by_read q) (place_at m n p)) d in
      let asked = (inv.boards n).lines.asked a (awaited some.0 (place_at m n some.0) refl some.1) in
      let no-ask = ap (sum_by (asks n a)) quiet.1 in
      let no_write = ap (sum_by (is_write_to a)) quiet.1 in
      let unstored : stored (cell_at m a) ≡ 0 = member_unstored n (cell_at m a) (omega arith) in
      let none : sum_to m.nodes (λ k. sum_by (is_writing a) (board_at m k).commands) ≡ 0 = sum_to_zero m.nodes (λ k. sum_by (is_writing a) (board_at m k).commands) (λ k l. ap (sum_by (is_writing a)) (quiet.0 k l)) in
      omega (arith, inv.writes a, inv.reports a (omega (arith, inv.writes a)))

  answered : 1 ≤ writes_accepted q.address h → reads_in Deferred m n q ≡ 0
  answered wr = elim (cases_eq (reads_in Deferred m n q) 0) [ inl e ↦ e | inr e ↦ absurd (no_waiter wr (omega arith)) ]

-- where the messages in transit go
goes : (h : List Event) (m : Moment) (k : Kind) (x : Plain) → KindOk (view h m (transit m)) k x → Goes m k x
goes h m kind.Read x ok = ok.0
goes h m kind.Write x ok = ok.0
goes h m kind.Reply x ok = ok.0

law_homes : (h : List Event) (m : Moment) → Inv h m → Homes m
law_homes h m inv = All-weaker (MessageOk (view h m (transit m))) (λ x. (x.address < m.nodes * m.cells) × Goes m x.kind x) (λ x ok. (ok.0, goes h m x.kind x ok.1)) (transit m) inv.in_bag

-- a write command and a held read name an address of the memory, whose home is then a plain quotient
pub command_within : (h : List Event) (m : Moment) → Reached h m → (n k a w : ℕ) → slice_get (board_at m n).commands k ≡ Some (writing a w) → a < m.nodes * m.cells
command_within h m run n k a w e = (all_removed (CommandOk (view h m (transit m))) (board_at m n).commands k (writing a w) e ((run_inv run).boards n).commands).0.0

pub held_within : (h : List Event) (m : Moment) → Reached h m → (n p : ℕ) (q : Read) → place_at m n p ≡ held q → q.address < m.nodes * m.cells
held_within h m run n p q e = subst (PlaceOk (view h m (transit m)) (deeds n h) p) e (((run_inv run).boards n).places.each p)

pub home_within : (h : List Event) (m : Moment) → Reached h m → (a : ℕ) → a < m.nodes * m.cells → home_of m a ≡ a / m.cells
home_within h m run a low = home_is a m.nodes m.cells (run_inv run).few low

pub laws : (h : List Event) (m : Moment) → Reached h m → Laws h m
laws h m run =
    let inv = run_inv run in
    record {
      reads = law_reads h m inv;
      draws = law_draws h inv.draws;
      deferred = λ quiet n q lt. (unwritten h m inv quiet n q lt, answered h m inv quiet n q lt);
      writes = inv.writes;
      boards = inv.facts;
      room = λ on. inv.fits;
      homes = law_homes h m inv;
    }

pub law_of_runs : LawOfRuns
law_of_runs m c e m' s h r = (then c r s, laws (e ∷ h) m' (then c r s))
