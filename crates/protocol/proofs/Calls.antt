-- Every call keeps what the runs keep.
use Rattle.std.proofs.Common.{◌≡◌, ℕ, ◌+◌, ◌-◌, ◌*◌, ◌<◌, ◌≤◌, true, cond, not, eqb, ltb, leb, ◌⊎◌, List, [], ◌∷◌, length, Some, None, Option, sym, refl, ap, ◌∙◌, subst, inl, inr, arith, lit<}
use Rattle.std.specs.List.{slice_get}
use Rattle.std.proofs.lemmas.List.{set-get_or}
use Rattle.std.proofs.lemmas.Bool.{cond_both, cond-true, cond-false, eq-eqb, ne_eqb, cases_eq, false≢true, ltb-true, leb-false, not_from_true, not_from_false}
use Rattle.network.specs.Messages.{Plain}
use Rattle.network.specs.Bags.{Offered}
use Rattle.lines.specs.Model.{Read, Command, reading, writing, Tables, read_of, word_of, waits, Found, absent, waits_at, holds}
use Rattle.lines.specs.Model as board
use Rattle.lines.specs.Facts.{Facts}
use Rattle.lines.proofs.Acts.{act_facts}
use Rattle.lines.proofs.Finds.{found_waits, found_holds}
use Rattle.lines.proofs.Keeps.{write_facts, draw_facts, finish_facts, put_back_facts}
use Rattle.lines.proofs.Looks.{in_table, order_ready, free_is_free, claimed_within}
use Rattle.lines.proofs.Marks.{drawn_is}
use Rattle.protocol.specs.Moments.{Moment, is_started, board_at, place_at, transit, load, with_board, with_bag}
use Rattle.protocol.specs.Moments.{Call, start, read, write, act, draw, finish, put_back}
use Rattle.protocol.specs.Moments.{Layer, Event, at, refused, accepted, wrote, acted, drew, finished, returned}
use Rattle.protocol.specs.Moments as layer
use Rattle.protocol.specs.Steps.{Outcome, takes, refusal, refuse, once_started, at_node, at_address, reads, writes, acts, draws, finishes, puts_back}
use Rattle.protocol.specs.Counts.{same}
use Rattle.protocol.proofs.Count.{same_apart}
use Rattle.protocol.proofs.Inv.{InvAt, Inv}
use Rattle.protocol.proofs.Steps.{Quiet, inv_quiet, OnBoard, inv_board}
use Rattle.protocol.proofs.Homes.{mute_refused}
use Rattle.protocol.proofs.Deeds as deeds

-- after the start all that the network holds is in transit, and before it nothing
pub in_transit : (nodes : ℕ) (bag : List Plain) → 0 < nodes → cond (not (eqb nodes 0)) bag [] ≡ bag
in_transit nodes bag pos = cond-true (not (eqb nodes 0)) bag [] (not_from_false (eqb nodes 0) (ne_eqb nodes 0 (λ e. omega arith)))

pub not_yet : (nodes : ℕ) (bag : List Plain) → nodes ≡ 0 → cond (not (eqb nodes 0)) bag [] ≡ []
not_yet nodes bag z = cond-false (not (eqb nodes 0)) bag [] (not_from_true (eqb nodes 0) (eq-eqb nodes 0 z))

pub to_transit : (h : List Event) (m : Moment) → 0 < m.nodes → InvAt h m m.bag → Inv h m
to_transit h m pos inv = subst (InvAt h m) (sym (in_transit m.nodes m.bag pos)) inv

pub from_transit : (h : List Event) (m : Moment) → 0 < m.nodes → Inv h m → InvAt h m m.bag
from_transit h m pos inv = subst (InvAt h m) (in_transit m.nodes m.bag pos) inv

pub is_on : (nodes : ℕ) → not (eqb nodes 0) ≡ true → 0 < nodes
is_on nodes e = elim (cases_eq nodes 0) [ inl z ↦ absurd (false≢true (sym (ap (λ x. not (eqb x 0)) z) ∙ e)) | inr z ↦ omega arith ]

-- an outcome, whatever the network makes of what is offered to it
abbrev pub Fine : List Event → Moment → List Plain → Outcome → Type 0
Fine h m rest o = (bag : List Plain) → Offered m.limit rest o.sent bag → Inv (o.event ∷ h) (with_bag o.after bag)

-- a refusal that does not say that an address is written twice
abbrev pub Other : ℕ → Type 0
Other number = (number < 29) ⊎ (30 < number)

untold : (number k : ℕ) → Other number → (same number 29 + same number 30) * k ≡ 0
untold number k other =
    let z : same number 29 + same number 30 ≡ 0 = elim other [
      | inl l ↦ omega (arith, same_apart number 29 (λ e. omega arith), same_apart number 30 (λ e. omega arith))
      | inr l ↦ omega (arith, same_apart number 29 (λ e. omega arith), same_apart number 30 (λ e. omega arith))
    ] in
    omega (arith, ap (λ x. x * k) z)

refused_quiet : (h : List Event) (c : Call) (number : ℕ) (by : Layer) (node address : Option ℕ) → Other number → Quiet h (refused c (refusal number by node address))
refused_quiet h c number by node address other = record { mute = mute_refused h c (refusal number by node address); no_write = λ a. refl; sound = tt; untold = λ a. untold number _ other }

module _ (h : List Event) (m : Moment) (inv : Inv h m) where
  pub fine_refuse : (c : Call) (number : ℕ) (by : Layer) (node address : Option ℕ) → Other number → Fine h m m.bag (refuse m c (refusal number by node address))
  fine_refuse c number by node address other bag o =
      subst (λ b. Inv (refused c (refusal number by node address) ∷ h) (with_bag m b)) (sym o) (inv_quiet h m (transit m) (refused c (refusal number by node address)) m.end m.bag (refused_quiet h c number by node address other) inv)

  pub fine_started : (c : Call) (o : Outcome) → (0 < m.nodes → Fine h m m.bag o) → Fine h m m.bag (once_started m c o)
  fine_started c o f = cond_both (is_started m) o _ (Fine h m m.bag) (λ e. f (is_on m.nodes e)) (λ e. fine_refuse c 20 layer.system None None (inl (lit< tt)))

  pub fine_node : (c : Call) (n : ℕ) (o : Outcome) → (n < m.nodes → Fine h m m.bag o) → Fine h m m.bag (at_node m c n o)
  fine_node c n o f = fine_started c _ (λ _. cond_both (ltb n m.nodes) o _ (Fine h m m.bag) (λ e. f (ltb-true n m.nodes e)) (λ e. fine_refuse c 2 layer.system (Some n) None (inl (lit< tt))))

  pub fine_address : (c : Call) (n a : ℕ) (o : Outcome) → (n < m.nodes → a < m.nodes * m.cells → Fine h m m.bag o) → Fine h m m.bag (at_address m c n a o)
  fine_address c n a o f = fine_node c n _ (λ lt. cond_both (ltb a (m.nodes * m.cells)) o _ (Fine h m m.bag) (λ e. f lt (ltb-true a (m.nodes * m.cells) e)) (λ e. fine_refuse c 3 layer.system (Some n) (Some a) (inl (lit< tt))))

  module _ (n : ℕ) (lt : n < m.nodes) where
    abbrev t : Tables
    t = board_at m n

    here : InvAt h m m.bag
    here = from_transit h m (omega arith) inv

    s : Facts t
    s = inv.facts n

    -- a call on the board n that sends where there is room
    done : (e : Event) (t' : Tables) (added : List Plain) → OnBoard h m m.bag n e t' [] added → load m + length added ≤ m.limit → Fine h m m.bag (record { event = e; after = with_board m n t'; sent = added })
    done e t' added did room bag o =
        let is = ap length (in_transit m.nodes m.bag (omega arith)) in
        to_transit (e ∷ h) (with_bag (with_board m n t') bag) (omega arith)
        (inv_board h m m.bag n e t' None added bag here lt did (record { rest = m.bag; out = refl; offers = o; room = omega arith }) (omega arith))

    silent : (e : Event) (t' : Tables) → OnBoard h m m.bag n e t' [] [] → Fine h m m.bag (takes e (with_board m n t'))
    silent e t' did = done e t' [] did (omega (arith, inv.fits))

    pub fine_reads : (q : Read) → q.address < m.nodes * m.cells → (o : Option ℕ) → board.free_place t ≡ o → Facts (board.given t q o) → Fine h m m.bag (reads m n q o)
    fine_reads q low None e k = fine_refuse (read n q) 23 layer.system (Some n) None (inl (lit< tt))
    fine_reads q low (Some p) e k = let f = free_is_free t p s e in silent (at n (accepted q p)) (board.given t q (Some p)) (deeds.did_read h m m.bag here n lt q p low f.0 f.1 k)

    pub fine_writes : (a v : ℕ) → a < m.nodes * m.cells → Fine h m m.bag (writes m n a v)
    fine_writes a v low = cond_both (board.may_write t) _ _ (Fine h m m.bag)
        (λ e. silent (at n (wrote a v)) (board.written t a v) (deeds.did_write h m m.bag here n lt a v low (write_facts t a v e s)))
        (λ e. fine_refuse (write n a v) 24 layer.system (Some n) None (inl (lit< tt)))

    -- a refusal that sets the board as it was
    as_it_was : (c : Call) (number : ℕ) (by : Layer) (node address : Option ℕ) → Other number → Fine h m m.bag (takes (refused c (refusal number by node address)) (with_board m n t))
    as_it_was c number by node address other bag o =
        subst (λ bs. Inv (refused c (refusal number by node address) ∷ h) (with_bag (record { nodes = m.nodes; cells = m.cells; boards = bs; memory = m.memory; end = m.end; limit = m.limit; bag = m.bag }) bag)) (sym (set-get_or m.boards n (board.start 1))) (fine_refuse c number by node address other bag o)

    module _ (k : ℕ) where
      abbrev Acting : board.Step → Type 0
      Acting st = Facts st.after → Fine h m m.bag (acts m n k st.answer st.after)

      -- the read held at p
      module _ (p : ℕ) (is : slice_get t.commands k ≡ Some (reading p)) where
        abbrev q : Read
        q = read_of (board.place_at t p)

        claims : (o : Option ℕ) → board.claimed t ≡ o → Acting (board.read_claims n t k p q (load m) m.limit o)
        claims None e = λ kw. as_it_was (act n k) 25 layer.lines (Some n) (Some q.address) (inl (lit< tt))
        claims (Some i) e = cond_both (leb (m.limit - 1) (load m)) _ _ Acting
            (λ l kw. as_it_was (act n k) 26 layer.system (Some n) (Some q.address) (inl (lit< tt)))
            (λ l kw. let room = leb-false (m.limit - 1) (load m) l in done (at n (acted k 0)) _ _ (deeds.did_request h m m.bag here n lt k p is i (claimed_within t i s e).0 kw) (omega arith))

        read_finds : (f : Found) → board.found q.address 0 t.lines ≡ f → Acting (board.read_finds n t k p q (load m) m.limit f)
        read_finds absent e = claims (board.claimed t) refl
        read_finds (waits_at i) e = λ kw. silent (at n (acted k 0)) _ (deeds.did_join h m m.bag here n lt k p is i (found_waits q.address t.lines i e).0 kw)
        read_finds (holds v) e = λ kw. let g = found_holds q.address t.lines v e in silent (at n (acted k 1)) _ (deeds.did_hit h m m.bag here n lt k p is g.0 v g.1 g.2 kw)

      -- the write of v to a
      module _ (a v : ℕ) (is : slice_get t.commands k ≡ Some (writing a v)) where
        claims_line : (o : Option ℕ) → board.claimed t ≡ o → load m < m.limit → Acting (board.taken (board.filling_new t a v o) k 0 (Some (board.gives a v)))
        claims_line None e room kw = done (at n (acted k 0)) _ _ (deeds.did_pass h m m.bag here n lt k a v is kw) (omega arith)
        claims_line (Some i) e room kw = done (at n (acted k 0)) _ _ (deeds.did_claim h m m.bag here n lt k a v is i (claimed_within t i s e).0 kw) (omega arith)

        write_finds : (f : Found) → board.found a 0 t.lines ≡ f → Acting (board.write_finds n t k a v (load m) m.limit f)
        write_finds absent e = cond_both (leb m.limit (load m)) _ _ Acting
            (λ l kw. as_it_was (act n k) 26 layer.system (Some n) (Some a) (inl (lit< tt)))
            (λ l. claims_line (board.claimed t) refl (leb-false m.limit (load m) l))
        write_finds (waits_at i) e = cond_both (leb m.limit (load m)) _ _ Acting
            (λ l kw. as_it_was (act n k) 26 layer.system (Some n) (Some a) (inl (lit< tt)))
            (λ l kw. let room = leb-false m.limit (load m) l in let g = found_waits a t.lines i e in done (at n (acted k (length (waits (board.line_at t i))))) _ _ (deeds.did_fill h m m.bag here n lt k a v is i g.0 g.1 kw) (omega arith))
        write_finds (holds u) e = λ kw. let g = found_holds a t.lines u e in silent _ _ (deeds.did_report h m m.bag here n lt k a v is g.0 u g.1 g.2 kw)

      acting : (o : Option Command) → slice_get t.commands k ≡ o → Acting (board.act_on n t k (load m) m.limit o)
      acting None e = λ kw. as_it_was (act n k) 4 layer.system (Some n) None (inl (lit< tt))
      acting (Some (reading p)) e = read_finds p e (board.found (read_of (board.place_at t p)).address 0 t.lines) refl
      acting (Some (writing a v)) e = write_finds a v e (board.found a 0 t.lines) refl

      pub fine_acts : Fine h m m.bag (acts m n k (board.acted n t k (load m) m.limit).answer (board.acted n t k (load m) m.limit).after)
      fine_acts = acting (slice_get t.commands k) refl (act_facts n t k (load m) m.limit s)

    pub fine_draws : (os : List ℕ) → t.order ≡ os → Fine h m m.bag (draws m n (board.first_ready t os))
    fine_draws [] e = fine_refuse (draw n) 28 layer.system (Some n) None (inl (lit< tt))
    fine_draws (p ∷ rest) e =
        let is = order_ready t p rest s e in
        silent (at n (drew p (read_of (board.place_at t p)) (word_of (board.place_at t p)))) (board.drawing t t.order)
        (deeds.did_draw h m m.bag here n lt p (read_of (board.place_at t p)) (word_of (board.place_at t p)) is.0 is.1 (board.drawing t t.order) (draw_facts t s)
        (ap (λ x. (board.drawing t x).commands) e) (ap (λ x. (board.drawing t x).places) e) (ap (λ x. (board.drawing t x).lines) e))

    drawn_within : (p : ℕ) → board.is_drawn (board.place_at t p) ≡ true → p < 32
    drawn_within p e = in_table t (λ x. cond (board.is_drawn x) 1 0) p s refl (omega (arith, ap {B = ℕ} (λ x. cond x 1 0) e))

    pub fine_finishes : (p : ℕ) → Fine h m m.bag (finishes m n p)
    fine_finishes p = cond_both (board.is_drawn (place_at m n p)) _ _ (Fine h m m.bag)
        (λ e.
        let is = cond-true (board.is_drawn (board.place_at t p)) (board.freeing t p) t e in
        subst (λ t'. Fine h m m.bag (takes (at n (finished p)) (with_board m n t'))) (sym is)
        (silent (at n (finished p)) (board.freeing t p) (deeds.did_finish h m m.bag here n lt p _ _ (drawn_within p e) (drawn_is (board.place_at t p) e) (subst Facts is (finish_facts t p s)))))
        (λ e. fine_refuse (finish n p) 5 layer.system (Some n) None (inl (lit< tt)))

    pub fine_puts_back : (p : ℕ) → Fine h m m.bag (puts_back m n p)
    fine_puts_back p = cond_both (board.is_drawn (place_at m n p)) _ _ (Fine h m m.bag)
        (λ e.
        let t' = board.readying t p (read_of (board.place_at t p)) (word_of (board.place_at t p)) in
        let is = cond-true (board.is_drawn (board.place_at t p)) t' t e in
        subst (λ x. Fine h m m.bag (takes (at n (returned p)) (with_board m n x))) (sym is)
        (silent (at n (returned p)) t' (deeds.did_return h m m.bag here n lt p _ _ (drawn_within p e) (drawn_is (board.place_at t p) e) (subst Facts is (put_back_facts t p s)))))
        (λ e. fine_refuse (put_back n p) 5 layer.system (Some n) None (inl (lit< tt)))
