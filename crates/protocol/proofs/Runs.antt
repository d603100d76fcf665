-- Every run keeps what the runs keep.
use Rattle.std.proofs.Common.{◌≡◌, ℕ, ◌+◌, ◌*◌, ◌<◌, ◌≤◌, Bool, true, false, cond, ◌||◌, eqb, ltb, List, [], ◌∷◌, length, Some, None, Ok, Err, MatchBool, Option, Result, sym, refl, ◌∙◌, subst, inl, inr, mul-le-mul, arith, lit<}
use Rattle.std.proofs.lemmas.List.{nil_from_length}
use Rattle.std.proofs.lemmas.List.Sums.{get_or-le-sum_by}
use Rattle.std.proofs.lemmas.Bool.{cond_both}
use Rattle.std.proofs.lemmas.Bool.Decides.{nat_tests}
use Rattle.network.specs.declared.message.Kind.{Kind}
use Rattle.network.specs.declared.message.Kind.TheVariants as kind
use Rattle.network.specs.Messages.{Plain}
use Rattle.network.specs.Bags.{OneMore, Gives}
use Rattle.network.proofs.Bags.{one_more_length}
use Rattle.home.specs.declared.cell.Cell.{Cell}
use Rattle.home.specs.declared.cell.Cell.TheVariants.{Undefined}
use Rattle.home.specs.Cells as home
use Rattle.lines.specs.Model.{Tables, waits, Found, absent, waits_at, holds}
use Rattle.lines.specs.Model as board
use Rattle.lines.specs.Facts.{Facts}
use Rattle.lines.proofs.Finds.{found_waits, found_holds, found_absent}
use Rattle.lines.proofs.Keeps.{read_facts}
use Rattle.lines.proofs.Wakes.{reply_facts}
use Rattle.protocol.specs.Moments.{Moment, is_started, board_at, cell_at, transit, waiters, with_board, with_cell, with_end, with_bag}
use Rattle.protocol.specs.Moments.{Call, start, read, write, act, deliver, draw, finish, put_back, create, Event, started, delivered, created, refused}
use Rattle.protocol.specs.Moments as layer
use Rattle.protocol.specs.Steps.{takes, refusal, refuse, outside, fresh, starts, at_home, brings, delivers, creates, does, Untouched, Asks, Step, Reached, new, then}
use Rattle.protocol.proofs.Moves.{out_all}
use Rattle.protocol.proofs.Inv.{View, MessageOk, view, InvAt, Inv}
use Rattle.protocol.proofs.Steps.{inv_quiet, inv_unused, inv_start, OnBoard, inv_board}
use Rattle.protocol.proofs.Homes.{AtHome, inv_home, of, HomeDid, reads_home, writes_home}
use Rattle.protocol.proofs.Deeds as deeds
use Rattle.protocol.proofs.Calls as calls
use Rattle.protocol.proofs.Calls.{in_transit, not_yet, to_transit, from_transit, is_on, Fine, fine_refuse, fine_started, fine_node, fine_address}

-- the message that was taken goes to its home, or to the board that asked
module _ (h : List Event) (m : Moment) (inv : Inv h m) (pos : 0 < m.nodes) (k : ℕ) (rest : List Plain) where
  here : InvAt h m m.bag
  here = from_transit h m pos inv

  abbrev v : View
  v = view h m m.bag

  reach : (x : Plain) → OneMore x rest m.bag → MessageOk v x
  reach x out = (out_all (MessageOk v) m.bag (Some x) rest out here.in_bag).0.0

  small : (a : ℕ) → a < m.nodes * m.cells → a < 1024
  small a low = let most : m.nodes * m.cells ≤ 1024 = mul-le-mul here.few here.low in omega arith

  -- a home never wants for room
  homed : (x : Plain) (e : Event) (d : Cell) (added : List Plain) → OneMore x rest m.bag → AtHome v h x.address (cell_at m x.address) x e d added → Fine h m rest (record { event = e; after = with_cell m x.address d; sent = added })
  homed x e d added out did bag o =
      let low = small x.address (reach x out).0 in
      let inside : x.address < length m.memory = omega (arith, here.deep) in
      to_transit (e ∷ h) (with_bag (with_cell m x.address d) bag) pos
      (inv_home h m m.bag x.address x e d added bag here pos low did (record {
        rest = rest;
        out = out;
        offers = o;
        room = omega (arith, here.fits, did.room, one_more_length x rest m.bag out, get_or-le-sum_by waiters m.memory x.address Undefined inside);
      }))

  by_answer : (x : Plain) (d : Cell) (r : Result (List Plain) home.Twice) → OneMore x rest m.bag → HomeDid v h k (cell_at m x.address) x d r → Fine h m rest (at_home m k x.address d r)
  by_answer x d (Ok replies) out did = homed x (delivered k 0) d replies out did
  by_answer x d (Err e) out did = homed x (refused (deliver k) (refusal 30 layer.home (Some e.writer) (Some e.address))) d [] out did

  -- a REPLY
  module _ (x : Plain) (out : OneMore (of kind.Reply x) rest m.bag) where
    abbrev t : Tables
    t = board_at m x.to

    lt : x.to < m.nodes
    lt = (reach (of kind.Reply x) out).1.0

    received : (c : ℕ) (t' : Tables) → OnBoard h m m.bag x.to (delivered k c) t' (of kind.Reply x ∷ []) [] → Fine h m rest (takes (delivered k c) (with_board m x.to t'))
    received c t' did bag o =
        let one = one_more_length (of kind.Reply x) rest m.bag out in
        to_transit (delivered k c ∷ h) (with_bag (with_board m x.to t') bag) pos
        (inv_board h m m.bag x.to (delivered k c) t' (Some (of kind.Reply x)) [] bag here lt did (record { rest = rest; out = out; offers = o; room = omega (arith, here.fits) }) (omega (arith, here.fits)))

    finds : (f : Found) → board.found x.address 0 t.lines ≡ f → Facts (board.reply_finds t x.address x.word f).after
        → Fine h m rest (takes (delivered k (board.reply_finds t x.address x.word f).answer) (with_board m x.to (board.reply_finds t x.address x.word f).after))
    finds absent e kw = received 0 t (deeds.did_ignore h m m.bag here x.to lt x k 0 refl (deeds.absent_unawaited h m m.bag here x.to lt x.address (found_absent x.address t.lines e)))
    finds (waits_at i) e kw =
        let g = found_waits x.address t.lines i e in
        let c = length (waits (board.line_at t i)) in
        received c (board.filling t i x.address x.word) (deeds.did_receive h m m.bag here x.to lt i x.address x.word g.0 g.1 x k c refl refl refl (reach (of kind.Reply x) out) kw)
    finds (holds u) e kw =
        let g = found_holds x.address t.lines u e in
        received 0 t (deeds.did_ignore h m m.bag here x.to lt x k 0 refl (deeds.filled_unawaited h m m.bag here x.to lt g.0 x.address u g.1 g.2))

  by_kind : (κ : Kind) (x : Plain) → OneMore (of κ x) rest m.bag → Fine h m rest (brings m k κ (of κ x))
  by_kind kind.Read x out = by_answer (of kind.Read x) _ _ out (reads_home v h x k (cell_at m x.address) here.few (reach (of kind.Read x) out) (here.memory x.address))
  by_kind kind.Write x out = by_answer (of kind.Write x) _ _ out (writes_home v h x k (cell_at m x.address) (reach (of kind.Write x) out) (here.memory x.address))
  by_kind kind.Reply x out = finds x out (board.found x.address 0 (board_at m x.to).lines) refl (reply_facts (board_at m x.to) x.address x.word (inv.facts x.to))

  delivering : (got : Option Plain) → Gives m.bag got rest → Fine h m rest (delivers m k got)
  delivering None gives = subst (λ r. Fine h m r (delivers m k None)) (sym gives.1) (fine_refuse h m inv (deliver k) 27 layer.system None None (inl (lit< tt)))
  delivering (Some x) gives = by_kind x.kind x gives

module _ (h : List Event) (m : Moment) (inv : Inv h m) where
  begins : (n l c : ℕ) → m.nodes ≡ 0 → (outside 16 n || (outside 16 l || outside 64 c)) ≡ false → length m.bag ≡ 0 → Fine h m m.bag (takes (started n l c) (fresh m n l c))
  begins n l c z good none bag o =
      let pos : 0 < n = grind (arith, nat_tests) in
      let few : n ≤ 16 = grind (arith, nat_tests) in
      let low : c ≤ 64 = grind (arith, nat_tests) in
      let some : 1 ≤ l = grind (arith, nat_tests) in
      let most : l ≤ 16 = grind (arith, nat_tests) in
      let empty : bag ≡ [] = o ∙ nil_from_length m.bag none in
      subst (InvAt (started n l c ∷ h) (with_bag (fresh m n l c) bag)) (sym (in_transit n bag pos ∙ empty))
      (inv_start h m n l c bag z few low some most (subst (InvAt h m) (not_yet m.nodes m.bag z) inv))

  starting : (n l c : ℕ) → Fine h m m.bag (starts m n l c)
  starting n l c = cond_both (is_started m) _ _ (Fine h m m.bag)
      (λ e. fine_refuse h m inv (start n l c) 21 layer.system None None (inl (lit< tt)))
      (λ e. cond_both (outside 16 n || (outside 16 l || outside 64 c)) _ _ (Fine h m m.bag)
      (λ f. fine_refuse h m inv (start n l c) 1 layer.system None None (inl (lit< tt)))
      (λ f. cond_both (ltb 0 (length m.bag) || ltb m.limit 2) _ _ (Fine h m m.bag)
      (λ g. fine_refuse h m inv (start n l c) 22 layer.system None None (inl (lit< tt)))
      (λ g. begins n l c (grind (arith, nat_tests)) f (grind (arith, nat_tests)))))

  creating : (kind size : ℕ) → Fine h m m.bag (creates m kind size)
  creating kind size = cond_both (outside 255 kind || eqb size 0) _ _ (Fine h m m.bag)
      (λ e. fine_refuse h m inv (create kind size) 1 layer.array None None (inl (lit< tt)))
      (λ e. cond_both (ltb (m.nodes * m.cells) (m.end + size)) _ _ (Fine h m m.bag)
      (λ f. fine_refuse h m inv (create kind size) 31 layer.array None None (inr (lit< tt)))
      (λ f bag o. subst (λ b. Inv (created kind size m.end ∷ h) (with_bag (with_end m (m.end + size)) b)) (sym o)
      (inv_quiet h m (transit m) (created kind size m.end) (m.end + size) m.bag
      (record { mute = λ n. record { reads = λ q. refl; latest = λ f p. refl; finished = λ f. refl }; no_write = λ a. refl; sound = tt; untold = λ a. refl }) inv)))

  given_out : (k : ℕ) (got : Option Plain) (rest : List Plain) (b : Bool) → is_started m ≡ b → MatchBool b (Gives m.bag got rest) (Untouched m.bag got rest) → Fine h m rest (cond b (delivers m k got) (refuse m (deliver k) (refusal 20 layer.system None None)))
  given_out k got rest true e asks = delivering h m inv (is_on m.nodes e) k rest got asks
  given_out k got rest false e asks = subst (λ r. Fine h m r (refuse m (deliver k) (refusal 20 layer.system None None))) (sym asks.1) (fine_refuse h m inv (deliver k) 20 layer.system None None (inl (lit< tt)))

  -- every call
  fine : (c : Call) (got : Option Plain) (rest : List Plain) → Asks m c got rest → Fine h m rest (does m c got)
  fine (start n l c) got rest asks = subst (λ r. Fine h m r (starts m n l c)) (sym asks.1) (starting n l c)
  fine (read n q) got rest asks = subst (λ r. Fine h m r (does m (read n q) got)) (sym asks.1)
      (fine_address h m inv (read n q) n q.address _ (λ lt low. calls.fine_reads h m inv n lt q low (board.free_place (board_at m n)) refl (read_facts (board_at m n) q (inv.facts n))))
  fine (write n a w) got rest asks = subst (λ r. Fine h m r (does m (write n a w) got)) (sym asks.1) (fine_address h m inv (write n a w) n a _ (λ lt low. calls.fine_writes h m inv n lt a w low))
  fine (act n k) got rest asks = subst (λ r. Fine h m r (does m (act n k) got)) (sym asks.1) (fine_node h m inv (act n k) n _ (λ lt. calls.fine_acts h m inv n lt k))
  fine (deliver k) got rest asks = given_out k got rest (is_started m) refl asks
  fine (draw n) got rest asks = subst (λ r. Fine h m r (does m (draw n) got)) (sym asks.1) (fine_node h m inv (draw n) n _ (λ lt. calls.fine_draws h m inv n lt (board_at m n).order refl))
  fine (finish n p) got rest asks = subst (λ r. Fine h m r (does m (finish n p) got)) (sym asks.1) (fine_node h m inv (finish n p) n _ (λ lt. calls.fine_finishes h m inv n lt p))
  fine (put_back n p) got rest asks = subst (λ r. Fine h m r (does m (put_back n p) got)) (sym asks.1) (fine_node h m inv (put_back n p) n _ (λ lt. calls.fine_puts_back h m inv n lt p))
  fine (create kind size) got rest asks = subst (λ r. Fine h m r (does m (create kind size) got)) (sym asks.1) (fine_started h m inv (create kind size) _ (λ pos. creating kind size))

  pub step_inv : {e : Event} {m' : Moment} (c : Call) → Step m c e m' → Inv (e ∷ h) m'
  step_inv {e} {m'} c s =
      subst (λ x. Inv (x ∷ h) m') (sym s.says) (subst (Inv ((does m c s.got).event ∷ h)) (sym s.leaves) (fine c s.got s.rest s.asks m'.bag s.offers))

pub run_inv : {h : List Event} {m : Moment} → Reached h m → Inv h m
run_inv (new limit bag) = inv_unused limit bag
run_inv (then {h} {m} c r s) = step_inv h m (run_inv r) c s
