-- What a board does in each call, from a memory that a run reached.
use Rattle.std.proofs.Common.{◌≡◌, ℕ, zero, suc, ◌+◌, ◌*◌, ◌/◌, ◌%◌, ◌<◌, ◌≤◌, cond, eqb, List, [], ◌∷◌, ◌++◌, length, get_or, set, Some, sum_by, sym, refl, ap, ◌∙◌, subst, inl, inr, div-lt_iff_lt-mul, arith}
use Rattle.std.specs.List.{slice_get, remove, AllByRecursion}
use Rattle.std.proofs.ByRecursion.{All-weaker, All-push}
use Rattle.std.proofs.lemmas.List.Sums.{sum_by-cons, sum_by_push, sum_by-set, get_or-le-sum_by}
use Rattle.std.proofs.lemmas.Bool.{eq-eqb, cases_eq}
use Rattle.network.specs.declared.message.Kind.TheVariants as kind
use Rattle.network.specs.Messages.{Plain}
use Rattle.network.specs.Messages as message
use Rattle.lines.specs.Model.{Read, Place, free, held, deferred, ready, drawn, Line, empty, waiting, filled, Command, reading, writing, Tables, read_of, waits, woken}
use Rattle.lines.specs.Model as board
use Rattle.lines.specs.Facts.{Facts, times, for_address, lines_for, line_address}
use Rattle.lines.proofs.Looks.{command_held, listed_deferred}
use Rattle.lines.proofs.Wakes.{woken_other, woken_here}
use Rattle.protocol.specs.Moments.{Moment, board_at, home_of, act, Deed, accepted, wrote, acted, drew, finished, returned, Event, at, delivered, refused}
use Rattle.protocol.specs.Moments as layer
use Rattle.protocol.specs.Steps.{refusal}
use Rattle.protocol.specs.Counts.{same, from_deed, is_write, deeds, is_writing, is_write_to}
use Rattle.protocol.proofs.Count.{same_refl, same_apart, same_or, same_one, sum_removed, all_removed}
use Rattle.protocol.proofs.Inv.{in_place, awaits, View, PlaceOk, CommandOk, LineOk, MessageOk, PlacesOk, LinesOk, BoardInv, DeedOk, view, InvAt, Up, up_self, command_up}
use Rattle.protocol.proofs.Boards.{mute_others, mute_wrote, mute_acted, mute_returned, Woke, kept, places_kept, places_moved, places_woken, places_accepted, places_drawn, places_finished, line_ok, lines_kept, lines_set, lines_asking}
use Rattle.protocol.proofs.Boards as boards
use Rattle.protocol.proofs.Steps.{Next, OnBoard}
use Rattle.protocol.proofs.Homes.{mute_delivered, mute_refused, one_of_two, of}

-- the lines that wait for an address and those that are filled with it are its lines
abbrev fills : ℕ → Line → ℕ
fills a empty = 0
fills a (waiting b ps) = 0
fills a (filled b w) = same a b

same_for : (a b : ℕ) → same a b ≤ cond (eqb b a) 1 0
same_for a b = elim (same_or a b) [ inl e ↦ omega (arith, e.1, ap {B = ℕ} (λ x. cond x 1 0) (eq-eqb b a (sym e.0))) | inr e ↦ omega (arith, e.1) ]

lines_are : (a : ℕ) (ls : List Line) → sum_by (awaits a) ls + sum_by (fills a) ls ≤ lines_for a ls
lines_are a [] = omega arith
lines_are a (x ∷ ls) = omega (arith, sum_by-cons (awaits a) x ls, sum_by-cons (fills a) x ls, lines_are a ls, one x)
  where
    one : (x : Line) → awaits a x + fills a x ≤ for_address a x
    one empty = omega arith
    one (waiting b ps) = omega (arith, same_for a b)
    one (filled b w) = omega (arith, same_for a b)

-- the home of an address that the memory has
pub home_is : (a n c : ℕ) → n ≤ 16 → a < n * c → a / c % 16 ≡ a / c
home_is a n zero few low = absurd (let f : ⊥ = omega arith in f)
home_is a n (suc c) few low = let k : a / suc c < n = (div-lt_iff_lt-mul {k = suc c} {x = a} {y = n} (omega arith)).1 low in omega arith

-- a line that a place joins waits as it did
joined_ok : (u : View) (p : ℕ) (x : Line) → LineOk u x → LineOk u (board.joined p x)
joined_ok u p empty ok = tt
joined_ok u p (waiting a ps) ok = tt
joined_ok u p (filled a w) ok = ok

joined_awaits : (a p : ℕ) (x : Line) → awaits a (board.joined p x) ≡ awaits a x
joined_awaits a p empty = refl
joined_awaits a p (waiting b ps) = refl
joined_awaits a p (filled b w) = refl

abbrev tables : List Command → List Place → ℕ → List Line → ℕ → List ℕ → Tables
tables cs ps last ls hand order = record { commands = cs; places = ps; last = last; lines = ls; hand = hand; order = order }

module _ (h : List Event) (m : Moment) (bag : List Plain) (inv : InvAt h m bag) (n : ℕ) (lt : n < m.nodes) where
  abbrev t : Tables
  t = board_at m n

  abbrev v : View
  v = view h m bag

  s : Facts t
  s = inv.facts n

  b : BoardInv v n h t
  b = inv.boards n

  within : (p : ℕ) → p < 32 → p < length t.places
  within p few = omega (arith, s.all_places)

  commands_kept : (v' : View) → Up v v' → AllByRecursion (CommandOk v') t.commands
  commands_kept v' up = All-weaker (CommandOk v) (CommandOk v') (command_up v v' up) t.commands b.commands

  commands_less : (k : ℕ) (c : Command) → slice_get t.commands k ≡ Some c → (v' : View) → Up v v' → CommandOk v' c × AllByRecursion (CommandOk v') (remove t.commands k)
  commands_less k c e v' up = all_removed (CommandOk v') t.commands k c e (commands_kept v' up)

  -- a call that takes no message
  at_board : (d : Deed) (t' : Tables) (added : List Plain) → Facts t' → ((v' : View) → Next v v' n (at n d) [] added → BoardInv v' n (at n d ∷ h) t') → ((v' : View) → Up v v' → AllByRecursion (MessageOk v') added)
      → ((a : ℕ) → sum_by (is_write a) (from_deed n d) + sum_by (is_writing a) t.commands ≡ sum_by (is_writing a) t'.commands + sum_by (is_write_to a) added) → DeedOk h d → OnBoard h m bag n (at n d) t' [] added
  at_board d t' added facts did sends count sound = record {
    facts = facts;
    board = did;
    sends = sends;
    others = mute_others n h d;
    apart = λ k ne a. refl;
    unwritten = λ a. refl;
    count = λ a. omega (arith, count a);
    sound = sound;
    report = λ a k. absurd (let f : ⊥ = omega arith in f);
  }

  -- the lines stay, and nothing that they wait for is taken
  still : (v' : View) (e : Event) (added : List Plain) → Next v v' n e [] added → LinesOk v' n t.lines
  still v' e added next = lines_kept v v' next.up n t.lines b.lines (λ a k l. omega (arith, next.pending a))

  pub did_read : (q : Read) (p : ℕ) → q.address < m.nodes * m.cells → p < 32 → board.place_at t p ≡ free → Facts (board.given t q (Some p)) → OnBoard h m bag n (at n (accepted q p)) (board.given t q (Some p)) [] []
  did_read q p low few was facts = at_board (accepted q p) (board.given t q (Some p)) [] facts
      (λ v' next. record {
        places = places_accepted v v' next.up n h t.places b.places p few (within p few) q was (next.up.low q.address low);
        commands = All-push (CommandOk v') t.commands (reading p) (commands_kept v' next.up) tt;
        lines = still v' (at n (accepted q p)) [] next;
      })
      (λ v' up. tt) (λ a. omega (arith, sum_by_push (is_writing a) t.commands (reading p))) tt

  pub did_write : (a w : ℕ) → a < m.nodes * m.cells → Facts (board.written t a w) → OnBoard h m bag n (at n (wrote a w)) (board.written t a w) [] []
  did_write a w low facts = at_board (wrote a w) (board.written t a w) [] facts
      (λ v' next. record {
        places = places_kept v v' next.up n h (at n (wrote a w)) t.places b.places (mute_wrote n h a w);
        commands = All-push (CommandOk v') t.commands (writing a w) (commands_kept v' next.up) (next.up.low a low, omega (arith, next.given a w, ap (λ x. x * same w w) (same_refl a), same_refl w));
        lines = still v' (at n (wrote a w)) [] next;
      })
      (λ v' up. tt) (λ c. omega (arith, sum_by_push (is_writing c) t.commands (writing a w))) tt

  pub did_draw : (p : ℕ) (q : Read) (w : ℕ) → p < 32 → board.place_at t p ≡ ready q w → (t' : Tables) → Facts t' → t'.commands ≡ t.commands → t'.places ≡ set t.places p (drawn q w) → t'.lines ≡ t.lines → OnBoard h m bag n (at n (drew p q w)) t' [] []
  did_draw p q w few was t' facts same-commands now same_lines = at_board (drew p q w) t' [] facts
      (λ v' next. record {
        places = subst (PlacesOk v' n (at n (drew p q w) ∷ h)) (sym now) (places_drawn v v' next.up n h t.places b.places p few (within p few) q w was);
        commands = subst (AllByRecursion (CommandOk v')) (sym same-commands) (commands_kept v' next.up);
        lines = subst (LinesOk v' n) (sym same_lines) (still v' (at n (drew p q w)) [] next);
      })
      (λ v' up. tt) (λ a. omega (arith, ap (sum_by (is_writing a)) same-commands)) (subst (PlaceOk v (deeds n h) p) was (b.places.each p)).1

  pub did_finish : (p : ℕ) (q : Read) (w : ℕ) → p < 32 → board.place_at t p ≡ drawn q w → Facts (board.freeing t p) → OnBoard h m bag n (at n (finished p)) (board.freeing t p) [] []
  did_finish p q w few was facts = at_board (finished p) (board.freeing t p) [] facts
      (λ v' next. record {
        places = places_finished v v' next.up n h t.places b.places p few (within p few) q w was;
        commands = commands_kept v' next.up;
        lines = still v' (at n (finished p)) [] next;
      })
      (λ v' up. tt) (λ a. omega arith) tt

  pub did_return : (p : ℕ) (q : Read) (w : ℕ) → p < 32 → board.place_at t p ≡ drawn q w → Facts (board.readying t p q w) → OnBoard h m bag n (at n (returned p)) (board.readying t p q w) [] []
  did_return p q w few was facts =
      let ok : PlaceOk v (deeds n h) p (drawn q w) = subst (PlaceOk v (deeds n h) p) was (b.places.each p) in
      at_board (returned p) (board.readying t p q w) [] facts
      (λ v' next. record {
        places = places_moved v v' next.up n h (at n (returned p)) t.places b.places (mute_returned n h p) p (drawn q w) (ready q w) few (within p few) was (λ r. refl) (next.up.low q.address ok.0, next.up.given q.address w ok.1);
        commands = commands_kept v' next.up;
        lines = still v' (at n (returned p)) [] next;
      })
      (λ v' up. tt) (λ a. omega arith) tt

  -- the read that is held at p is carried out
  module _ (k p : ℕ) (is : slice_get t.commands k ≡ Some (reading p)) where
    abbrev q : Read
    q = read_of (board.place_at t p)

    was : (p < 32) × (board.place_at t p ≡ held q)
    was = command_held t k p s is

    low : q.address < v.space
    low = subst (PlaceOk v (deeds n h) p) was.1 (b.places.each p)

    read_done : (c : ℕ) (y : Place) (last : ℕ) (ls : List Line) (hand : ℕ) (order : List ℕ) (added : List Plain) → Facts (tables (remove t.commands k) (set t.places p y) last ls hand order)
        → ((r : Read) → in_place r y ≡ in_place r (held q)) → ((v' : View) → Next v v' n (at n (acted k c)) [] added → PlaceOk v' (deeds n (at n (acted k c) ∷ h)) p y × LinesOk v' n ls)
        → ((v' : View) → Up v v' → AllByRecursion (MessageOk v') added) → ((a : ℕ) → sum_by (is_write_to a) added ≡ 0)
        → OnBoard h m bag n (at n (acted k c)) (tables (remove t.commands k) (set t.places p y) last ls hand order) [] added
    read_done c y last ls hand order added facts same ok sends none = at_board (acted k c) _ added facts
        (λ v' next. record {
          places = places_moved v v' next.up n h (at n (acted k c)) t.places b.places (mute_acted n h k c) p (held q) y was.0 (within p was.0) was.1 same (ok v' next).0;
          commands = (commands_less k (reading p) is v' next.up).1;
          lines = (ok v' next).1;
        })
        sends (λ a. omega (arith, sum_removed (is_writing a) t.commands k (reading p) is, none a)) tt

    pub did_hit : (i w : ℕ) → i < length t.lines → board.line_at t i ≡ filled q.address w → Facts (board.used (board.readying t p q w) k) → OnBoard h m bag n (at n (acted k 1)) (board.used (board.readying t p q w) k) [] []
    did_hit i w il line facts = read_done 1 (ready q w) t.last t.lines t.hand (t.order ++ p ∷ []) [] facts (λ r. refl)
        (λ v' next. ((next.up.low q.address low, (line_ok v v' next.up n t.lines b.lines i (filled q.address w) il line).0), still v' (at n (acted k 1)) [] next))
        (λ v' up. tt) (λ a. refl)

    pub did_join : (i : ℕ) → i < length t.lines → Facts (board.used (board.deferring (board.joining t i p) p q) k) → OnBoard h m bag n (at n (acted k 0)) (board.used (board.deferring (board.joining t i p) p q) k) [] []
    did_join i il facts = read_done 0 (deferred q) t.last (set t.lines i (board.joined p (board.line_at t i))) t.hand t.order [] facts (λ r. refl)
        (λ v' next. (
          next.up.low q.address low,
          lines_set v v' next.up n t.lines b.lines i il (board.joined p (board.line_at t i))
              (joined_ok v' p (board.line_at t i) (line_ok v v' next.up n t.lines b.lines i (board.line_at t i) il refl)) (λ a. omega (arith, joined_awaits a p (board.line_at t i))) (λ a j l. omega (arith, next.pending a)),
        ))
        (λ v' up. tt) (λ a. refl)

    pub did_request : (i : ℕ) → i < length t.lines → Facts (board.used (board.deferring (board.claiming t i (waiting q.address (p ∷ []))) p q) k)
        → OnBoard h m bag n (at n (acted k 0)) (board.used (board.deferring (board.claiming t i (waiting q.address (p ∷ []))) p q) k) [] (message.reading (home_of m q.address) q.address n ∷ [])
    did_request i il facts = read_done 0 (deferred q) t.last (set t.lines i (waiting q.address (p ∷ []))) (board.claiming t i empty).hand t.order _ facts (λ r. refl)
        (λ v' next. (next.up.low q.address low, lines_asking v v' next.up n t.lines b.lines i il q.address (p ∷ []) (λ a. omega (arith, next.pending a))))
        (λ v' up. ((up.low q.address low, (home_is q.address m.nodes m.cells inv.few low ∙ up.home q.address, up.near n lt)), tt)) (λ a. refl)

  -- the word w for the address a comes to line i, which waits for it
  module _ (i a w : ℕ) (il : i < length t.lines) (line : board.line_at t i ≡ waiting a (waits (board.line_at t i))) where
    abbrev ws : List ℕ
    ws = waits (board.line_at t i)

    woke : (p : ℕ) → Woke a w (get_or t.places p free) (get_or (woken w t.places ws) p free)
    woke p = elim (cases_eq (times p ws) 0) [
      | inl z ↦ subst (Woke a w (get_or t.places p free)) (sym (woken_other w t.places ws p z)) (kept (get_or t.places p free))
      | inr z ↦
          (let some : 1 ≤ times p ws = omega arith in
          let d = listed_deferred t i p s some in
          let r = read_of (get_or t.places p free) in
          let its : r.address ≡ a = sym (s.at_its_line i p some) ∙ ap line_address line in
          subst (Woke a w (get_or t.places p free)) (sym (woken_here w t.places ws p (within p d.0) some)) (subst (λ x. Woke a w x (ready r w)) (sym d.1) (boards.woken r its)))
    ]

    -- afterwards no line waits for it
    unawaited : sum_by (awaits a) (set t.lines i (filled a w)) ≡ 0
    unawaited = omega (arith, sum_by-set (awaits a) t.lines i (filled a w) empty il, ap (awaits a) line, same_refl a, lines_are a t.lines, s.one_line a)

    filled_lines : (v' : View) → Up v v' → 1 ≤ v'.given a w → 1 ≤ v'.written a → ((x : ℕ) → (x ≡ a → ⊥) → 1 ≤ v.pending n x → 1 ≤ v'.pending n x) → LinesOk v' n (set t.lines i (filled a w))
    filled_lines v' up g wr more = lines_set v v' up n t.lines b.lines i il (filled a w) (g, wr) (λ x. omega arith)
        (λ x k l. more x (λ e. omega (arith, ap (λ y. sum_by (awaits y) (set t.lines i (filled a w))) e, unawaited)) l)

    pub did_receive : (x : Plain) (j c : ℕ) → x.to ≡ n → x.address ≡ a → x.word ≡ w → MessageOk v (of kind.Reply x) → Facts (board.filling t i a w) → OnBoard h m bag n (delivered j c) (board.filling t i a w) (of kind.Reply x ∷ []) []
    did_receive x j c to address word ok facts =
        let g : 1 ≤ v.given a w = subst (λ y. 1 ≤ v.given y w) address (subst (λ y. 1 ≤ v.given x.address y) word ok.1.1) in
        let wr : 1 ≤ v.written a = subst (λ y. 1 ≤ v.written y) address ok.1.2 in
        record {
          facts = facts;
          board = λ v' next. record {
            places = places_woken v v' next.up n h (delivered j c) t.places b.places (mute_delivered h j c n) a w (woken w t.places ws) (next.up.given a w g) woke;
            commands = commands_kept v' next.up;
            lines = filled_lines v' next.up (next.up.given a w g) (next.up.written a wr) (λ y ne k. omega (arith, next.pending y, ap (λ z. same n x.to * same y z) address, ap (λ z. same n x.to * z) (same_apart y a ne)));
          };
          sends = λ v' up. tt;
          others = λ k ne. mute_delivered h j c k;
          apart = λ k ne y. omega (arith, ap (λ z. same k z * same y x.address) to, ap (λ z. z * same y x.address) (same_apart k n ne));
          unwritten = λ y. refl;
          count = λ y. omega arith;
          sound = tt;
          report = λ y k. absurd (let f : ⊥ = omega arith in f);
        }

  -- a REPLY for which no line waits
  pub did_ignore : (x : Plain) (j c : ℕ) → x.to ≡ n → sum_by (awaits x.address) t.lines ≡ 0 → OnBoard h m bag n (delivered j c) t (of kind.Reply x ∷ []) []
  did_ignore x j c to none = record {
    facts = s;
    board = λ v' next. record {
      places = places_kept v v' next.up n h (delivered j c) t.places b.places (mute_delivered h j c n);
      commands = commands_kept v' next.up;
      lines = lines_kept v v' next.up n t.lines b.lines (λ y k l. elim (same_or y x.address) [
        | inl e ↦ omega (arith, ap (λ z. sum_by (awaits z) t.lines) e.0)
        | inr e ↦ omega (arith, next.pending y, ap (λ z. same n x.to * z) e.1)
      ]);
    };
    sends = λ v' up. tt;
    others = λ k ne. mute_delivered h j c k;
    apart = λ k ne y. omega (arith, ap (λ z. same k z * same y x.address) to, ap (λ z. z * same y x.address) (same_apart k n ne));
    unwritten = λ y. refl;
    count = λ y. omega arith;
    sound = tt;
    report = λ y k. absurd (let f : ⊥ = omega arith in f);
  }

  -- no line waits for the address of a filled one, nor for one that has no line
  pub filled_unawaited : (i a w : ℕ) → i < length t.lines → board.line_at t i ≡ filled a w → sum_by (awaits a) t.lines ≡ 0
  filled_unawaited i a w il line = omega (arith, lines_are a t.lines, s.one_line a, get_or-le-sum_by (fills a) t.lines i empty il, ap (fills a) line, same_refl a)

  pub absent_unawaited : (a : ℕ) → lines_for a t.lines ≡ 0 → sum_by (awaits a) t.lines ≡ 0
  absent_unawaited a none = omega (arith, lines_are a t.lines)

  -- the write of w to a is carried out
  module _ (k a w : ℕ) (is : slice_get t.commands k ≡ Some (writing a w)) where
    abbrev message_out : Plain
    message_out = message.writing (home_of m a) a n w

    write_done : (c : ℕ) (ps : List Place) (last : ℕ) (ls : List Line) (hand : ℕ) (order : List ℕ) → Facts (tables (remove t.commands k) ps last ls hand order)
        → ((v' : View) → Next v v' n (at n (acted k c)) [] (message_out ∷ []) → 1 ≤ v'.given a w → 1 ≤ v'.written a → PlacesOk v' n (at n (acted k c) ∷ h) ps × LinesOk v' n ls)
        → OnBoard h m bag n (at n (acted k c)) (tables (remove t.commands k) ps last ls hand order) [] (message_out ∷ [])
    write_done c ps last ls hand order facts ok = at_board (acted k c) _ (message_out ∷ []) facts
        (λ v' next.
        let less = commands_less k (writing a w) is v' next.up in
        let both = ok v' next less.0.1 (omega (arith, next.written a, same_refl a)) in
        record { places = both.0; commands = less.1; lines = both.1 })
        (λ v' up.
        let c = (commands_less k (writing a w) is v (up_self v)).0 in
        ((up.low a c.0, (home_is a m.nodes m.cells inv.few c.0 ∙ up.home a, up.given a w c.1)), tt))
        (λ x. omega (arith, sum_removed (is_writing x) t.commands k (writing a w) is)) tt

    quiet_places : (c : ℕ) (v' : View) → Up v v' → PlacesOk v' n (at n (acted k c) ∷ h) t.places
    quiet_places c v' up = places_kept v v' up n h (at n (acted k c)) t.places b.places (mute_acted n h k c)

    pub did_pass : Facts (board.used t k) → OnBoard h m bag n (at n (acted k 0)) (board.used t k) [] (message_out ∷ [])
    did_pass facts = write_done 0 t.places t.last t.lines t.hand t.order facts (λ v' next g wr. (quiet_places 0 v' next.up, still v' (at n (acted k 0)) (message_out ∷ []) next))

    pub did_claim : (i : ℕ) → i < length t.lines → Facts (board.used (board.claiming t i (filled a w)) k) → OnBoard h m bag n (at n (acted k 0)) (board.used (board.claiming t i (filled a w)) k) [] (message_out ∷ [])
    did_claim i il facts = write_done 0 t.places t.last (set t.lines i (filled a w)) (board.claiming t i empty).hand t.order facts
        (λ v' next g wr. (quiet_places 0 v' next.up, lines_set v v' next.up n t.lines b.lines i il (filled a w) (g, wr) (λ x. omega arith) (λ x j l. omega (arith, next.pending x))))

    pub did_fill : (i : ℕ) → i < length t.lines → board.line_at t i ≡ waiting a (waits (board.line_at t i)) → Facts (board.used (board.filling t i a w) k)
        → OnBoard h m bag n (at n (acted k (length (waits (board.line_at t i))))) (board.used (board.filling t i a w) k) [] (message_out ∷ [])
    did_fill i il line facts =
        let c = length (waits (board.line_at t i)) in
        write_done c (woken w t.places (waits (board.line_at t i))) t.last (set t.lines i (filled a w)) t.hand (t.order ++ waits (board.line_at t i)) facts
        (λ v' next g wr. (
          places_woken v v' next.up n h (at n (acted k c)) t.places b.places (mute_acted n h k c) a w (woken w t.places (waits (board.line_at t i))) g (woke i a w il line),
          filled_lines i a w il line v' next.up g wr (λ x ne l. omega (arith, next.pending x)),
        ))

    -- a write to an address that a line is filled with is used up, and reported
    pub did_report : (i u : ℕ) → i < length t.lines → board.line_at t i ≡ filled a u → Facts (board.used t k) → OnBoard h m bag n (refused (act n k) (refusal 29 layer.lines (Some n) (Some a))) (board.used t k) [] []
    did_report i u il line facts =
        let e = refused (act n k) (refusal 29 layer.lines (Some n) (Some a)) in
        let told : (x : ℕ) → (same 29 29 + same 29 30) * same x a ≡ same x a = λ x. omega (arith, ap (λ y. y * same x a) (one_of_two 29 (inl refl))) in
        record {
          facts = facts;
          board = λ v' next. record {
            places = places_kept v v' next.up n h e t.places b.places (mute_refused h (act n k) (refusal 29 layer.lines (Some n) (Some a)) n);
            commands = (commands_less k (writing a w) is v' next.up).1;
            lines = still v' e [] next;
          };
          sends = λ v' up. tt;
          others = λ j ne. mute_refused h (act n k) (refusal 29 layer.lines (Some n) (Some a)) j;
          apart = λ j ne x. refl;
          unwritten = λ x. refl;
          count = λ x. omega (arith, sum_removed (is_writing x) t.commands k (writing a w) is, told x);
          sound = tt;
          report = λ x j. subst (λ y. 1 ≤ v.written y) (sym (same_one x a (omega (arith, told x)))) (line_ok v v (up_self v) n t.lines b.lines i (filled a u) il line).1;
        }
