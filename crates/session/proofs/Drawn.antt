-- Which places are drawn after each call.
use Rattle.std.proofs.Common.{◌≡◌, ℕ, ◌+◌, ◌*◌, ◌<◌, Bool, true, false, cond, ◌||◌, eqb, ltb, List, [], ◌∷◌, length, get_or, Some, None, Ok, Err, Option, Result, sym, refl, ap, ◌∙◌, inl, inr, arith}
use Rattle.std.proofs.lemmas.List.{get_or-set_same, get_or_past}
use Rattle.std.proofs.lemmas.Bool.{cases_eq, cases_lt, cases_Bool, cond-false, cond_both, ltb-true, ne_eqb, false≢true}
use Rattle.network.specs.declared.message.Kind.{Kind}
use Rattle.network.specs.declared.message.Kind.TheVariants as kind
use Rattle.network.specs.Messages.{Plain}
use Rattle.lines.specs.Model.{Tables, Read}
use Rattle.lines.specs.Model as board
use Rattle.lines.specs.Facts.{Facts}
use Rattle.protocol.specs.Moments.{Moment, is_started, board_at, place_at, with_board, with_end, Call, start, read, write, act, deliver, draw, finish, put_back, create, Refusal}
use Rattle.protocol.specs.Moments.{Deed, nothing, accepted, wrote, acted, drew, finished, returned, Event, at, started, delivered, created, refused}
use Rattle.protocol.specs.Moments as layer
use Rattle.protocol.specs.Steps.{Outcome, takes, refusal, refuse, outside, at_node, at_address, once_started, fresh, starts, reads, writes, acts, at_home, brings, delivers, draws, finishes, puts_back, creates, does}
use Rattle.system.proofs.Steps.{at_work}
use Rattle.session.proofs.Lists.{set_alike, set_marks, of_replicate, at_place, cond-eq}
use Rattle.session.proofs.Boards.{drawn_in, Alike, Marked, start_undrawn, given_alike, replied_alike, acted_alike, drawing_marks, finished_marks, returned_marks}

abbrev pub drawn_on : Moment → ℕ → ℕ → Bool
drawn_on m n p = board.is_drawn (place_at m n p)

-- only nodes at work have drawn places
abbrev pub AtWork : Moment → Type 0
AtWork m = (n p : ℕ) → drawn_on m n p ≡ true → n < m.nodes

-- what a call with its answer makes of the mark of a place
abbrev pub marks_deed : ℕ → Deed → ℕ → ℕ → Bool → Bool
marks_deed k nothing n p b = b
marks_deed k (accepted q i) n p b = b
marks_deed k (wrote a v) n p b = b
marks_deed k (acted i c) n p b = b
marks_deed k (drew i q v) n p b = at_place k i n p true b
marks_deed k (finished i) n p b = at_place k i n p false b
marks_deed k (returned i) n p b = at_place k i n p false b

abbrev pub marks : Event → ℕ → ℕ → Bool → Bool
marks (at k d) n p b = marks_deed k d n p b
marks (started x y z) n p b = b
marks (delivered k c) n p b = b
marks (created x y z) n p b = b
marks (refused c why) n p b = b

-- a call that draws, finishes and puts back nothing marks nothing
abbrev pub Keeping : Call → Type 0
Keeping (start n l c) = Unit {0}
Keeping (read n q) = Unit {0}
Keeping (write n a v) = Unit {0}
Keeping (act n k) = Unit {0}
Keeping (deliver k) = Unit {0}
Keeping (draw n) = ⊥
Keeping (finish n p) = ⊥
Keeping (put_back n p) = ⊥
Keeping (create k size) = Unit {0}

pub silent : (m : Moment) (c : Call) (got : Option Plain) → Keeping c → (n p : ℕ) (b : Bool) → marks (does m c got).event n p b ≡ b
silent m (start _ _ _) got k n p b = grind arith
silent m (read _ _) got k n p b = grind arith
silent m (write _ _ _) got k n p b = grind arith
silent m (act _ _) got k n p b = grind arith
silent m (deliver _) got k n p b = grind arith
silent m (draw _) got k n p b = absurd k
silent m (finish _ _) got k n p b = absurd k
silent m (put_back _ _) got k n p b = absurd k
silent m (create _ _) got k n p b = grind arith

pub record Shows (m : Moment) (o : Outcome) : Type 0 where
  pub drawn : (n p : ℕ) → drawn_on o.after n p ≡ marks o.event n p (drawn_on m n p)
  pub within : AtWork o.after

-- what a board has and a new one has not, is there only for one of the boards
within_boards : (f : Tables → Bool) → f (board.start 1) ≡ false → (ts : List Tables) (n : ℕ) → f (get_or ts n (board.start 1)) ≡ true → n < length ts
within_boards f z ts n e = elim (cases_lt n (length ts)) [
  | inl lt ↦ lt
  | inr ge ↦ absurd (false≢true (sym (ap f (get_or_past ts n (board.start 1) ge) ∙ z) ∙ e))
]

abbrev some_order : List ℕ → Bool
some_order [] = false
some_order (p ∷ ps) = true

-- a mark that is left was there
left_true : (x y old : Bool) → cond x (cond y false old) old ≡ true → old ≡ true
left_true true true old e = absurd (false≢true e)
left_true true false old e = e
left_true false y old e = e

module _ (m : Moment) (facts : (n : ℕ) → Facts (board_at m n)) (w : AtWork m) where
  still : (o : Outcome) → ((n p : ℕ) → drawn_on o.after n p ≡ drawn_on m n p) → o.after.nodes ≡ m.nodes → ((n p : ℕ) (b : Bool) → marks o.event n p b ≡ b) → Shows m o
  still o d k e = record { drawn = λ n p. d n p ∙ sym (e n p (drawn_on m n p)); within = λ n p t. omega (arith, k, w n p (sym (d n p) ∙ t)) }

  refuses : (c : Call) (why : Refusal) → Shows m (refuse m c why)
  refuses c why = still (refuse m c why) (λ n p. refl) refl (λ n p b. refl)

  if_so : (b : Bool) (x y : Outcome) → (b ≡ true → Shows m x) → (b ≡ false → Shows m y) → Shows m (cond b x y)
  if_so b x y = cond_both b x y (Shows m)

  unless : (b : Bool) (c : Call) (why : Refusal) (o : Outcome) → Shows m o → Shows m (cond b (refuse m c why) o)
  unless b c why o h = if_so b (refuse m c why) o (λ _. refuses c why) (λ _. h)

  -- the board n is as it was, but for what is not drawn
  board_still : (n : ℕ) (t : Tables) → Alike (board_at m n) t → (j p : ℕ) → drawn_on (with_board m n t) j p ≡ drawn_on m j p
  board_still n t alike j p = set_alike (λ u. drawn_in u p) (board.start 1) m.boards n t j (alike p)

  board_marks : (n q : ℕ) (b : Bool) (t : Tables) → n < length m.boards → Marked (board_at m n) q b t → (j p : ℕ) → drawn_on (with_board m n t) j p ≡ at_place n q j p b (drawn_on m j p)
  board_marks n q b t lt marked j p =
      set_marks (λ u. drawn_in u p) (board.start 1) m.boards n t j (cond (eqb q p) b (drawn_on m n p)) (ap (λ u. drawn_in u p) (get_or-set_same m.boards n t (board.start 1) lt) ∙ marked p)
      ∙ cond-eq n j (λ k. cond (eqb q p) b (drawn_on m k p)) (drawn_on m j p)

  cleared : (n q : ℕ) (o : Outcome) (t : Tables) → drawn_on m n q ≡ true → Marked (board_at m n) q false t → o.after ≡ with_board m n t → ((j p : ℕ) (b : Bool) → marks o.event j p b ≡ at_place n q j p false b) → Shows m o
  cleared n q o t e marked after event =
      let now : (j p : ℕ) → drawn_on o.after j p ≡ at_place n q j p false (drawn_on m j p)
      = λ j p. ap (λ x. drawn_on x j p) after ∙ board_marks n q false t (within_boards (λ u. drawn_in u q) (start_undrawn 1 q) m.boards n e) marked j p in
      record {
        drawn = λ j p. now j p ∙ sym (event j p (drawn_on m j p));
        within = λ j p y. omega (arith, ap (λ x. x.nodes) after, w j p (left_true (eqb n j) (eqb q p) (drawn_on m j p) (sym (now j p) ∙ y)));
      }

  none_before : m.nodes ≡ 0 → (n p : ℕ) → drawn_on m n p ≡ false
  none_before z n p = elim (cases_Bool (drawn_on m n p)) [ inl y ↦ absurd (let f : ⊥ = omega (arith, w n p y, z) in f) | inr e ↦ e ]

  fresh_shows : (n l c : ℕ) → is_started m ≡ false → Shows m (takes (started n l c) (fresh m n l c))
  fresh_shows n l c no_one =
      let none : m.nodes ≡ 0 = elim (cases_eq m.nodes 0) [ inl z ↦ z | inr ne ↦ absurd (false≢true (sym no_one ∙ at_work m (omega (arith, ne)))) ] in
      let all : (j p : ℕ) → drawn_on (fresh m n l c) j p ≡ false
      = λ j p. of_replicate (λ t. drawn_in t p ≡ false) 16 (board.start l) (board.start 1) j (start_undrawn l p) (start_undrawn 1 p) in
      record { drawn = λ j p. all j p ∙ sym (none_before none j p); within = λ j p y. absurd (false≢true (sym (all j p) ∙ y)) }

  starts_shows : (n l c : ℕ) → Shows m (starts m n l c)
  starts_shows n l c =
      if_so (is_started m) _ _ (λ _. refuses (start n l c) _)
      (λ z. unless (outside 16 n || (outside 16 l || outside 64 c)) (start n l c) (refusal 1 layer.system None None) _
      (unless (ltb 0 (length m.bag) || ltb m.limit 2) (start n l c) (refusal 22 layer.system None None) _ (fresh_shows n l c z)))

  once : (c : Call) (o : Outcome) → Shows m o → Shows m (once_started m c o)
  once c o h = if_so (is_started m) _ _ (λ _. h) (λ _. refuses c _)

  at_one : (c : Call) (n : ℕ) (o : Outcome) → (n < m.nodes → Shows m o) → Shows m (at_node m c n o)
  at_one c n o h = once c _ (if_so (ltb n m.nodes) _ _ (λ lt. h (ltb-true n m.nodes lt)) (λ _. refuses c _))

  at_cell : (c : Call) (n a : ℕ) (o : Outcome) → Shows m o → Shows m (at_address m c n a o)
  at_cell c n a o h = at_one c n _ (λ _. if_so (ltb a (m.nodes * m.cells)) _ _ (λ _. h) (λ _. refuses c _))

  reads_shows : (n : ℕ) (q : Read) (o : Option ℕ) → board.free_place (board_at m n) ≡ o → Shows m (reads m n q o)
  reads_shows n q None e = refuses (read n q) _
  reads_shows n q (Some p) e = still (reads m n q (Some p)) (board_still n _ (given_alike (board_at m n) q p (facts n) e)) refl (λ j i b. refl)

  acts_shows : (n k : ℕ) (r : Result board.Acted board.Refusal) (t : Tables) → Alike (board_at m n) t → Shows m (acts m n k r t)
  acts_shows n k (Ok done) t alike = still (acts m n k (Ok done) t) (board_still n t alike) refl (λ j p b. refl)
  acts_shows n k (Err e) t alike = still (acts m n k (Err e) t) (board_still n t alike) refl (λ j p b. refl)

  home_shows : (k a : ℕ) (c : _) (r : Result (List Plain) _) → Shows m (at_home m k a c r)
  home_shows k a c (Ok replies) = still (at_home m k a c (Ok replies)) (λ n p. refl) refl (λ n p b. refl)
  home_shows k a c (Err e) = still (at_home m k a c (Err e)) (λ n p. refl) refl (λ n p b. refl)

  brings_shows : (k : ℕ) (t : Kind) (x : Plain) → Shows m (brings m k t x)
  brings_shows k kind.Read x = home_shows k _ _ _
  brings_shows k kind.Write x = home_shows k _ _ _
  brings_shows k kind.Reply x = still (brings m k kind.Reply x) (board_still x.to _ (replied_alike (board_at m x.to) x.address x.word (facts x.to))) refl (λ n p b. refl)

  delivers_shows : (k : ℕ) (got : Option Plain) → Shows m (delivers m k got)
  delivers_shows k None = refuses (deliver k) _
  delivers_shows k (Some x) = brings_shows k x.kind x

  draws_shows : (n : ℕ) (ps : List ℕ) → (board_at m n).order ≡ ps → n < m.nodes → Shows m (draws m n (board.first_ready (board_at m n) ps))
  draws_shows n [] e lt = refuses (draw n) _
  draws_shows n (q ∷ ps) e lt =
      let t = board_at m n in
      let now : (j p : ℕ) → drawn_on (with_board m n (board.drawing t t.order)) j p ≡ at_place n q j p true (drawn_on m j p)
      = board_marks n q true (board.drawing t t.order) (within_boards (λ u. some_order u.order) refl m.boards n (ap some_order e)) (drawing_marks t q ps (facts n) e) in
      record {
        drawn = now;
        within = λ j p y. elim (cases_eq n j) [
          | inl s ↦ omega (arith, lt, s)
          | inr ne ↦ w j p (sym (now j p ∙ cond-false (eqb n j) _ (drawn_on m j p) (ne_eqb n j ne)) ∙ y)
        ];
      }

  finishes_shows : (n q : ℕ) → Shows m (finishes m n q)
  finishes_shows n q =
      if_so (drawn_on m n q) _ _ (λ e. cleared n q (takes (at n (finished q)) (with_board m n (board.finished (board_at m n) q))) _ e (finished_marks (board_at m n) q e) refl (λ j p b. refl)) (λ _. refuses (finish n q) _)

  puts_back_shows : (n q : ℕ) → Shows m (puts_back m n q)
  puts_back_shows n q =
      if_so (drawn_on m n q) _ _ (λ e. cleared n q (takes (at n (returned q)) (with_board m n (board.returned (board_at m n) q))) _ e (returned_marks (board_at m n) q e) refl (λ j p b. refl)) (λ _. refuses (put_back n q) _)

  creates_shows : (k size : ℕ) → Shows m (creates m k size)
  creates_shows k size =
      unless (outside 255 k || eqb size 0) (create k size) (refusal 1 layer.array None None) _
      (unless (ltb (m.nodes * m.cells) (m.end + size)) (create k size) (refusal 31 layer.array None None) _
      (still (takes (created k size m.end) (with_end m (m.end + size))) (λ n p. refl) refl (λ n p b. refl)))

  writes_shows : (n a v : ℕ) → Shows m (writes m n a v)
  writes_shows n a v = if_so _ _ _ (λ _. still (takes (at n (wrote a v)) _) (board_still n (board.written (board_at m n) a v) (λ p. refl)) refl (λ j p b. refl)) (λ _. refuses (write n a v) _)

  pub does_shows : (c : Call) (got : Option Plain) → Shows m (does m c got)
  does_shows (start n l c) got = starts_shows n l c
  does_shows (read n q) got = at_cell (read n q) n q.address _ (reads_shows n q (board.free_place (board_at m n)) refl)
  does_shows (write n a v) got = at_cell (write n a v) n a _ (writes_shows n a v)
  does_shows (act n k) got = at_one (act n k) n _ (λ _. acts_shows n k _ _ (acted_alike n (board_at m n) k _ _ (facts n)))
  does_shows (deliver k) got = once (deliver k) _ (delivers_shows k got)
  does_shows (draw n) got = at_one (draw n) n _ (draws_shows n (board_at m n).order refl)
  does_shows (finish n p) got = at_one (finish n p) n _ (λ _. finishes_shows n p)
  does_shows (put_back n p) got = at_one (put_back n p) n _ (λ _. puts_back_shows n p)
  does_shows (create k size) got = once (create k size) _ (creates_shows k size)
