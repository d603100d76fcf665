-- What each call does, exactly: its answer, the memory afterwards, and what it sends.
use Rattle.std.specs.Prelude.{◌≡◌, ℕ, ◌+◌, ◌*◌, Bool, cond, ◌||◌, List, [], ◌∷◌, length, replicate, Some, None, Ok, Err, MatchBool, Option, Result, ◌==◌, nat_lt}
use Rattle.network.specs.declared.message.Kind.{Kind}
use Rattle.network.specs.declared.message.Kind.TheVariants as kind
use Rattle.network.specs.Messages.{Plain, reading, writing}
use Rattle.network.specs.Bags.{Gives, Offered}
use Rattle.home.specs.declared.cell.Cell.{Cell}
use Rattle.home.specs.declared.cell.Cell.TheVariants.{Undefined}
use Rattle.home.specs.Cells as home
use Rattle.lines.specs.Model.{Tables, Read}
use Rattle.lines.specs.Model as board
use Rattle.protocol.specs.Moments.{Moment, unused, is_started, board_at, place_at, cell_at, home_of, load, with_board, with_cell, with_end, with_bag}
use Rattle.protocol.specs.Moments.{Call, start, read, write, act, deliver, draw, finish, put_back, create}
use Rattle.protocol.specs.Moments.{Layer, Refusal, Event, at, started, delivered, created, refused, accepted, wrote, acted, drew, finished, returned}
use Rattle.protocol.specs.Moments as layer

-- what a call answers, what stands afterwards but for the network, and the messages that it offers to the network, in order
pub record Outcome : Type 0 where
  pub event : Event
  pub after : Moment
  pub sent : List Plain

abbrev pub takes : Event → Moment → Outcome
takes e m = record { event = e; after = m; sent = [] }

abbrev pub refusal : ℕ → Layer → Option ℕ → Option ℕ → Refusal
refusal number by node address = record { number = number; layer = by; node = node; address = address }

-- a refused call leaves the memory as it was
abbrev pub refuse : Moment → Call → Refusal → Outcome
refuse m c why = takes (refused c why) m

-- the grounds that several calls share: 20 not started, 2 no such node, 3 no such address
abbrev pub once_started : Moment → Call → Outcome → Outcome
once_started m c o = cond (is_started m) o (refuse m c (refusal 20 layer.system None None))

abbrev pub at_node : Moment → Call → ℕ → Outcome → Outcome
at_node m c n o = once_started m c (cond (nat_lt n m.nodes) o (refuse m c (refusal 2 layer.system (Some n) None)))

abbrev pub at_address : Moment → Call → ℕ → ℕ → Outcome → Outcome
at_address m c n a o = at_node m c n (cond (nat_lt a (m.nodes * m.cells)) o (refuse m c (refusal 3 layer.system (Some n) (Some a))))

-- start: 1 to 16 nodes, 1 to 16 lines, 1 to 64 cells, over an empty network with a limit of 2 or more
abbrev pub outside : ℕ → ℕ → Bool
outside most n = n == 0 || nat_lt most n

abbrev pub fresh : Moment → ℕ → ℕ → ℕ → Moment
fresh m n l c =
    record {
      nodes = n;
      cells = c;
      boards = replicate 16 (board.start l);
      memory = replicate 1024 Undefined;
      end = 0;
      limit = m.limit;
      bag = m.bag;
    }

abbrev pub starts : Moment → ℕ → ℕ → ℕ → Outcome
starts m n l c =
    cond (is_started m) (refuse m (start n l c) (refusal 21 layer.system None None))
    (cond (outside 16 n || (outside 16 l || outside 64 c)) (refuse m (start n l c) (refusal 1 layer.system None None))
    (cond (nat_lt 0 (length m.bag) || nat_lt m.limit 2) (refuse m (start n l c) (refusal 22 layer.system None None))
    (takes (started n l c) (fresh m n l c))))

-- read: 23 all 32 places taken
abbrev pub reads : Moment → ℕ → Read → Option ℕ → Outcome
reads m n q None = refuse m (read n q) (refusal 23 layer.system (Some n) None)
reads m n q (Some p) = takes (at n (accepted q p)) (with_board m n (board.given (board_at m n) q (Some p)))

-- write: 24 32 writes held
abbrev pub writes : Moment → ℕ → ℕ → ℕ → Outcome
writes m n a v =
    cond (board.may_write (board_at m n))
    (takes (at n (wrote a v)) (with_board m n (board.written (board_at m n) a v)))
    (refuse m (write n a v) (refusal 24 layer.system (Some n) None))

-- act: 4 no such command, 25 every line waits, 26 network full, 29 written twice
abbrev pub why_not : ℕ → board.Refusal → Refusal
why_not n board.no_such_command = refusal 4 layer.system (Some n) None
why_not n (board.network_full a) = refusal 26 layer.system (Some n) (Some a)
why_not n (board.every_line_waits k a) = refusal 25 layer.lines (Some k) (Some a)
why_not n (board.written_twice k a) = refusal 29 layer.lines (Some k) (Some a)

-- the message that goes out from node n to the home of its address
abbrev pub goes_out : Moment → ℕ → Option board.Outgoing → List Plain
goes_out m n None = []
goes_out m n (Some (board.asks a)) = reading (home_of m a) a n ∷ []
goes_out m n (Some (board.gives a v)) = writing (home_of m a) a n v ∷ []

-- (a board that refuses is as it was, but for a write found twice, which is used up)
abbrev pub acts : Moment → ℕ → ℕ → Result board.Acted board.Refusal → Tables → Outcome
acts m n k (Ok done) t = record { event = at n (acted k done.readied); after = with_board m n t; sent = goes_out m n done.sends }
acts m n k (Err e) t = takes (refused (act n k) (why_not n e)) (with_board m n t)

-- deliver: 27 nothing in transit, 30 written twice; the home of the address takes a READ or a WRITE, a board takes a REPLY
abbrev pub at_home : Moment → ℕ → ℕ → Cell → Result (List Plain) home.Twice → Outcome
at_home m k a c (Ok replies) = record { event = delivered k 0; after = with_cell m a c; sent = replies }
at_home m k a c (Err e) = takes (refused (deliver k) (refusal 30 layer.home (Some e.writer) (Some e.address))) (with_cell m a c)

abbrev pub brings : Moment → ℕ → Kind → Plain → Outcome
brings m k kind.Read x = at_home m k x.address (home.after (cell_at m x.address) x) (home.answer (cell_at m x.address) x)
brings m k kind.Write x = at_home m k x.address (home.after (cell_at m x.address) x) (home.answer (cell_at m x.address) x)
brings m k kind.Reply x =
    takes (delivered k (board.replied (board_at m x.to) x.address x.word).answer)
    (with_board m x.to (board.replied (board_at m x.to) x.address x.word).after)

abbrev pub delivers : Moment → ℕ → Option Plain → Outcome
delivers m k None = refuse m (deliver k) (refusal 27 layer.system None None)
delivers m k (Some x) = brings m k x.kind x

-- draw: 28 nothing ready
abbrev pub draws : Moment → ℕ → Option board.Answer → Outcome
draws m n None = refuse m (draw n) (refusal 28 layer.system (Some n) None)
draws m n (Some x) =
    takes (at n (drew x.place x.read x.word)) (with_board m n (board.drawing (board_at m n) (board_at m n).order))

-- finish and put back: 5 place not drawn at that node
abbrev pub finishes : Moment → ℕ → ℕ → Outcome
finishes m n p =
    cond (board.is_drawn (place_at m n p))
    (takes (at n (finished p)) (with_board m n (board.finished (board_at m n) p)))
    (refuse m (finish n p) (refusal 5 layer.system (Some n) None))

abbrev pub puts_back : Moment → ℕ → ℕ → Outcome
puts_back m n p =
    cond (board.is_drawn (place_at m n p))
    (takes (at n (returned p)) (with_board m n (board.returned (board_at m n) p)))
    (refuse m (put_back n p) (refusal 5 layer.system (Some n) None))

-- create: 1 kind outside 1 to 255 or length 0, 31 no room behind the arrays before
abbrev pub creates : Moment → ℕ → ℕ → Outcome
creates m kind size =
    cond (outside 255 kind || size == 0) (refuse m (create kind size) (refusal 1 layer.array None None))
    (cond (nat_lt (m.nodes * m.cells) (m.end + size)) (refuse m (create kind size) (refusal 31 layer.array None None))
    (takes (created kind size m.end) (with_end m (m.end + size))))

-- every call, with the message that the network gave, if any
abbrev pub does : Moment → Call → Option Plain → Outcome
does m (start n l c) got = starts m n l c
does m (read n q) got = at_address m (read n q) n q.address (reads m n q (board.free_place (board_at m n)))
does m (write n a v) got = at_address m (write n a v) n a (writes m n a v)
does m (act n k) got =
    at_node m (act n k) n
    (acts m n k (board.acted n (board_at m n) k (load m) m.limit).answer (board.acted n (board_at m n) k (load m) m.limit).after)
does m (deliver k) got = once_started m (deliver k) (delivers m k got)
does m (draw n) got = at_node m (draw n) n (draws m n (board.first_ready (board_at m n) (board_at m n).order))
does m (finish n p) got = at_node m (finish n p) n (finishes m n p)
does m (put_back n p) got = at_node m (put_back n p) n (puts_back m n p)
does m (create kind size) got = once_started m (create kind size) (creates m kind size)

abbrev pub Untouched : {X : Type 0} → List X → Option X → List X → Type 0
Untouched bag got rest = (got ≡ None) × (rest ≡ bag)

-- only a delivery asks the network
abbrev pub Asks : Moment → Call → Option Plain → List Plain → Type 0
Asks m (start n l c) got rest = Untouched m.bag got rest
Asks m (read n q) got rest = Untouched m.bag got rest
Asks m (write n a v) got rest = Untouched m.bag got rest
Asks m (act n k) got rest = Untouched m.bag got rest
Asks m (deliver k) got rest = MatchBool (is_started m) (Gives m.bag got rest) (Untouched m.bag got rest)
Asks m (draw n) got rest = Untouched m.bag got rest
Asks m (finish n p) got rest = Untouched m.bag got rest
Asks m (put_back n p) got rest = Untouched m.bag got rest
Asks m (create kind size) got rest = Untouched m.bag got rest

-- one call, whatever the network chooses to hand out: each message offered joins the bag if there is room
pub record Step (m : Moment) (c : Call) (e : Event) (m' : Moment) : Type 0 where
  pub got : Option Plain
  pub rest : List Plain
  pub asks : Asks m c got rest
  pub says : e ≡ (does m c got).event
  pub offers : Offered m.limit rest (does m c got).sent m'.bag
  pub leaves : m' ≡ with_bag (does m c got).after m'.bag

-- the histories, newest call first, that calls can make from an unused memory, and where they lead
pub data Reached : List Event → Moment → Type 0 where
  new : (limit : ℕ) (bag : List Plain) → Reached [] (unused limit bag)
  then : {h : List Event} {m : Moment} {e : Event} {m' : Moment} (c : Call) → Reached h m → Step m c e m' → Reached (e ∷ h) m'
