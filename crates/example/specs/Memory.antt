-- The law is not empty: each thing that it counts, and each thing that it supposes, is there in the run of the portal's example.
use Rattle.std.specs.Prelude.{◌≡◌, ℕ, List, [], ◌∷◌, ◌++◌, Some, None, sum_by}
use Rattle.network.specs.Messages.{reading, writing, replying}
use Rattle.lines.specs.Model.{Read, waiting}
use Rattle.system.specs.Systems.{asked}
use Rattle.protocol.specs.Moments.{Moment, board_at, cell_at, transit, Call, start, read, write, act, deliver, draw, finish}
use Rattle.protocol.specs.Moments.{Event, at, started, delivered, refused, accepted, wrote, acted, drew, finished}
use Rattle.protocol.specs.Moments as layer
use Rattle.protocol.specs.Steps.{refusal, Reached}
use Rattle.protocol.specs.Counts.{reads_in, Held, Deferred, Ready, Drawn, reads_finished}
use Rattle.protocol.specs.Counts.{sum_to, is_writing, is_write_to, writes_accepted, stored, reported, given}
use Rattle.protocol.specs.Laws.{Quiet}
use Rattle.protocol.specs.Edges.{pool_after, pool_history}

-- writes to a that boards hold, and WRITEs to a in transit
abbrev pub writes_held : Moment → ℕ → ℕ
writes_held m a = sum_to m.nodes (λ n. sum_by (is_writing a) (board_at m n).commands)

abbrev pub writes_out : Moment → ℕ → ℕ
writes_out m a = sum_by (is_write_to a) (transit m)

-- two reads of address 2, which go on at frame 7, instructions 1 and 2
abbrev pub one : Read
one = asked 2 7 1

abbrev pub two : Read
two = asked 2 7 2

-- 2 nodes with one line and 2 cells each: node 0 asks twice for address 2, whose home is node 1 (newest call first)
abbrev pub both_asked : List Call
both_asked = read 0 two ∷ read 0 one ∷ start 2 1 2 ∷ []

-- both reads wait, and a READ is sent
abbrev pub deferred : List Call
deferred = act 0 0 ∷ act 0 0 ∷ both_asked

-- node 1 is given a write, and the READ waits at home
abbrev pub given_word : List Call
given_word = deliver 0 ∷ write 1 2 40 ∷ deferred

abbrev pub sent : List Call
sent = act 1 0 ∷ given_word

-- the WRITE is home, and a REPLY is sent
abbrev pub stored_word : List Call
stored_word = deliver 0 ∷ sent

abbrev pub answered : List Call
answered = deliver 0 ∷ stored_word

abbrev pub drawn_one : List Call
drawn_one = draw 0 ∷ answered

abbrev pub finished_one : List Call
finished_one = finish 0 0 ∷ drawn_one

-- node 0 writes address 2 again, and finds that it was written; nothing is left to deliver
abbrev pub example : List Call
example = deliver 0 ∷ act 0 0 ∷ write 0 2 41 ∷ finished_one

-- had the READ gone home with no write given
abbrev pub unwritten : List Call
unwritten = deliver 0 ∷ deferred

-- the answers up to where the first read is drawn, and after that
abbrev pub early : List Event
early = delivered 0 2 ∷ delivered 0 0 ∷ at 1 (acted 0 0) ∷ delivered 0 0 ∷ at 1 (wrote 2 40) ∷ at 0 (acted 0 0) ∷ at 0 (acted 0 0)
    ∷ at 0 (accepted two 1) ∷ at 0 (accepted one 0) ∷ started 2 1 2 ∷ []

abbrev pub late : List Event
late = refused (deliver 0) (refusal 27 layer.system None None) ∷ refused (act 0 0) (refusal 29 layer.lines (Some 0) (Some 2))
    ∷ at 0 (wrote 2 41) ∷ at 0 (finished 0) ∷ []

-- over an empty pool of limit 64
abbrev pub after : List Call → Moment
after cs = pool_after 64 cs

abbrev pub history : List Call → List Event
history cs = pool_history 64 cs

pub record PortalRun : Type 0 where
  pub answers : history example ≡ late ++ (at 0 (drew 0 one 40) ∷ early)
  pub reached : Reached (history example) (after example)
  pub at_work : (after example).nodes ≡ 2
  -- the first read is held, deferred, ready, drawn and finished
  pub read_held : reads_in Held (after both_asked) 0 one ≡ 1
  pub read_deferred : reads_in Deferred (after deferred) 0 one ≡ 1
  pub read_ready : reads_in Ready (after answered) 0 one ≡ 1
  pub read_drawn : reads_in Drawn (after drawn_one) 0 one ≡ 1
  pub read_finished : reads_finished 0 one (history finished_one) ≡ 1
  -- the first write is held, in transit and stored, and the second is reported
  pub write_held : writes_held (after given_word) 2 ≡ 1
  pub write_out : writes_out (after sent) 2 ≡ 1
  pub write_stored : stored (cell_at (after stored_word) 2) ≡ 1
  pub write_reported : reported 2 (history example) ≡ 1
  -- the word drawn was given before
  pub word_given : given 2 40 early ≡ 1
  -- a line lists both places, and each kind of message is in transit
  pub lined : (board_at (after deferred) 0).lines ≡ waiting 2 (0 ∷ 1 ∷ []) ∷ []
  pub read_transit : transit (after deferred) ≡ reading 1 2 0 ∷ []
  pub write_transit : transit (after sent) ≡ writing 1 2 1 40 ∷ []
  pub reply_transit : transit (after stored_word) ≡ replying 0 2 1 40 ∷ []
  -- it is quiet while both reads are deferred and nothing was written, and when a write has answered both
  pub quiet_unwritten : Quiet (after unwritten)
  pub none_written : writes_accepted 2 (history unwritten) ≡ 0
  pub still_deferred : reads_in Deferred (after unwritten) 0 one ≡ 1
  pub quiet_written : Quiet (after answered)
  pub one_written : writes_accepted 2 (history answered) ≡ 1
  pub none_deferred : reads_in Deferred (after answered) 0 one ≡ 0
