-- A run: a read that came before its write is deferred, answered, drawn and finished.
use Rattle.std.specs.Prelude.{◌≡◌, List, [], ◌∷◌}
use Rattle.lines.specs.Model.{Read}
use Rattle.protocol.specs.Moments.{Moment, Event, at, started, delivered, accepted, wrote, acted, drew, finished}
use Rattle.protocol.specs.Steps.{Reached}
use Rattle.protocol.specs.Counts.{Deferred, reads_in, reads_finished}

-- address 0, to go on at frame 7, instruction 9
abbrev pub early : Read
early = record { address = 0; frame = 7; instruction = 9 }

-- one node with one line and one cell: the read is sent, and waits at its home (newest call first)
abbrev pub waiting_run : List Event
waiting_run = delivered 0 0 ∷ at 0 (acted 0 0) ∷ at 0 (accepted early 0) ∷ started 1 1 1 ∷ []

-- the word 42 is written, which makes the place ready; the WRITE goes home, and the REPLY comes for nothing; the read is drawn and finished
abbrev pub whole_run : List Event
whole_run = at 0 (finished 0) ∷ at 0 (drew 0 early 42) ∷ delivered 0 0 ∷ delivered 0 0 ∷ at 0 (acted 0 1) ∷ at 0 (wrote 0 42) ∷ waiting_run

-- such runs there are
pub record ExampleRun : Type 0 where
  pub between : Moment
  pub waits : Reached waiting_run between
  pub deferred : reads_in Deferred between 0 early ≡ 1
  pub last : Moment
  pub ends : Reached whole_run last
  pub finished : reads_finished 0 early whole_run ≡ 1
