-- The example, step by step.
use Rattle.std.proofs.Common.{ℕ, List, [], ◌∷◌, set, replicate, Some, None, refl}
use lib.Count.{ones}
use Rattle.network.specs.Bags.{OneMore}
use Rattle.network.specs.Messages.{Plain}
use Rattle.network.specs.Messages as message
use Rattle.rounds.specs.Rounds.{first_of}
use Rattle.home.specs.declared.cell.Cell.{Cell}
use Rattle.home.specs.declared.cell.Cell.TheVariants.{Undefined, Defined}
use Rattle.home.specs.Cells.{waiting as awaited}
use Rattle.home.specs.Sets.{members, members_from}
use Rattle.lines.specs.Model.{Place, free, held, deferred, ready, drawn, Line, empty, waiting, filled, Command, reading, writing, Tables}
use Rattle.lines.specs.Model as board
use Rattle.protocol.specs.Moments.{Moment, unused, start, read, write, act, deliver, draw, finish, at, started, delivered, accepted, wrote, acted, drew, finished}
use Rattle.protocol.specs.Steps.{Step, Reached, new, then}
use Rattle.protocol.specs.Counts.{same, same_read, sum_to}
use Rattle.protocol.specs.Example.{early, waiting_run, whole_run, ExampleRun}

-- the one node's board, its cell, and the bag
abbrev with : List Command → Place → Line → List ℕ → Tables
with cs x l order = record { commands = cs; places = set (replicate 32 free) 0 x; last = 0; lines = l ∷ []; hand = 0; order = order }

abbrev now : Tables → Cell → List Plain → Moment
now t c bag = record { nodes = 1; cells = 1; boards = set (replicate 16 (board.start 1)) 0 t; memory = set (replicate 1024 Undefined) 0 c; end = 0; limit = 64; bag = bag }

alone : (x : Plain) → OneMore x [] (x ∷ [])
alone x = record { front = []; back = []; without = refl; within = refl }

abbrev asks_for : Plain
asks_for = message.reading 0 0 0

abbrev gives : Plain
gives = message.writing 0 0 0 42

abbrev answers : Plain
answers = message.replying 0 0 0 42

starts : Step (unused 64 []) (start 1 1 1) (started 1 1 1) (now (board.start 1) Undefined [])
starts = record { got = None; rest = []; asks = (refl, refl); says = refl; offers = refl; leaves = refl }

reads : Step (now (board.start 1) Undefined []) (read 0 early) (at 0 (accepted early 0)) (now (with (reading 0 ∷ []) (held early) empty []) Undefined [])
unfolding first_of
reads = record { got = None; rest = []; asks = (refl, refl); says = refl; offers = refl; leaves = refl }

defers : Step (now (with (reading 0 ∷ []) (held early) empty []) Undefined []) (act 0 0) (at 0 (acted 0 0)) (now (with [] (deferred early) (waiting 0 (0 ∷ [])) []) Undefined (asks_for ∷ []))
unfolding first_of
defers = record { got = None; rest = []; asks = (refl, refl); says = refl; offers = (asks_for ∷ [], alone asks_for, refl); leaves = refl }

waits_at_home : Step (now (with [] (deferred early) (waiting 0 (0 ∷ [])) []) Undefined (asks_for ∷ [])) (deliver 0) (delivered 0 0) (now (with [] (deferred early) (waiting 0 (0 ∷ [])) []) (awaited 1) [])
waits_at_home = record { got = Some asks_for; rest = []; asks = alone asks_for; says = refl; offers = refl; leaves = refl }

writes : Step (now (with [] (deferred early) (waiting 0 (0 ∷ [])) []) (awaited 1) []) (write 0 0 42) (at 0 (wrote 0 42)) (now (with (writing 0 42 ∷ []) (deferred early) (waiting 0 (0 ∷ [])) []) (awaited 1) [])
writes = record { got = None; rest = []; asks = (refl, refl); says = refl; offers = refl; leaves = refl }

readies : Step (now (with (writing 0 42 ∷ []) (deferred early) (waiting 0 (0 ∷ [])) []) (awaited 1) []) (act 0 0) (at 0 (acted 0 1)) (now (with [] (ready early 42) (filled 0 42) (0 ∷ [])) (awaited 1) (gives ∷ []))
unfolding ones
readies = record { got = None; rest = []; asks = (refl, refl); says = refl; offers = (gives ∷ [], alone gives, refl); leaves = refl }

defines : Step (now (with [] (ready early 42) (filled 0 42) (0 ∷ [])) (awaited 1) (gives ∷ [])) (deliver 0) (delivered 0 0) (now (with [] (ready early 42) (filled 0 42) (0 ∷ [])) (Defined 42) (answers ∷ []))
unfolding members members_from
defines = record { got = Some gives; rest = []; asks = alone gives; says = refl; offers = (answers ∷ [], alone answers, refl); leaves = refl }

comes_for_nothing : Step (now (with [] (ready early 42) (filled 0 42) (0 ∷ [])) (Defined 42) (answers ∷ [])) (deliver 0) (delivered 0 0) (now (with [] (ready early 42) (filled 0 42) (0 ∷ [])) (Defined 42) [])
comes_for_nothing = record { got = Some answers; rest = []; asks = alone answers; says = refl; offers = refl; leaves = refl }

draws : Step (now (with [] (ready early 42) (filled 0 42) (0 ∷ [])) (Defined 42) []) (draw 0) (at 0 (drew 0 early 42)) (now (with [] (drawn early 42) (filled 0 42) []) (Defined 42) [])
draws = record { got = None; rest = []; asks = (refl, refl); says = refl; offers = refl; leaves = refl }

finishes : Step (now (with [] (drawn early 42) (filled 0 42) []) (Defined 42) []) (finish 0 0) (at 0 (finished 0)) (now (with [] free (filled 0 42) []) (Defined 42) [])
finishes = record { got = None; rest = []; asks = (refl, refl); says = refl; offers = refl; leaves = refl }

waiting_reached : Reached waiting_run (now (with [] (deferred early) (waiting 0 (0 ∷ [])) []) (awaited 1) [])
waiting_reached = then (deliver 0) (then (act 0 0) (then (read 0 early) (then (start 1 1 1) (new 64 []) starts) reads) defers) waits_at_home

whole_reached : Reached whole_run (now (with [] free (filled 0 42) []) (Defined 42) [])
whole_reached = then (finish 0 0) (then (draw 0) (then (deliver 0) (then (deliver 0) (then (act 0 0) (then (write 0 0 42) waiting_reached writes) readies) defines) comes_for_nothing) draws) finishes

pub example : ExampleRun
unfolding same same_read sum_to
example = record {
  between = now (with [] (deferred early) (waiting 0 (0 ∷ [])) []) (awaited 1) [];
  waits = waiting_reached;
  deferred = refl;
  last = now (with [] free (filled 0 42) []) (Defined 42) [];
  ends = whole_reached;
  finished = refl;
}
