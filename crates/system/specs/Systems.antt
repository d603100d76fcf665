-- The moment that a system stands for, and the event that a call with its answer is.
use Rattle.std.specs.Prelude.{◌≡◌, ℕ, List, map, Ok, Err, Result, slice_index_or, slice_set}
use Rattle.network.specs.declared.network.Network.{Ghosts}
use Rattle.network.specs.Messages.{plain}
use Rattle.lines.specs.declared.board.Board.{Board}
use Rattle.lines.specs.Boards.{tables}
use Rattle.lines.specs.Model.{Tables, Read, start}
use Rattle.protocol.specs.Moments.{Moment, Call, Event, Refusal, refused}
use Rattle.protocol.specs.Steps.{Outcome, refuse}
use Rattle.system.specs.declared.fault.SystemFault.{SystemFault}
use Rattle.system.specs.declared.system.System.{System}
use Rattle.system.specs.Faults.{refusal_of}

-- (what the network holds, and how much it may, are the network's own to say)
abbrev pub moment : {N : Type 0} → Ghosts N → System N → Moment
moment net s =
    record {
      nodes = s.nodes;
      cells = s.cells;
      boards = map tables s.boards;
      memory = s.memory.cells;
      end = s.end;
      limit = net.bound s.network;
      bag = map plain (net.bag s.network);
    }

-- the tables of board n, and what the boards are with others in their place
abbrev pub board_of : List Board → ℕ → Tables
board_of boards n = slice_index_or (map tables boards) n (start 1)

abbrev pub boards_with : List Board → ℕ → Tables → List Tables
boards_with boards n t = slice_set (map tables boards) n t

abbrev pub asked : ℕ → ℕ → ℕ → Read
asked address frame instruction = record { address = address; frame = frame; instruction = instruction }

-- a call with its answer: taken, or refused for what a fault tells
abbrev pub answered_by : {X F : Type 0} → (F → Refusal) → Call → (X → Event) → Result X F → Event
answered_by why c taken (Ok x) = taken x
answered_by why c taken (Err fault) = refused c (why fault)

abbrev pub answered : {X : Type 0} → Call → (X → Event) → Result X SystemFault → Event
answered c taken r = answered_by refusal_of c taken r

-- what a check says of a call whose whole outcome is `all`: it goes on with the outcome o, or is refused for a fault
abbrev pub Checked : {X : Type 0} → Moment → Call → Result X SystemFault → Outcome → Outcome → Type 0
Checked m c (Ok x) o all = all ≡ o
Checked m c (Err fault) o all = all ≡ refuse m c (refusal_of fault)
