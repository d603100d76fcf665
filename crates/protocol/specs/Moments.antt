-- A whole memory at one moment, the calls made on it, and what they answer.
use Rattle.std.specs.Prelude.{ℕ, ◌+◌, ◌/◌, ◌%◌, Bool, cond, not, List, [], length, set, replicate, sum_by, Option, ◌==◌, count_ones, slice_index_or}
use Rattle.network.specs.Messages.{Plain}
use Rattle.home.specs.declared.cell.Cell.{Cell}
use Rattle.home.specs.declared.cell.Cell.TheVariants.{Undefined, Waiting, Defined}
use Rattle.lines.specs.Model.{Tables, Read, Place, free}
use Rattle.lines.specs.Model as board

pub record Moment : Type 0 where
  -- the nodes at work, and the cells of each; 0 before the start
  pub nodes : ℕ
  pub cells : ℕ
  pub boards : List Tables
  -- the cells, by address
  pub memory : List Cell
  -- the end of the arrays created so far
  pub end : ℕ
  pub limit : ℕ
  -- what the network holds
  pub bag : List Plain

abbrev pub unused : ℕ → List Plain → Moment
unused limit bag =
    record {
      nodes = 0;
      cells = 0;
      boards = replicate 16 (board.start 1);
      memory = replicate 1024 Undefined;
      end = 0;
      limit = limit;
      bag = bag;
    }

abbrev pub is_started : Moment → Bool
is_started m = not (m.nodes == 0)

abbrev pub board_at : Moment → ℕ → Tables
board_at m n = slice_index_or m.boards n (board.start 1)

abbrev pub place_at : Moment → ℕ → ℕ → Place
place_at m n p = board.place_at (board_at m n) p

abbrev pub cell_at : Moment → ℕ → Cell
cell_at m a = slice_index_or m.memory a Undefined

-- the home of an address; the remainder keeps an address that no memory has within the sixteen nodes
abbrev pub home_of : Moment → ℕ → ℕ
home_of m a = a / m.cells % 16

-- what is in transit: nothing before the start, whatever the network holds
abbrev pub transit : Moment → List Plain
transit m = cond (is_started m) m.bag []

-- the members of a cell's waiting set
abbrev pub waiters : Cell → ℕ
waiters Undefined = 0
waiters (Waiting set) = count_ones set.mask
waiters (Defined w) = 0

abbrev pub load : Moment → ℕ
load m = length (transit m) + sum_by waiters m.memory

abbrev pub with_board : Moment → ℕ → Tables → Moment
with_board m n t =
    record {
      nodes = m.nodes;
      cells = m.cells;
      boards = set m.boards n t;
      memory = m.memory;
      end = m.end;
      limit = m.limit;
      bag = m.bag;
    }

abbrev pub with_cell : Moment → ℕ → Cell → Moment
with_cell m a c =
    record {
      nodes = m.nodes;
      cells = m.cells;
      boards = m.boards;
      memory = set m.memory a c;
      end = m.end;
      limit = m.limit;
      bag = m.bag;
    }

abbrev pub with_end : Moment → ℕ → Moment
with_end m end =
    record {
      nodes = m.nodes;
      cells = m.cells;
      boards = m.boards;
      memory = m.memory;
      end = end;
      limit = m.limit;
      bag = m.bag;
    }

abbrev pub with_bag : Moment → List Plain → Moment
with_bag m bag =
    record {
      nodes = m.nodes;
      cells = m.cells;
      boards = m.boards;
      memory = m.memory;
      end = m.end;
      limit = m.limit;
      bag = bag;
    }

-- the calls, with the numbers given
pub data Call : Type 0 where
  start : (nodes lines cells : ℕ) → Call
  read : (node : ℕ) (what : Read) → Call
  write : (node address word : ℕ) → Call
  act : (node pick : ℕ) → Call
  deliver : (pick : ℕ) → Call
  draw : (node : ℕ) → Call
  finish : (node place : ℕ) → Call
  put_back : (node place : ℕ) → Call
  create : (kind size : ℕ) → Call

pub data Layer : Type 0 where
  system : Layer
  lines : Layer
  home : Layer
  array : Layer

-- why a call is refused: its number, the layer that says so, and the node and the address that it names
pub record Refusal : Type 0 where
  pub number : ℕ
  pub layer : Layer
  pub node : Option ℕ
  pub address : Option ℕ

-- what a board did in a call that was taken: what was asked of it, and what it answered
pub data Deed : Type 0 where
  nothing : Deed
  accepted : (what : Read) (place : ℕ) → Deed
  wrote : (address word : ℕ) → Deed
  acted : (pick readied : ℕ) → Deed
  drew : (place : ℕ) (what : Read) (word : ℕ) → Deed
  finished : (place : ℕ) → Deed
  returned : (place : ℕ) → Deed

-- a call with its answer: taken at a node, taken by the memory, or refused
pub data Event : Type 0 where
  at : (node : ℕ) → Deed → Event
  started : (nodes lines cells : ℕ) → Event
  delivered : (pick readied : ℕ) → Event
  created : (kind size base : ℕ) → Event
  refused : Call → Refusal → Event
