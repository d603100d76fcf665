-- All proved cases at the edges: of words, and of the memory.
use Rattle.std.specs.Prelude.{◌≡◌, true, is_err, Some}
use Rattle.protocol.specs.Edges.{MemoryEdges}
use Rattle.array.specs.declared.edges.EdgeWords.{EdgeWords}

pub record Edges (w : EdgeWords) : Type 0 where
  -- the number -1
  pub minus_one : w.minus_one ≡ 18446744073709551615
  -- the sample 1.0
  pub one : w.one ≡ 1065353216
  -- a sample that is no number, and bits of another such
  pub not_a_number : w.not_a_number ≡ 0x7FC00000
  pub other_not_a_number : is_err w.other_not_a_number ≡ true
  -- the array of kind 1, base 4 and length 3
  pub array : w.array ≡ Some 4295229443
  -- the word 65537, opened as an array
  pub not_an_array : is_err w.not_an_array ≡ true
  -- addresses, loads, and the order in which messages arrive
  pub memory : MemoryEdges
