-- Which places are drawn.
use Rattle.std.specs.Prelude.{ℕ, Bool, List}
use Rattle.lines.specs.declared.board.Board.{Board}
use Rattle.lines.specs.Model.{place_at, is_drawn}
use Rattle.system.specs.Systems.{board_of}

-- whether the place p of the node n is
abbrev pub drawn_at : List Board → ℕ → ℕ → Bool
drawn_at boards n p = is_drawn (place_at (board_of boards n) p)
