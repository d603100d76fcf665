-- What a board stands for.
use Rattle.lines.specs.declared.board.Board.{Board}
use Rattle.lines.specs.Model.{Tables}
use Rattle.lines.specs.Raws.{raw_tables}

abbrev pub tables : Board → Tables
tables b = raw_tables b.raw
