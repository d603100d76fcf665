-- A board keeps the facts.
use Rattle.std.proofs.Common.{◌≡◌, sym, subst}
use Rattle.lines.specs.declared.board.Board.{Board}
use Rattle.lines.specs.Boards.{tables}
use Rattle.lines.specs.Facts.{Facts}
use Rattle.lines.specs.Model.{Tables}

pub facts_of : (b : Board) → Facts (tables b)
facts_of b = b.facts

pub kept : {t u : Tables} → u ≡ t → Facts t → record { facts : Facts u }
kept e f = record { facts = subst Facts (sym e) f }
