use Rattle.lines.specs.Boards.{tables}
use Rattle.lines.specs.Model.{start}
use Rattle.std.proofs.Common.{arith}
use Rattle.system.proofs.Start.{first, map-replicate, made_so}
use Rattle.system.proofs.system.System.new.Goals as goal

pub returns-clause-reached : goal.returns-clause-reached
returns-clause-reached g c =
    first _ _ _ _
    (map-replicate tables 16 c.unwrap-board.result (start 1) (made_so 1 c.new.result c.unwrap-board.result (omega arith) (omega arith) c.new.ensures c.unwrap-board.ensures))
    c.undefined.ensures
