use Rattle.std.proofs.Common.{arith}
use Rattle.lines.proofs.Keeps.{start_facts}
use Rattle.lines.proofs.Kept.{kept}
use Rattle.lines.proofs.board.Board.new.Goals as goal

pub invariant_of-result : goal.invariant_of-result
invariant_of-result c = kept c.new.ensures (start_facts c.args.lines (omega arith) (omega arith))
