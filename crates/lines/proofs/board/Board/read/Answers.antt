use Rattle.lines.proofs.Keeps.{read_facts}
use Rattle.lines.proofs.Kept.{kept}
use Rattle.lines.proofs.board.Board.read.Goals as goal

pub invariant_of-self : goal.invariant_of-self
invariant_of-self c = kept c.read.ensures.after (read_facts _ _ c.args.self.now.facts)
