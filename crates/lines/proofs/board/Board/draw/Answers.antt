use Rattle.lines.proofs.Keeps.{draw_facts}
use Rattle.lines.proofs.Kept.{kept}
use Rattle.lines.proofs.board.Board.draw.Goals as goal

pub invariant_of-self : goal.invariant_of-self
invariant_of-self c = kept c.draw.ensures.after (draw_facts _ c.args.self.now.facts)
