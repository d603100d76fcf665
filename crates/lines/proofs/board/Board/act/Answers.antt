use Rattle.lines.proofs.Acts.{act_facts}
use Rattle.lines.proofs.Kept.{kept}
use Rattle.lines.proofs.board.Board.act.Goals as goal

pub invariant_of-self : goal.invariant_of-self
invariant_of-self c = kept c.act.ensures.after (act_facts _ _ _ _ _ c.args.self.now.facts)
