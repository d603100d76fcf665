use Rattle.lines.proofs.Keeps.{finish_facts}
use Rattle.lines.proofs.Kept.{kept}
use Rattle.lines.proofs.board.Board.finish.Goals as goal

pub invariant_of-self : goal.invariant_of-self
invariant_of-self c = kept c.finish.ensures.after (finish_facts _ c.args.place c.args.self.now.facts)
