use Rattle.lines.proofs.Wakes.{reply_facts}
use Rattle.lines.proofs.Kept.{kept}
use Rattle.lines.proofs.board.Board.reply.Goals as goal

pub invariant_of-self : goal.invariant_of-self
invariant_of-self c = kept c.reply.ensures.after (reply_facts _ _ _ c.args.self.now.facts)
