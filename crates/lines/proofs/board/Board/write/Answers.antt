use Rattle.lines.proofs.Keeps.{maybe_written_facts}
use Rattle.lines.proofs.Kept.{kept}
use Rattle.lines.proofs.board.Board.write.Goals as goal

pub invariant_of-self : goal.invariant_of-self
invariant_of-self c = kept c.write.ensures.after (maybe_written_facts _ _ _ c.args.self.now.facts)
