use Rattle.lines.proofs.Keeps.{put_back_facts}
use Rattle.lines.proofs.Kept.{kept}
use Rattle.lines.proofs.board.Board.put_back.Goals as goal

pub invariant_of-self : goal.invariant_of-self
invariant_of-self c = kept c.put_back.ensures.after (put_back_facts _ c.args.place c.args.self.now.facts)
