use Rattle.protocol.proofs.law_of_runs.Goals as goal
use Rattle.protocol.proofs.Laws.{law_of_runs}

pub returns : goal.returns
returns c = law_of_runs
