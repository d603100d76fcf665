use Rattle.example.proofs.portal_run.Goals as goal
use Rattle.example.proofs.Memory.{portal_run}

pub returns : goal.returns
returns c = portal_run
