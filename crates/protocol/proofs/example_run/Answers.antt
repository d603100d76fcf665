use Rattle.protocol.proofs.example_run.Goals as goal
use Rattle.protocol.proofs.Example.{example}

pub returns : goal.returns
returns c = example
