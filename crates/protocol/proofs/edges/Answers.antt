use Rattle.protocol.proofs.edges.Goals as goal
use Rattle.protocol.proofs.EdgeCases.{edges}

pub returns : goal.returns
returns c = edges
