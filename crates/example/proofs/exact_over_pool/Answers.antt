use Rattle.example.proofs.exact_over_pool.Goals as goal
use Rattle.example.proofs.Exact.{exact}

pub returns : goal.returns
returns c = exact
