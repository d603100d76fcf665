use Rattle.std.proofs.Common.{ap, ◌∙◌, arith}
use Rattle.network.specs.Messages.{below}
use Rattle.home.proofs.Found.{lowest_found}
use Rattle.home.proofs.set.Members.lowest.Goals as goal

pub returns : goal.returns
returns c = lowest_found c.args.self.rest c.new.result (omega arith) (c.new.ensures ∙ ap (below 16) c.from.ensures)
