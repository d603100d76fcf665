use Rattle.std.proofs.Common.{rules}
use Rattle.std.proofs.iter.runs.Made.{chains}
use Rattle.lines.proofs.Searches.{first_tells, FirstTells}
use Rattle.lines.proofs.raw.lines.find.Goals as goal

pub returns : goal.returns
returns c = let h : FirstTells c.args.address.index 0 c.args.lines.now c.find_map.result = search (rules, chains) in first_tells _ _ _ _ h
