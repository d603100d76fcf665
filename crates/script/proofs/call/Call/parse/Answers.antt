use Rattle.std.proofs.Common.{MatchResult, rules}
use Rattle.script.specs.Calls.{Writes, NoCall}
use Rattle.script.proofs.Called.{reads_back, refuses_long}
use Rattle.script.proofs.call.Call.parse.Goals as goal

pub returns : goal.returns
returns c =
    let line = c.args.line.now in
    let w : MatchResult c.call_of.result (λ d. Writes d line) (λ _. NoCall line) = search rules in
    record { writes = w; back = reads_back line _ w; short = refuses_long line _ w }
