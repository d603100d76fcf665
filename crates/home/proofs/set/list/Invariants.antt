use Rattle.std.specs.Fmt.{IsPlainFormatter, HasWritten}
use Rattle.home.specs.Sets.{members}
use Rattle.home.proofs.Shown.{each}
use Rattle.home.proofs.set.list.Given as goal

-- what is left to write completes what was to be written where the loop began
abbrev pub invariant-loop-node : goal.invariant-loop-node
invariant-loop-node g l =
    IsPlainFormatter l.initial.f → IsPlainFormatter l.f ×
    ((h : _) → HasWritten g.W.Write.write_str_gives l.f (each (members l.node-iterator.rest)) h
    → HasWritten g.W.Write.write_str_gives l.initial.f (each (members l.initial.node-iterator.rest)) h)
