use Rattle.std.proofs.Common.{drop}
use Rattle.std.specs.Fmt.{IsPlainFormatter, HasWritten}
use Rattle.lines.specs.Shown.{with_spaces}
use Rattle.lines.proofs.show.list.Given as goal

-- what is left to write completes what was to be written where the loop began
abbrev pub invariant-loop-place : goal.invariant-loop-place
invariant-loop-place g l =
    IsPlainFormatter l.initial.f → IsPlainFormatter l.f ×
    ((h : _) → HasWritten g.W.Write.write_str_gives l.f (with_spaces (drop l.place-index l.places)) h
    → HasWritten g.W.Write.write_str_gives l.initial.f (with_spaces l.places) h)
