use Rattle.std.proofs.Common.{◌≡◌, map, replicate}
use Rattle.bounded.specs.Listed.{listed}
use Rattle.lines.specs.Model.{empty}
use Rattle.lines.specs.Plain.{plain_line}
use Rattle.lines.proofs.raw.fresh.empty_lines.Given as goal

abbrev pub invariant-loop-i : goal.invariant-loop-i
invariant-loop-i l = map plain_line (listed l.lines) ≡ replicate l._i empty
