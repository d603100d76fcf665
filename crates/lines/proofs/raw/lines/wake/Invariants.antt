use Rattle.std.proofs.Common.{◌≡◌, ℕ, ◌≤◌, ◌++◌, map, get_or, drop}
use Rattle.bounded.specs.Listed.{listed}
use Rattle.lines.specs.Facts.{times, if_deferred}
use Rattle.lines.specs.Model.{free, woken}
use Rattle.lines.specs.Plain.{plain_place}
use Rattle.lines.proofs.raw.lines.wake.Given as goal

-- the rest of the places still wait, and from here on give what all of them give
abbrev pub invariant-loop-place : goal.invariant-loop-place
invariant-loop-place l =
    ((p : ℕ) → times p (drop l.place-index l.waiting) ≤ if_deferred (get_or (map plain_place l.places) p free))
    × (woken l.word (map plain_place l.places) (drop l.place-index l.waiting) ≡ woken l.word (map plain_place l.initial.places) l.waiting)
    × (listed l.order ++ drop l.place-index l.waiting ≡ listed l.initial.order ++ l.waiting)
