use Rattle.std.proofs.Common.{length, drop, ap, arith, lit<}
use Rattle.bounded.specs.Listed.{listed}
use Rattle.std.proofs.lemmas.List.{length-append, length-drop}
use Rattle.lines.proofs.raw.lines.wake.Goals as goal

pub append-requires : goal.append-requires
append-requires c =
    let l = c.loop-place in
    let ws = c.args.waiting.now in
    let rest = drop l.place-index ws in
    let all = length-append (listed c.args.order.now) ws in
    let so_far = length-append (listed l.order) rest in
    let left = length-drop l.place-index ws in
    let same = ap length l.invariant.2 in
    (lit< tt, omega (arith, c.requires.room))
