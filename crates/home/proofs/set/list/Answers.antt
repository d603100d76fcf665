use Rattle.std.proofs.Common.{is_ok, ap}
use Rattle.std.proofs.Output.{has_written_of_eq}
use Rattle.home.specs.Sets.{members}
use Rattle.home.proofs.Shown.{each, none_left, from_first}
use Rattle.home.proofs.set.list.Goals as goal

pub returns : goal.returns
returns g c plain ok =
    let wrote = c.write.ensures.writes plain (ap is_ok c.in_ok-write.was) in
    let so_far = c.loop-node.invariant wrote.plain in
    let rest = so_far.1 c.loop-node.f (none_left g.W.Write.write_str_gives _ _ c.in-None.ensures.steps so_far.0) in
    from_first g.W.Write.write_str_gives _ _ _ _ _ _ c.in-Some.ensures.steps wrote
    (has_written_of_eq g.W.Write.write_str_gives _ _ _ _ (ap (λ m. each (members m.rest)) c.into_iter-node-iterator.ensures.into_iter_gives) rest)
