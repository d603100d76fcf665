use Rattle.std.proofs.Common.{arith}
use Rattle.network.proofs.Bags.{one_more_left, one_more_right}
use Rattle.network.proofs.Parts.{even_taken, odd_taken}
use Rattle.network.proofs.twin.TwinNetwork.take.Goals as goal

pub returns-in-Some : goal.returns-in-Some
returns-in-Some g c =
    let p = g.P.Network in
    let q = g.Q.Network in
    let s = c.args.self.now in
    let m = c.in-Some.m in
    let first = c.take.new.self in
    let e = c.in-Some.ensures in
    record {
      bag = one_more_left m (p.bag first) (p.bag s.first) (q.bag s.second) e.bag;
      bound = omega (arith, e.bound);
      takes = even_taken p.takes q.takes c.args.pick s.first s.second m first (omega arith) e.takes;
    }

pub returns-in-Some-take : goal.returns-in-Some-take
returns-in-Some-take g c =
    let p = g.P.Network in
    let q = g.Q.Network in
    let s = c.args.self.now in
    let m = c.in-Some-take.m in
    let second = c.take-else-pick-eq0.new.self in
    let e = c.in-Some-take.ensures in
    record {
      bag = one_more_right m (p.bag s.first) (q.bag second) (q.bag s.second) e.bag;
      bound = omega (arith, e.bound);
      takes = odd_taken p.takes q.takes c.args.pick s.first s.second m second (λ even. omega arith) e.takes;
    }
