use Rattle.std.proofs.Common.{Some, refl, arith}
use Rattle.bounded.specs.Listed.{listed}
use Rattle.network.proofs.Bags.{one_more_right}
use Rattle.network.proofs.delay.DelayNetwork.take.Goals as goal

pub returns-in-Some : goal.returns-in-Some
returns-in-Some g c =
    let n = g.N.Network in
    let s = c.args.self.now in
    let m = c.in-Some.m in
    let e = c.in-Some.ensures in
    record {
      bag = one_more_right m (listed s.own) (n.bag c.take.new.self) (n.bag s.below) e.bag;
      bound = omega (arith, e.bound);
      takes = (Some m, e.takes, (refl, refl));
    }
