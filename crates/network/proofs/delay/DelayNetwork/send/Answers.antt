use Rattle.std.proofs.Common.{◌+◌, ◌<◌, min, ltb, ◌++◌, length, sym, refl, ap, ◌∙◌, arith, length-append}
use Rattle.std.proofs.lemmas.Bool.{lt-ltb}
use Rattle.bounded.specs.Listed.{listed}
use Rattle.network.specs.Rules.{Appended}
use Rattle.network.proofs.Bags.{one_more_end, joins_one}
use Rattle.network.proofs.Parts.{no_room, pushed_end, join_left, join_right, accepted, not_refused, sent_first, sent_second}
use Rattle.network.proofs.delay.DelayNetwork.send.Goals as goal

pub returns-in-Ok : goal.returns-in-Ok
returns-in-Ok g c =
    let n = g.N.Network in
    let s = c.args.self.now in
    let m = c.args.m in
    let ls = listed s.own in
    let ls' = listed c.push.new.self in
    let rs = n.bag s.below in
    let e = c.in-Ok.ensures in
    let most = min (n.bound s.below + 8) 1024 in
    let room : length (ls ++ rs) < most = omega arith in
    let end = pushed_end 8 ls m ls' e.answer e.after in
    record {
      answer = sym (lt-ltb (length (ls ++ rs)) most room);
      bag = join_left most ls rs m room ls' (one_more_end m ls ls' end);
      bound = refl;
      same = tt;
      sends = sent_first Appended n.sends (ltb (length ls) 8) ls s.below m ls' e.answer end;
    }

pub returns-in-Err : goal.returns-in-Err
returns-in-Err g c =
    let n = g.N.Network in
    let s = c.args.self.now in
    let m = c.args.m in
    let ls = listed s.own in
    let ls' = listed c.push.new.self in
    let rs = n.bag s.below in
    let rs' = n.bag c.send.new.self in
    let e = c.in-Err.ensures in
    let t = c.send.ensures in
    let most = min (n.bound s.below + 8) 1024 in
    let room : length (ls ++ rs) < most = omega arith in
    let full = no_room (length ls) 8 e.answer in
    let right : length rs < n.bound s.below = omega (arith, length-append ls rs) in
    let ok = accepted c.send.result (length rs) (n.bound s.below) right t.answer in
    let same = ap listed e.same in
    record {
      answer = ok ∙ sym (lt-ltb (length (ls ++ rs)) most room);
      bag = join_right most ls rs m room ls' rs' same (joins_one (n.bound s.below) rs m rs' right t.bag);
      bound = omega (arith, t.bound);
      same = not_refused c.send.result _ ok;
      sends = sent_second Appended n.sends (ltb (length ls) 8) c.send.result ls s.below m ls' c.send.new.self e.answer same t.sends;
    }
