use Rattle.std.proofs.Common.{◌+◌, ◌<◌, min, ltb, ◌++◌, length, sym, ap, ◌∙◌, arith, length-append}
use Rattle.std.proofs.lemmas.Bool.{lt-ltb}
use Rattle.network.proofs.Bags.{joins_one}
use Rattle.network.proofs.Parts.{has_room, no_room, join_left, join_right, accepted, not_refused, sent_first, sent_second}
use Rattle.network.proofs.twin.TwinNetwork.send.Goals as goal

pub returns-in-Ok : goal.returns-in-Ok
returns-in-Ok g c =
    let p = g.P.Network in
    let q = g.Q.Network in
    let s = c.args.self.now in
    let m = c.args.m in
    let ls = p.bag s.first in
    let ls' = p.bag c.send.new.self in
    let rs = q.bag s.second in
    let e = c.in-Ok.ensures in
    let most = min (p.bound s.first + q.bound s.second) 1024 in
    let room : length (ls ++ rs) < most = omega arith in
    let left = has_room (length ls) (p.bound s.first) e.answer in
    record {
      answer = sym (lt-ltb (length (ls ++ rs)) most room);
      bag = join_left most ls rs m room ls' (joins_one (p.bound s.first) ls m ls' left e.bag);
      bound = omega (arith, e.bound);
      same = tt;
      sends = sent_first p.sends q.sends (ltb (length ls) (p.bound s.first)) s.first s.second m c.send.new.self e.answer e.sends;
    }

pub returns-in-Err : goal.returns-in-Err
returns-in-Err g c =
    let p = g.P.Network in
    let q = g.Q.Network in
    let s = c.args.self.now in
    let m = c.args.m in
    let ls = p.bag s.first in
    let rs = q.bag s.second in
    let rs' = q.bag c.send-in-Err.new.self in
    let e = c.in-Err.ensures in
    let t = c.send-in-Err.ensures in
    let most = min (p.bound s.first + q.bound s.second) 1024 in
    let room : length (ls ++ rs) < most = omega arith in
    let full = no_room (length ls) (p.bound s.first) e.answer in
    let right : length rs < q.bound s.second = omega (arith, length-append ls rs) in
    let ok = accepted c.send-in-Err.result (length rs) (q.bound s.second) right t.answer in
    record {
      answer = ok ∙ sym (lt-ltb (length (ls ++ rs)) most room);
      bag = join_right most ls rs m room (p.bag c.send.new.self) rs' (ap p.bag e.same) (joins_one (q.bound s.second) rs m rs' right t.bag);
      bound = omega (arith, e.bound, t.bound);
      same = not_refused c.send-in-Err.result _ ok;
      sends = sent_second p.sends q.sends (ltb (length ls) (p.bound s.first)) c.send-in-Err.result s.first s.second m c.send.new.self c.send-in-Err.new.self e.answer e.same t.sends;
    }
