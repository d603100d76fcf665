use Rattle.lines.specs.Plain.{plain_read}
use Rattle.protocol.specs.Moments.{draw}
use Rattle.session.proofs.Keeps.{parks_drawn, parks_refused}
use Rattle.session.proofs.session.Session.draw.Goals as goal

pub invariant_of-self : goal.invariant_of-self
invariant_of-self g c =
    let was = c.args.self.now in parks_refused was.system c.draw.new.self was.parking.places was.parked was.at_work c.in_err-token.ensures.call

pub invariant_of-self-2 : goal.invariant_of-self-2
invariant_of-self-2 g c =
    let was = c.args.self.now in
    let token = c.in_ok-token.token in
    let answer = c.in_ok-token.answer in
    parks_drawn g.N.Network was.system c.draw.new.self (draw c.args.node) c.args.node token.node.index token.place answer.place
    (plain_read answer.read) answer.word was.parking.places c.park.new.self.places c.in_ok-token.ensures.token.0 c.in_ok-token.ensures.token.1
    was.parked was.at_work c.in_ok-token.ensures.call c.park.ensures.places c.park.ensures.there
