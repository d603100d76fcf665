use Rattle.std.proofs.Common.{sym, refl, ◌∙◌, rules}
use Rattle.protocol.specs.Moments.{finish, finished}
use Rattle.session.proofs.Keeps.{parks_taken_up, finish_taken, told_undrawn}
use Rattle.session.proofs.session.Session.finish.Goals as goal

pub returns-in_err-token : goal.returns-in_err-token
returns-in_err-token g c =
    let was = c.args.self.now in
    let why = c.in_err-token.ensures.none in
    told_undrawn g.N.Network was.system (finish c.args.node c.args.place) c.in_err-token.field-0.0 c.from_residual.result (search rules) (refl, refl) (refl, refl)
    (why.undrawn.finishing c.args.place (sym (was.parked c.args.node c.args.place) ∙ why.was))

pub invariant_of-self-2 : goal.invariant_of-self-2
invariant_of-self-2 g c =
    let was = c.args.self.now in
    let token = c.in_ok-token.token in
    let taken = c.in_ok-token.ensures.token in
    parks_taken_up g.N.Network was.system c.finish.new.self finish finished c.args.node c.args.place token.node.index token.place c.finish.result
    was.parking.places c.take_up.new.tokens.places finish_taken (λ i b j x y. refl) taken.node taken.place was.parked was.at_work (sym taken.was) c.finish.ensures taken.leaves
