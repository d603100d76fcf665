use Rattle.std.proofs.Common.{Some, None, refl, ap, ◌∙◌, subst}
use Rattle.bounded.specs.Listed.{listed}
use Rattle.network.specs.Bags.{TakenAt}
use Rattle.network.specs.Rules.{first_to}
use Rattle.network.proofs.Oldest.{lanes_give}
use Rattle.network.proofs.lanes.LanesNetwork.take.Goals as goal

pub returns-in_err-lane : goal.returns-in_err-lane
returns-in_err-lane c =
    let ms = listed c.args.self.now.held in
    let t = lanes_give ms c.args.pick None c.from_residual.result ms c.in_err-lane.ensures (c.from_residual.ensures, refl) in
    record { bag = t.0; bound = refl; takes = t.1 }

pub returns : goal.returns
returns c =
    let ms = listed c.args.self.now.held in
    let rest = listed c.remove.new.self in
    let lane = c.in_ok-lane.lane in
    let r = c.remove.result in
    let place = c.first_to-oldest.ensures ∙ ap (first_to lane) c.as_slice.ensures in
    let e = c.remove.ensures in
    let t = lanes_give ms c.args.pick (Some lane) r rest c.in_ok-lane.ensures (subst (λ i. TakenAt i ms r rest) place (e.answer, e.after)) in
    record { bag = t.0; bound = refl; takes = t.1 }
