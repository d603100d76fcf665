use Rattle.session.proofs.Keeps.{parks_kept}
use Rattle.session.proofs.session.Session.write.Goals as goal

pub invariant_of-self : goal.invariant_of-self
invariant_of-self g c =
    let was = c.args.self.now in parks_kept was.system c.write.new.self was.parking.places tt was.parked was.at_work c.write.ensures
