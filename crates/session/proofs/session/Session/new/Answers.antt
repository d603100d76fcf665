use Rattle.session.proofs.Keeps.{begins}
use Rattle.session.proofs.Scripts.{every_script}
use Rattle.session.proofs.session.Session.new.Goals as goal

pub invariant_of-result : goal.invariant_of-result
invariant_of-result g c = begins g.N.Network c.new.result c.new-2.result.places c.new.ensures.reached c.new-2.ensures

pub returns : goal.returns
returns g c = record { reached = c.new.ensures.reached; network = c.new.ensures.network; laws = every_script g.N.Network _ c.new.ensures.reached }
