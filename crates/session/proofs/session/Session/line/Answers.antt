use Rattle.std.proofs.Common.{subst, rules}
use Rattle.script.specs.Readers.{told}
use Rattle.session.specs.Sessions.{Answers}
use Rattle.session.proofs.Scripts.{whole_is}
use Rattle.session.proofs.session.Session.line.Goals as goal

pub returns-clause-answer : goal.returns-clause-answer
returns-clause-answer g c =
    let is = whole_is c.run.result c.unwrap_or_else.result _ c.unwrap_or_else.ensures (λ f q. search rules) in
    subst (λ a. Answers g.N.Network c.args.self.now (told c.args.line) a c.run.new.self) is c.run.ensures
