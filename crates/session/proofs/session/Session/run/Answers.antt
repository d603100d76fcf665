use Rattle.std.proofs.lemmas.Result.{err_from_is_err_and}
use Rattle.script.specs.Readers.{told}
use Rattle.session.specs.Sessions.{made}
use Rattle.session.proofs.Scripts.{passed_on}
use Rattle.session.proofs.session.Session.run.Goals as goal

pub returns-in_err-call-2 : goal.returns-in_err-call-2
returns-in_err-call-2 g c =
    let r = c.from_residual-in_err-call-2.result in
    passed_on g.N.Network c.args.self.now c.call-2.new.self (told c.args.line) c.in_ok-call.call c.in_err-call-2.field-0.0 r
    (err_from_is_err_and r c.from_residual-in_err-call-2.ensures.1) c.in_ok-call.ensures c.in_err-call-2.ensures

pub returns : goal.returns
returns g c = made c.in_ok-call.call c.in_ok-call.ensures c.in_ok-call-2.ensures
