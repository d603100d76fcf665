use Rattle.std.proofs.Common.{rules, refl, arith}
use Rattle.std.proofs.lemmas.Bool.{cond-false}
use Rattle.lines.specs.Model as board
use Rattle.protocol.specs.Moments.{finish, at, finished}
use Rattle.system.specs.declared.fault.SystemFault.TheVariants.{NotDrawn}
use Rattle.system.proofs.Boards.{ends}
use Rattle.system.proofs.Steps.{stopped_at}
use Rattle.system.proofs.system.System.finish.Goals as goal

pub returns-in_err-check_node : goal.returns-in_err-check_node
returns-in_err-check_node g c =
    let call = finish c.args.drawn.node.index c.args.drawn.place in
    stopped_at g.N.Network c.args.self.now call _ c.in_err-check_node.field-0.0 c.from_residual.result c.from_residual.ensures.1 (refl, refl) (refl, refl) c.from.ensures (c.in_err-check_node.ensures.rule call) _ refl

pub returns : goal.returns
returns g c =
    let n = c.args.drawn.node.index in
    let p = c.args.drawn.place in
    let ended = c.finish in
    ends g.N.Network c.args.self.now n (finish n p) (refl, refl) (refl, refl) board.finished (at n (finished p)) p c.index.ensures.value c.index-boards-index.result ended.new.self (omega arith) ended.result (NotDrawn n) c.map_err.result (search rules)
    ended.ensures.after ended.ensures.answer c.from.ensures (c.in_ok-check_node.ensures.rule (finish n p)) refl (λ off. cond-false _ _ _ off)
