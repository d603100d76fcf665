use Rattle.std.proofs.Common.{◌≡◌, ◌<◌, cond, length, rules, refl, ap, ◌∙◌, arith}
use Rattle.std.proofs.lemmas.Bool.{cond-true, cond-false}
use Rattle.lines.specs.Model.{may_write, written}
use Rattle.protocol.specs.Moments.{write, at, wrote, board_at}
use Rattle.system.specs.declared.fault.SystemFault.TheVariants.{WritesHeld}
use Rattle.system.specs.Systems.{moment}
use Rattle.system.proofs.Boards.{there, left_there, gated}
use Rattle.system.proofs.Steps.{stopped}
use Rattle.system.proofs.system.System.write.Goals as goal

pub returns-in_err-at : goal.returns-in_err-at
returns-in_err-at g c =
    let call = write c.args.node c.args.address c.args.word in
    stopped g.N.Network c.args.self.now call _ c.in_err-at.field-0.0 c.from_residual.result c.from_residual.ensures.1 (refl, refl) (refl, refl) (c.in_err-at.ensures.rule call _)

pub returns : goal.returns
returns g c =
    let s = c.args.self.now in
    let n = c.args.node in
    let a = c.args.address in
    let v = c.args.word in
    let t = board_at (moment g.N.Network s) n in
    let i = c.index.result in
    let same : i ≡ n = c.index.ensures.value ∙ c.in_ok-at.ensures.within.0 in
    let lt : i < length s.boards = omega arith in
    let at-node = there s.boards same c.index-boards-index.result lt in
    gated g.N.Network s n (write n a v) (refl, refl) (refl, refl) c.write.result (WritesHeld n) c.map_err.result (at n (wrote a v)) _ _ (written t a v) (may_write t) (search rules)
    (left_there s.boards same c.write.new.self (c.write.ensures.after ∙ (λ j. cond (may_write (at-node j)) (written (at-node j) (c.in_ok-at.ensures.within.1 j) v) (at-node j))))
    (c.write.ensures.answer ∙ ap may_write at-node)
    (c.in_ok-at.ensures.rule (write n a v) _) (λ on. cond-true _ _ _ on) (λ off. cond-false _ _ _ off)
