use Rattle.std.proofs.Common.{◌≡◌, ℕ, ◌<◌, length, rules, refl, ap, ◌∙◌, arith}
use Rattle.lines.specs.Model.{free_place, given}
use Rattle.protocol.specs.Moments.{read, at, accepted, board_at}
use Rattle.system.specs.declared.fault.SystemFault.TheVariants.{PlacesTaken}
use Rattle.system.specs.Systems.{moment, asked}
use Rattle.system.proofs.Boards.{there, left_there, tried, reads_so}
use Rattle.system.proofs.Steps.{stopped}
use Rattle.system.proofs.system.System.read.Goals as goal

pub returns-in_err-at : goal.returns-in_err-at
returns-in_err-at g c =
    let call = read c.args.node (asked c.args.address c.args.continuation.frame c.args.continuation.instruction) in
    stopped g.N.Network c.args.self.now call _ c.in_err-at.field-0.0 c.from_residual.result c.from_residual.ensures.1 (refl, refl) (refl, refl) (c.in_err-at.ensures.rule call _)

pub returns : goal.returns
returns g c =
    let s = c.args.self.now in
    let m = moment g.N.Network s in
    let n = c.args.node in
    let q = asked c.args.address c.args.continuation.frame c.args.continuation.instruction in
    let t = board_at m n in
    let i = c.index.result in
    let same : i ≡ n = c.index.ensures.value ∙ c.in_ok-at.ensures.within.0 in
    let lt : i < length s.boards = omega arith in
    let at-node = there s.boards same c.index-boards-index.result lt in
    let of = λ (a : ℕ). asked a c.args.continuation.frame c.args.continuation.instruction in
    let by = reads_so m n q c.read.result (c.read.ensures.answer ∙ ap free_place at-node) in
    tried g.N.Network s n (read n q) (refl, refl) (refl, refl) c.read.result (PlacesTaken n) c.map_err.result (λ place. at n (accepted q place)) _ (given t q (free_place t)) (search rules)
    (left_there s.boards same c.read.new.self (c.read.ensures.after ∙ (λ j. given (at-node j) (of (c.in_ok-at.ensures.within.1 j)) (free_place (at-node j)))))
    (rw (c.in_ok-at.ensures.rule (read n q) _) by)
