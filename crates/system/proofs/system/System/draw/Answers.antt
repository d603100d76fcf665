use Rattle.std.proofs.Common.{◌≡◌, ◌<◌, get_or, length, rules, sym, refl, ap, ◌∙◌, arith}
use Rattle.std.specs.Option.{option_map}
use Rattle.lines.specs.Boards.{tables}
use Rattle.lines.specs.Model.{drawing, first_ready}
use Rattle.lines.specs.Plain.{plain_answer}
use Rattle.protocol.specs.Moments.{draw, board_at}
use Rattle.protocol.specs.Steps.{draws}
use Rattle.system.specs.declared.fault.SystemFault.TheVariants.{NothingReady}
use Rattle.system.specs.Systems.{moment}
use Rattle.system.proofs.Boards.{there, left_there, kept}
use Rattle.system.proofs.Draws.{nothing_drawn, drawn_within}
use Rattle.system.proofs.Steps.{quiet_board, stopped}
use Rattle.system.proofs.system.System.draw.Goals as goal

pub returns-in_err-at-clause-call : goal.returns-in_err-at-clause-call
returns-in_err-at-clause-call g c =
    let call = draw c.args.node in
    stopped g.N.Network c.args.self.now call _ c.in_err-at.field-0.0 c.from_residual.result c.from_residual.ensures.1 (refl, refl) (refl, refl) (c.in_err-at.ensures.rule call _)

pub returns-in_err-answer-clause-call : goal.returns-in_err-answer-clause-call
returns-in_err-answer-clause-call g c =
    let s = c.args.self.now in
    let m = moment g.N.Network s in
    let n = c.args.node in
    let t = board_at m n in
    let i = c.index.result in
    let same : i ≡ n = c.index.ensures.value ∙ c.in_ok-at.ensures.within.0 in
    let lt : i < length s.boards = omega arith in
    let at-node = there s.boards same c.index-boards-index.result lt in
    let none = ap (option_map plain_answer) (sym c.in_err-answer.ensures.ok_part) ∙ c.draw.ensures.answer ∙ ap (λ k. first_ready k k.order) at-node in
    kept g.N.Network s n (draw n) (refl, refl) (refl, refl) (NothingReady n) c.from_residual-in_err-answer.result _ _ (drawing t t.order) (search rules)
    (left_there s.boards same c.draw.new.self (c.draw.ensures.after ∙ ap (λ k. drawing k k.order) at-node))
    (c.in_ok-at.ensures.rule (draw n) _ ∙ ap (draws m n) (sym none))
    (nothing_drawn t t.order none)

pub new-requires : goal.new-requires
new-requires g c =
    let b = get_or c.args.self.now.boards c.index.result c.index-boards-index.result in
    let lt = drawn_within (tables b) c.in_ok-answer.answer b.facts.ready_once b.facts.all_places (ap (option_map plain_answer) (sym c.in_ok-answer.ensures.ok_part) ∙ c.draw.ensures.answer) in
    omega (arith, lt)

pub returns-clause-call : goal.returns-clause-call
returns-clause-call g c =
    let s = c.args.self.now in
    let m = moment g.N.Network s in
    let n = c.args.node in
    let i = c.index.result in
    let same : i ≡ n = c.index.ensures.value ∙ c.in_ok-at.ensures.within.0 in
    let lt : i < length s.boards = omega arith in
    let at-node = there s.boards same c.index-boards-index.result lt in
    let some = ap (option_map plain_answer) (sym c.in_ok-answer.ensures.ok_part) ∙ c.draw.ensures.answer ∙ ap (λ k. first_ready k k.order) at-node in
    quiet_board g.N.Network {m = m} (draw n) _ n _ (refl, refl) (refl, refl)
    (left_there s.boards same c.draw.new.self (c.draw.ensures.after ∙ ap (λ k. drawing k k.order) at-node))
    (c.in_ok-at.ensures.rule (draw n) _ ∙ ap (draws m n) (sym some)) refl
