use Rattle.std.proofs.Common.{◌≡◌, ◌^◌, ◌<◌, ◌≤◌, get_or, refl, inl, inr, rules, arith}
use Rattle.std.proofs.lemmas.Grind.{common_steps}
use Rattle.std.proofs.lemmas.Result.{MatchResult-from_err}
use Rattle.script.proofs.Called.{parts, read_fields, read_narrow}
use Rattle.script.proofs.parse.read.Goals as goal

pub returns-in_err-map_err : goal.returns-in_err-map_err
returns-in_err-map_err c =
    let wide : 2 ^ 32 ≤ get_or c.in_ok-node.field-0 2 0 = search rules in
    MatchResult-from_err _ _ _ c.from_residual-in_err-map_err.ensures.0
    (λ _. read_narrow _ _ c.in_ok-node.ensures (inl wide))

pub returns-in_err-map_err-2 : goal.returns-in_err-map_err-2
returns-in_err-map_err-2 c =
    let wide : 2 ^ 32 ≤ get_or c.in_ok-node.field-0 3 0 = search rules in
    MatchResult-from_err _ _ _ c.from_residual-in_err-map_err-2.ensures.0
    (λ _. read_narrow _ _ c.in_ok-node.ensures (inr wide))

pub returns : goal.returns
returns c =
    let f = c.in_ok-node.ensures in
    let frame : (c.in_ok-map_err.field-0 ≡ get_or c.in_ok-node.field-0 2 0) × (c.in_ok-map_err.field-0 < 2 ^ 32) = grind (arith, common_steps) in
    let instruction : (c.in_ok-map_err-2.field-0 ≡ get_or c.in_ok-node.field-0 3 0) × (c.in_ok-map_err-2.field-0 < 2 ^ 32) = grind (arith, common_steps) in
    parts _ _ _ _ _ f refl (read_fields _ _ _ f.count frame.0 instruction.0) (frame.1, instruction.1)
