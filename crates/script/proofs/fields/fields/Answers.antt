use Rattle.std.proofs.Common.{◌<◌, length, arith, rules}
use Rattle.std.proofs.lemmas.Result.{MatchResult-from_err}
use Rattle.script.proofs.Commas.{read, no_number, no_comma, too_much}
use Rattle.script.proofs.fields.fields.Goals as goal

pub loop-value-preserved : goal.loop-value-preserved
loop-value-preserved g c =
    read _ _ _ _ _ _ _ _ (omega arith) c.loop-value.invariant c.in_ok-after_comma.ensures c.in_ok-value.ensures

pub returns-in_err-after_comma : goal.returns-in_err-after_comma
returns-in_err-after_comma g c =
    MatchResult-from_err _ _ _ c.from_residual.ensures.0
    (λ _ ys f. no_comma _ _ _ _ _ ys c.loop-value.invariant f (omega arith) c.in_err-after_comma.ensures)

pub returns-in_err-value : goal.returns-in_err-value
returns-in_err-value g c =
    MatchResult-from_err _ _ _ c.from_residual-in_err-value.ensures.0
    (λ _ ys f. no_number _ _ _ _ _ ys c.loop-value.invariant f _ (omega arith) c.in_ok-after_comma.ensures c.in_err-value.ensures)

pub returns-in_default : goal.returns-in_default
returns-in_default g c ys f =
    let some : 0 < length c.loop-value.rest.now = search rules in
    too_much _ _ _ _ _ ys c.loop-value.invariant f (omega arith) (omega arith) some
