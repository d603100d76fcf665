use Rattle.std.proofs.lemmas.Result.{MatchResult-from_err}
use Rattle.script.proofs.Numbers.{taken, zero_leads, no_value}
use Rattle.script.proofs.number.number.Goals as goal

pub returns-then-zero_leads : goal.returns-then-zero_leads
returns-then-zero_leads c = zero_leads _ _ _ c.split_digits.ensures c.if-zero_leads.ensures

pub returns-in_err-value : goal.returns-in_err-value
returns-in_err-value c = MatchResult-from_err _ _ _ c.from_residual.ensures.0 (λ _. no_value _ _ _ c.split_digits.ensures c.in_err-value.ensures)

pub returns : goal.returns
returns c = taken _ _ _ _ c.split_digits.ensures c.if-zero_leads.ensures c.in_ok-value.ensures
