use Rattle.std.proofs.Common.{◌≡◌, ◌^◌, ◌*◌, ◌+◌, ◌-◌, ◌≤◌, ◌<◌, length, get_or, ap, ◌∙◌, arith, rules}
use Rattle.std.specs.Str.Parse.{digits_value as number_of}
use Rattle.std.proofs.lemmas.List.{take_all}
use Rattle.std.proofs.lemmas.Bool.Decides.{nat_tests}
use Rattle.script.proofs.Numbers.{is_digit, one_more, at_most, refused}
use Rattle.script.proofs.number.value.Goals as goal

pub returns-in_err-tens : goal.returns-in_err-tens
returns-in_err-tens c =
    let lt : c.loop-digit.digit-index < length c.args.digits.now = omega arith in
    let most = at_most _ _ _ c.requires lt c.loop-digit.invariant.0 in
    let large : 2 ^ 64 ≤ c.loop-digit.n * 10 = search rules in
    refused _ _ _ c.from_residual.ensures.0 (λ p. omega (arith, most, large, p.1))

pub overflow_sub-digit : goal.overflow_sub-digit
overflow_sub-digit c =
    let lt : c.loop-digit.digit-index < length c.args.digits.now = omega arith in
    (is_digit _ _ _ c.requires lt c.loop-digit.invariant.0).0

pub returns-in_err-n : goal.returns-in_err-n
returns-in_err-n c =
    let lt : c.loop-digit.digit-index < length c.args.digits.now = omega arith in
    let most = at_most _ _ _ c.requires lt c.loop-digit.invariant.0 in
    let large : 2 ^ 64 ≤ c.loop-digit.n * 10 + (get_or c.args.digits.now c.loop-digit.digit-index 0 - 48) = search rules in
    refused _ _ _ c.from_residual-in_err-n.ensures.0 (λ p. omega (arith, most, large, p.1))

pub loop-digit-preserved : goal.loop-digit-preserved
loop-digit-preserved c =
    let lt : c.loop-digit.digit-index < length c.args.digits.now = omega arith in
    let more = one_more _ _ _ c.requires lt c.loop-digit.invariant.0 in
    let here : c.in_ok-n.n ≡ c.loop-digit.n * 10 + (get_or c.args.digits.now c.loop-digit.digit-index 0 - 48) = search rules in
    let fits : c.in_ok-n.n < 2 ^ 64 = search rules in
    (here ∙ more, fits)

pub returns : goal.returns
returns c =
    let all : length c.args.digits.now ≤ c.loop-digit.digit-index = omega arith in
    let e = c.loop-digit.invariant.0 ∙ ap (number_of 10) (take_all c.loop-digit.digit-index c.args.digits.now all) in
    let some : 0 < length c.args.digits.now = grind (arith, nat_tests) in
    ((some, omega (arith, c.loop-digit.invariant.1, e)), e)
