use Rattle.std.proofs.Common.{rules, ◌<◌}
use Rattle.array.proofs.Samples.{accepts, refuses, too_large}
use Rattle.array.proofs.sample.F32Element.open.Goals as goal

pub returns-in_err-bits : goal.returns-in_err-bits
returns-in_err-bits c =
    let large : c.args.word < 4294967296 → ⊥ = search rules in
    too_large c.args.word c.from_residual.result large c.from_residual.ensures.0

pub returns-then-pack-word : goal.returns-then-pack-word
returns-then-pack-word c = accepts c.args.word c.f32_from_bits_with_nan-sample.result (search rules) (search rules)

pub returns-else-pack-word : goal.returns-else-pack-word
returns-else-pack-word c = refuses c.args.word record {} c.f32_from_bits_with_nan-sample.result (search rules) (search rules)
