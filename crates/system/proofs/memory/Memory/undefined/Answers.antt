use Rattle.std.proofs.Common.{refl}
use Rattle.std.proofs.lemmas.List.{length-replicate}
use Rattle.home.specs.declared.cell.Cell.TheVariants.{Undefined}
use Rattle.system.proofs.Waiting.{few_undefined}
use Rattle.system.proofs.memory.Memory.undefined.Goals as goal

pub invariant_of-result : goal.invariant_of-result
invariant_of-result c = record { whole = length-replicate 1024 Undefined; counted = refl; few = few_undefined 1024 }
