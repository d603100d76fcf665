use Rattle.script.proofs.Commas.{Sofar}
use Rattle.script.proofs.fields.fields.Given as goal

abbrev pub invariant-loop-value : goal.invariant-loop-value
invariant-loop-value g l = Sofar g.row.N l.text l.value-items l.value-index l.rest
