use Rattle.script.specs.Readers.{reading}
use Rattle.serving.proofs.Served.{Follows}
use Rattle.serving.proofs.input.serve.Given as goal

abbrev pub invariant-loop-turn : goal.invariant-loop-turn
invariant-loop-turn g l =
    Follows g.N.Network l.initial.serving.session (g.R.Read.remaining l.initial.input) (g.R.Read.remaining l.input) (g.W.Write.contents l.initial.out) l.serving.session (reading l.serving.reader) (g.W.Write.contents l.out)
