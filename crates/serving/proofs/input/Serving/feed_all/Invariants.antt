use Rattle.std.proofs.Common.{◌++◌, List, ℕ, Option, drop}
use Rattle.script.specs.Inputs.{InputLine}
use Rattle.script.specs.Readers.{reading}
use Rattle.session.specs.declared.session.Session.{Session}
use Rattle.serving.specs.Served.{Going}
use Rattle.serving.proofs.input.Serving.feed_all.Given as goal

abbrev pub invariant-loop-byte : goal.invariant-loop-byte
invariant-loop-byte g l =
    (first : Session g.row.N.Denot) (before : Option (List ℕ)) (all : List InputLine) (rest : List ℕ) →
    Going g.N.Network first before all (l.bytes ++ rest) l.initial.self.session (reading l.initial.self.reader) (g.W.Write.contents l.initial.out) →
    Going g.N.Network first before all (drop l.byte-index l.bytes ++ rest) l.self.session (reading l.self.reader) (g.W.Write.contents l.out)
