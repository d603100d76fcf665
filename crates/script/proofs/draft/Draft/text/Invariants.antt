use Rattle.std.proofs.Common.{take}
use Rattle.script.specs.Drafts.{Wrote}
use Rattle.script.proofs.draft.Draft.text.Given as goal

abbrev pub invariant-loop-b : goal.invariant-loop-b
invariant-loop-b l = Wrote l.initial.self (take l.b-index l.text) l.self
