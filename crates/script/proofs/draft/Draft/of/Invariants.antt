use Rattle.std.proofs.Common.{take}
use Rattle.script.specs.Drafts.{Wrote}
use Rattle.script.specs.Texts.{fields_text}
use Rattle.script.proofs.draft.Draft.of.Given as goal

abbrev pub invariant-loop-n : goal.invariant-loop-n
invariant-loop-n l = Wrote l.initial.line (fields_text (take l.n-index l.numbers)) l.line
