use Rattle.std.proofs.Common.{◌≡◌, length}
use Rattle.example.proofs.Lines.{Said, Going}
use Rattle.example.proofs.run_example.Given as goal

abbrev pub invariant-loop-i : goal.invariant-loop-i
invariant-loop-i l = Going l.initial.session l.i l.session l.answers × (length l.answers ≡ 15) × Said l.text-items
