-- A result as an answer.
use Rattle.std.specs.Prelude.{Ok, Err, Result}
use Rattle.network.specs.declared.network.Network.{Ghosts}
use Rattle.protocol.specs.Moments.{Call}
use Rattle.system.specs.declared.fault.SystemFault.{SystemFault}
use Rattle.system.specs.declared.system.System.{System}
use Rattle.script.specs.declared.answer.Answer.{Answer}
use Rattle.script.specs.declared.answer.Answer.TheVariants.{Refused}
use Rattle.session.specs.declared.fault.SessionFault.{SessionFault}
use Rattle.session.specs.declared.fault.SessionFault.TheVariants.{System as by_system}
use Rattle.session.specs.Faults.{scripted_refusal}
use Rattle.session.specs.Sessions.{Answered}

-- what a line is told
abbrev pub whole : Result Answer SessionFault → Answer
whole (Ok answer) = answer
whole (Err fault) = Refused (scripted_refusal fault)

-- what a call on the memory is told
abbrev pub of_memory : Result Answer SystemFault → Answer
of_memory (Ok answer) = answer
of_memory (Err fault) = Refused (scripted_refusal (by_system fault))

-- a call is made, and its result is told
abbrev pub Tells : {N : Type 0} → Ghosts N → System N → Call → Result Answer SystemFault → System N → Type 0
Tells net s c r s' = Answered net s c (of_memory r) s'
