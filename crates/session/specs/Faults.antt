-- What a line is refused for, in the words of scripts.
use Rattle.refusals.specs.declared.refusal.Refusal.{Refusal}
use Rattle.system.specs.Faults.{refusal_of}
use Rattle.system.specs.Refusals.{scripted}
use Rattle.array.specs.Faults as arrays
use Rattle.script.specs.Answers.{of_script}
use Rattle.session.specs.declared.fault.SessionFault.{SessionFault}
use Rattle.session.specs.declared.fault.SessionFault.TheVariants as fault

-- 6, by the script itself, or what the memory or its arrays say
abbrev pub scripted_refusal : SessionFault → Refusal
scripted_refusal fault.NotALine = of_script 6
scripted_refusal (fault.System f) = scripted (refusal_of f)
scripted_refusal (fault.Array f) = scripted (arrays.refusal_of f)
