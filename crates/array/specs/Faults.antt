-- What each refusal is: its number, its layer, and the node and the address that it names.
use Rattle.std.specs.Prelude.{None}
use Rattle.protocol.specs.Moments.{Refusal}
use Rattle.protocol.specs.Moments as layer
use Rattle.protocol.specs.Steps.{refusal}
use Rattle.system.specs.Faults as system
use Rattle.array.specs.declared.fault.ArrayFault.{ArrayFault}
use Rattle.array.specs.declared.fault.ArrayFault.TheVariants.{NotAnElement, NoSuchIndex, OtherKind, System}

abbrev pub refusal_of : ArrayFault → Refusal
refusal_of NotAnElement = refusal 7 layer.array None None
refusal_of NoSuchIndex = refusal 8 layer.array None None
refusal_of OtherKind = refusal 9 layer.array None None
refusal_of (System fault) = system.refusal_of fault
