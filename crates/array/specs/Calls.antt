-- Which call of the system a call on an array makes, and what it answers.
use Rattle.std.specs.Prelude.{◌≡◌, ℕ, ◌+◌, cond, Ok, Err, Result, ◌==◌, nat_lt}
use Rattle.network.specs.declared.network.Network.{Ghosts}
use Rattle.lines.specs.Model.{Read}
use Rattle.protocol.specs.Moments.{Call, Event}
use Rattle.system.specs.declared.system.System.{System}
use Rattle.system.specs.Systems.{answered_by}
use Rattle.system.specs.Through.{Called}
use Rattle.array.specs.declared.fault.ArrayFault.{ArrayFault}
use Rattle.array.specs.declared.fault.ArrayFault.TheVariants.{NoSuchIndex, OtherKind}
use Rattle.array.specs.Faults.{refusal_of}
use Rattle.array.specs.References.{Plain}

-- a call of the system with its answer: taken, or refused for what an array's fault tells
abbrev pub answered : {X : Type 0} → Call → (X → Event) → Result X ArrayFault → Event
answered c taken r = answered_by refusal_of c taken r

-- the address of an element: 9 where the array is of another kind, then 8 where the index is not below its length
abbrev pub address_of : ℕ → Plain → ℕ → Result ℕ ArrayFault
address_of kind a index = cond (a.kind == kind) (cond (nat_lt index a.length) (Ok (a.base + index)) (Err NoSuchIndex)) (Err OtherKind)

-- a call at an element: without an address the answer is that fault, and the system is as it was; else the system's call is made there
abbrev pub CalledAt : {N X : Type 0} → Ghosts N → System N → Result ℕ ArrayFault → (ℕ → Call) → (ℕ → X → Event) → Result X ArrayFault → System N → Type 0
CalledAt net s (Err fault) call taken r s' = (r ≡ Err fault) × (s' ≡ s)
CalledAt net s (Ok a) call taken r s' = Called net s (call a) (answered (call a) (taken a) r) s'

-- the read of an address for a continuation
abbrev pub reading : (frame instruction address : ℕ) → Read
reading frame instruction a = record { address = a; frame = frame; instruction = instruction }
