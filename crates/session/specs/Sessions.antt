-- The call that a line writes, and what it is answered.
use Rattle.std.specs.Prelude.{◌≡◌, ◌⊎◌, List, [], ◌∷◌}
use Rattle.network.specs.declared.network.Network.{Ghosts}
use Rattle.protocol.specs.Moments.{Call, start, read, write, act, deliver, draw, finish, put_back, create}
use Rattle.protocol.specs.Moments.{Deed, nothing, accepted, wrote, acted, drew, finished, returned, Event, at, started, delivered, created, refused}
use Rattle.protocol.specs.Steps.{Reached}
use Rattle.protocol.specs.Laws.{Laws}
use Rattle.system.specs.declared.system.System.{System}
use Rattle.system.specs.Refusals.{scripted}
use Rattle.system.specs.Systems.{moment, asked}
use Rattle.system.specs.Through.{Called}
use Rattle.script.specs.declared.answer.Answer.{Answer}
use Rattle.script.specs.declared.answer.Answer.TheVariants.{Done, Place, Ready, Drawn, Base, Refused}
use Rattle.script.specs.declared.call.Call as script
use Rattle.script.specs.declared.call.Call.TheVariants.{Start, Read, Write, Act, Deliver, Draw, Finish, PutBack, Create}
use Rattle.script.specs.Answers.{of_script}
use Rattle.script.specs.Inputs.{InputLine, WritesLine, NoCallLine}
use Rattle.session.specs.declared.session.Session.{Session}

-- the call on the memory
abbrev pub call_of : script.Call → Call
call_of (Start nodes lines cells) = start nodes lines cells
call_of (Read node address frame instruction) = read node (asked address frame instruction)
call_of (Write node address word) = write node address word
call_of (Act node pick) = act node pick
call_of (Deliver pick) = deliver pick
call_of (Draw node) = draw node
call_of (Finish node place) = finish node place
call_of (PutBack node place) = put_back node place
call_of (Create kind length) = create kind length

-- what is answered to a call that is taken at a node
abbrev pub deed_answer : Deed → Answer
deed_answer nothing = Done
deed_answer (accepted q p) = Place p
deed_answer (wrote a v) = Done
deed_answer (acted k readied) = Ready readied
deed_answer (drew p q v) = Drawn p q.address v q.frame q.instruction
deed_answer (finished p) = Done
deed_answer (returned p) = Done

-- what is answered to a call that did this
abbrev pub answer_of : Event → Answer
answer_of (at n d) = deed_answer d
answer_of (started n l c) = Done
answer_of (delivered k readied) = Ready readied
answer_of (created kind size base) = Base base
answer_of (refused c why) = Refused (scripted why)

-- a call is made, and the answer is that of what it did
pub record Answered {N : Type 0} (net : Ghosts N) (s : System N) (c : Call) (answer : Answer) (s' : System N) : Type 0 where
  pub event : Event
  pub called : Called net s c event s'
  pub tells : answer ≡ answer_of event

-- a line is the call that it writes; one that writes none is refused with 6, and all stays as it was
pub data Answers {N : Type 0} (net : Ghosts N) (s : Session N) (line : InputLine) (answer : Answer) (s' : Session N) : Type 0 where
  made : (c : script.Call) → WritesLine c line → Answered net s.system (call_of c) answer s'.system → Answers net s line answer s'
  none : NoCallLine line → answer ≡ Refused (of_script 6) → s' ≡ s → Answers net s line answer s'

-- each history that led there leads on: as it is, or with one call more, and then the laws hold of it
abbrev pub KeepsLaw : {N : Type 0} → Ghosts N → System N → System N → Type 0
KeepsLaw net s s' = (h : List Event) → Reached h (moment net s) → Reached h (moment net s') ⊎ ((e : Event) × Reached (e ∷ h) (moment net s') × Laws (e ∷ h) (moment net s'))

-- the lines that a session ran, newest first, each answered so
pub data Ran {N : Type 0} (net : Ghosts N) (s : Session N) : List InputLine → Session N → Type 0 where
  no_line : Ran net s [] s
  one_more : {ls : List InputLine} {s₁ s₂ : Session N} (line : InputLine) (answer : Answer) → Ran net s ls s₁ → Answers net s₁ line answer s₂ → Ran net s (line ∷ ls) s₂

-- whatever lines it runs, a history leads to it of which the laws hold
abbrev pub EveryScript : {N : Type 0} → Ghosts N → Session N → Type 0
EveryScript {N} net s = (ls : List InputLine) (s' : Session N) → Ran net s ls s' → (h : List Event) × Reached h (moment net s'.system) × Laws h (moment net s'.system)
