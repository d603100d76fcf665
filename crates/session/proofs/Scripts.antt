-- The laws, through any lines.
use Rattle.std.proofs.Common.{◌≡◌, List, [], ◌∷◌, Ok, Err, Result, sym, ap, ◌∙◌, subst}
use Rattle.std.specs.Result.{MatchResult}
use Rattle.network.specs.declared.network.Network.{Ghosts}
use Rattle.protocol.specs.Moments.{Event}
use Rattle.protocol.specs.Steps.{Reached}
use Rattle.protocol.proofs.Laws.{laws}
use Rattle.system.specs.Systems.{moment}
use Rattle.system.specs.declared.fault.SystemFault.{SystemFault}
use Rattle.script.specs.declared.answer.Answer.{Answer}
use Rattle.script.specs.declared.answer.Answer.TheVariants.{Refused}
use Rattle.script.specs.declared.call.Call.{Call}
use Rattle.script.specs.Inputs.{InputLine, WritesLine}
use Rattle.session.specs.declared.session.Session.{Session}
use Rattle.session.specs.declared.fault.SessionFault.{SessionFault}
use Rattle.session.specs.declared.fault.SessionFault.TheVariants.{System as by_system}
use Rattle.session.specs.Faults.{scripted_refusal}
use Rattle.session.specs.Results.{whole}
use Rattle.session.specs.Sessions.{call_of, Answered, Answers, made, none, Ran, no_line, one_more, EveryScript}

-- the memory's fault is passed on whole
pub passed_on : {N : Type 0} (net : Ghosts N) (s s' : Session N) (line : InputLine) (c : Call) (fault : SystemFault) (r : Result Answer SessionFault) → (y : SessionFault) × (r ≡ Err y) × (y ≡ by_system fault)
    → WritesLine c line → Answered net s.system (call_of c) (Refused (scripted_refusal (by_system fault))) s'.system → Answers net s line (whole r) s'
passed_on net s s' line c fault r p writes a =
    made c writes (subst (λ x. Answered net s.system (call_of c) x s'.system) (sym (ap whole p.1 ∙ ap (λ f. Refused (scripted_refusal f)) p.2)) a)

-- an answer, or the refusal that a fault is told as
pub whole_is : (r : Result Answer SessionFault) (x : Answer) (Q : SessionFault → Type 0) → MatchResult r (λ a. x ≡ a) Q → ((f : SessionFault) → Q f → x ≡ Refused (scripted_refusal f)) → whole r ≡ x
whole_is (Ok a) x Q is of_fault = sym is
whole_is (Err f) x Q is of_fault = sym (of_fault f is)

module _ {N : Type 0} (net : Ghosts N) (s : Session N) (first : Reached [] (moment net s.system)) where
  one : {s₁ s₂ : Session N} {line : InputLine} {answer : Answer} → Answers net s₁ line answer s₂ → (h : List Event) → Reached h (moment net s₁.system) → (h' : List Event) × Reached h' (moment net s₂.system)
  one (made c writes a) h r = (a.event ∷ h, (a.called.carried.runs h r).0)
  one (none no_call is same) h r = (h, subst (λ t. Reached h (moment net t.system)) (sym same) r)

  led : {ls : List InputLine} {s' : Session N} → Ran net s ls s' → (h : List Event) × Reached h (moment net s'.system)
  led no_line = ([], first)
  led (one_more line answer before a) = let (h, r) = led before in one a h r

  pub every_script : EveryScript net s
  every_script ls s' ran = let (h, r) = led ran in (h, r, laws h (moment net s'.system) r)
