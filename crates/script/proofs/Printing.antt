-- Lines in a caller's buffer.
use Rattle.std.proofs.Common.{◌≡◌, ℕ, ◌-◌, List, [], ◌∷◌, length, take, drop, IfOk, Ok, Err, Result, refl, ap, ◌∙◌, subst, append_assoc, arith, length-append, MatchResult}
use Rattle.std.proofs.lemmas.List.{take_at}
use Rattle.script.specs.declared.call.Call.{Call}
use Rattle.script.specs.Calls.{call_text, Fits, Writes, Alone}
use Rattle.script.specs.Drafts.{Printed, NoRoom}
use Rattle.script.specs.Texts.{ended}
use Rattle.script.proofs.Called.{one_call}

pub printed_as : {E : Type 0} (s t : List ℕ) (r : Result ℕ E) (before after : List ℕ) → s ≡ t → MatchResult r (λ n. Printed s n before after) (λ _. NoRoom s before after) → MatchResult r (λ n. Printed t n before after) (λ _. NoRoom t before after)
printed_as s t r before after same h = subst (λ (u : List ℕ). MatchResult r (λ n. Printed u n before after) (λ _. NoRoom u before after)) same h

before_feed : (c : Call) (n : ℕ) (before after : List ℕ) → Fits c → Printed (ended (call_text c)) n before after → Writes c (take (n - 1) after)
before_feed c n before after f p =
    let len : length (call_text c) ≡ n - 1 = omega (arith, p.count, length-append (call_text c) (10 ∷ [])) in
    record {
      is = ap (λ (t : List ℕ). take (n - 1) t) (p.is ∙ append_assoc (call_text c) (10 ∷ []) (drop n before)) ∙ take_at (call_text c) (10 ∷ drop n before) (n - 1) len;
      fits = f;
    }

-- what stands before the line feed is the call's line
pub line_back : {E : Type 0} (c : Call) (r : Result ℕ E) (before after : List ℕ) → Fits c → MatchResult r (λ n. Printed (ended (call_text c)) n before after) (λ _. NoRoom (ended (call_text c)) before after) → IfOk r (λ n. Writes c (take (n - 1) after))
line_back c (Ok n) before after f h = before_feed c n before after f h
line_back c (Err e) before after f h = tt

pub alone : (c : Call) → Fits c → Alone c
alone c f d w = one_call d c (call_text c) w (record { is = refl; fits = f })
