-- The oldest message to a destination, and the first destination that has one.
use Rattle.std.proofs.Common.{◌≡◌, ℕ, suc, ltb, ◌==◌, ◌+◌, ◌%◌, ◌<◌, ◌≤◌, Bool, false, cond, not, List, [], ◌∷◌, length, get_or, drop, Some, None, Option, sym, refl, ap, ◌∙◌, subst, ⊎_elim, arith}
use Rattle.std.specs.List.{position_or_len}
use Rattle.std.proofs.lemmas.List.Sums.{prefix_len-le-length}
use Rattle.std.specs.Option.{unwrap_or}
use Rattle.std.proofs.lemmas.List.Recursion.{is_position_or_len}
use Rattle.std.proofs.lemmas.Bool.{eq-eqb, ne_eqb, lt-ltb, le-ltb, ltb-true, cases_lt, both_ways}
use Rattle.rounds.specs.Rounds.{first_round, Searched}
use Rattle.rounds.proofs.Rounds.{counts_round}
use Rattle.network.specs.declared.message.Message.{Message}
use Rattle.network.specs.Bags.{Gives}
use Rattle.network.specs.Rules.{first_to, waits, OldestTo, LanesTake}
use Rattle.network.proofs.Bags.{taken_at}

at_hit : (d : ℕ) (m : Message) (ms : List Message) → m.to.index ≡ d → first_to d (m ∷ ms) ≡ 0
at_hit d m ms e = ap (λ b. cond b 0 (suc (first_to d ms))) (eq-eqb m.to.index d e)

at_miss : (d : ℕ) (m : Message) (ms : List Message) → (m.to.index ≡ d → ⊥) → first_to d (m ∷ ms) ≡ suc (first_to d ms)
at_miss d m ms e = ap (λ b. cond b 0 (suc (first_to d ms))) (ne_eqb m.to.index d e)

-- the oldest message to a destination is the first that passes a test
first_passing : (d : ℕ) (ms : List Message) → first_to d ms ≡ position_or_len (λ m. m.to.index == d) ms
first_passing d ms = is_position_or_len (first_to d) (λ m. m.to.index == d) refl (λ m rest. let e : suc (first_to d rest) ≡ 1 + first_to d rest = omega arith in ap (λ n. cond (m.to.index == d) 0 n) e) ms

told_or : (k n : ℕ) → k ≤ n → unwrap_or (cond (ltb k n) (Some k) None) n ≡ k
told_or k n le =
    ⊎_elim
    (λ h. ap (λ b. unwrap_or (cond b (Some k) None) n) (lt-ltb k n h))
    (λ h. let e : n ≡ k = omega arith in ap (λ b. unwrap_or (cond b (Some k) None) n) (le-ltb k n h) ∙ e)
    (cases_lt k n)

-- a search that answers no position stands for the length
pub searched : (d : ℕ) (ms : List Message) (r : Option ℕ) → (let k = position_or_len (λ m. m.to.index == d) ms in r ≡ cond (ltb k (length ms)) (Some k) None) → unwrap_or r (length ms) ≡ first_to d ms
searched d ms r e =
    let test : Message → Bool = λ m. m.to.index == d in
    let within = prefix_len-le-length (λ m. not (test m)) ms in
    ap (λ o. unwrap_or o (length ms)) e ∙ told_or (position_or_len test ms) (length ms) within ∙ sym (first_passing d ms)

-- where no destination has a message there is none
no_lanes : (ms : List Message) → ((d : ℕ) → d < 16 → waits ms d ≡ false) → ms ≡ []
no_lanes [] none = refl
no_lanes (m ∷ ms) none =
    let d = m.to.index in
    let z = at_hit d m ms refl in
    absurd (both_ways (waits (m ∷ ms) d) (none d m.to.within) (lt-ltb (first_to d (m ∷ ms)) (length (m ∷ ms)) (omega arith)))

-- what comes out of the lane that a search found comes out of the bag
oldest_gives : (ms : List Message) (i : ℕ) (lane : Option ℕ) (r : Option Message) (rest : List Message) → Searched (waits ms) 16 i lane → OldestTo lane ms r rest → Gives ms r rest
oldest_gives ms i None r rest none t = subst (λ o. Gives ms o rest) (sym t.0) (no_lanes ms none, t.1)
oldest_gives ms i (Some d) r rest found t = taken_at (first_to d ms) ms r rest (λ _. ltb-true (first_to d ms) (length ms) found.passes) t

pub lanes_give : (ms : List Message) (pick : ℕ) (lane : Option ℕ) (r : Option Message) (rest : List Message) → lane ≡ first_round (waits ms) 16 (pick % 16) → OldestTo lane ms r rest → Gives ms r rest × LanesTake ms pick r rest
lanes_give ms pick lane r rest e t =
    let t' = subst (λ o. OldestTo o ms r rest) e t in
    (oldest_gives ms (pick % 16) (first_round (waits ms) 16 (pick % 16)) r rest (counts_round (waits ms) 16 (pick % 16) (omega arith)) t', t')
