-- A word that comes to a waiting line keeps the facts.
use Rattle.std.proofs.Common.{◌≡◌, ℕ, zero, suc, ◌+◌, ◌<◌, ◌≤◌, Bool, true, false, cond, eqb, List, [], ◌∷◌, length, get_or, set, sym, refl, ap, ◌∙◌, arith, eqb-true}
use borrow.Author.Tests.{eqb-false}
use Rattle.std.proofs.lemmas.List.{length-set, get_or-set_other}
use Rattle.lines.specs.Model.{Place, free, ready, waiting, filled, Tables, place_at, line_at, read_of, waits, woken, filling, Found, absent, waits_at, holds, found, reply_finds, replied}
use Rattle.lines.specs.Facts.{times, for_address, if_held, if_deferred, if_ready, line_address, is_idle, Facts}
use Rattle.lines.proofs.Counts.{get_d_set, each_line, times-append, listed_set, lines_for_set}
use Rattle.lines.proofs.Finds.{found_waits}
use Rattle.lines.proofs.Looks.{listed_mark, listed_deferred}

pub length-woken : (v : ℕ) (ps : List Place) (xs : List ℕ) → length (woken v ps xs) ≡ length ps
length-woken v ps [] = refl
length-woken v ps (x ∷ xs) =
    let y = ready (read_of (get_or ps x free)) v in
    length-woken v (set ps x y) xs ∙ length-set ps x y

-- a place that is not woken stays
pub woken_other : (v : ℕ) (ps : List Place) (xs : List ℕ) (k : ℕ) → times k xs ≡ 0 → get_or (woken v ps xs) k free ≡ get_or ps k free
woken_other v ps [] k z = refl
woken_other v ps (x ∷ xs) k z =
    let y = ready (read_of (get_or ps x free)) v in
    let by : (b : Bool) → eqb x k ≡ b → cond b 1 0 + times k xs ≡ 0 → get_or (set ps x y) k free ≡ get_or ps k free
    = λ b. elim b as (λ c. eqb x k ≡ c → cond c 1 0 + times k xs ≡ 0 → get_or (set ps x y) k free ≡ get_or ps k free) [
      | true ↦ (λ e n. absurd (omega arith))
      | false ↦ (λ e n. get_or-set_other ps x k y free (λ q. eqb-false x k e (sym q)))
    ] in
    woken_other v (set ps x y) xs k (omega arith) ∙ by (eqb x k) refl z

-- one place is woken, and then the others
step : (v : ℕ) (ps : List Place) (x : ℕ) (xs : List ℕ) (k : ℕ) (b : Bool) (m : ℕ) → eqb x k ≡ b → times k xs ≡ m → k < length ps → 1 ≤ cond b 1 0 + times k xs
    → (1 ≤ times k xs → get_or (woken v ps (x ∷ xs)) k free ≡ ready (read_of (get_or (set ps x (ready (read_of (get_or ps x free)) v)) k free)) v)
    → get_or (woken v ps (x ∷ xs)) k free ≡ ready (read_of (get_or ps k free)) v
step v ps x xs k true zero e z h o rest =
    let same = eqb-true x k e in
    let y = ready (read_of (get_or ps x free)) v in
    woken_other v (set ps x y) xs k z ∙ get_d_set free ps x k y true e (omega arith) ∙ ap (λ j. ready (read_of (get_or ps j free)) v) same
step v ps x xs k true (suc m) e z h o rest =
    let same = eqb-true x k e in
    let y = ready (read_of (get_or ps x free)) v in
    rest (omega arith) ∙ ap (λ p. ready (read_of p) v) (get_d_set free ps x k y true e (omega arith)) ∙ ap (λ j. ready (read_of (get_or ps j free)) v) same
step v ps x xs k false m e z h o rest =
    let y = ready (read_of (get_or ps x free)) v in
    rest (omega arith) ∙ ap (λ p. ready (read_of p) v) (get_or-set_other ps x k y free (λ q. eqb-false x k e (sym q)))

-- a place that is woken has its read and the word
pub woken_here : (v : ℕ) (ps : List Place) (xs : List ℕ) (k : ℕ) → k < length ps → 1 ≤ times k xs → get_or (woken v ps xs) k free ≡ ready (read_of (get_or ps k free)) v
woken_here v ps [] k h o = absurd (omega arith)
woken_here v ps (x ∷ xs) k h o =
    let y = ready (read_of (get_or ps x free)) v in
    let l = length-set ps x y in
    step v ps x xs k (eqb x k) (times k xs) refl refl h o (woken_here v (set ps x y) xs k (omega arith))

-- how the places' marks change as line i is filled
record Woke (t : Tables) (i v k : ℕ) : Type 0 where
  held : if_held (get_or (woken v t.places (waits (line_at t i))) k free) ≡ if_held (place_at t k)
  deferred : if_deferred (get_or (woken v t.places (waits (line_at t i))) k free) + times k (waits (line_at t i)) ≡ if_deferred (place_at t k)
  ready : if_ready (get_or (woken v t.places (waits (line_at t i))) k free) ≡ if_ready (place_at t k) + times k (waits (line_at t i))
  read : read_of (get_or (woken v t.places (waits (line_at t i))) k free) ≡ read_of (place_at t k)

woke_by : (t : Tables) (i v k m : ℕ) → times k (waits (line_at t i)) ≡ m → Facts t → Woke t i v k
woke_by t i v k zero e s =
    let same = woken_other v t.places (waits (line_at t i)) k e in
    record {
      held = ap if_held same;
      deferred = omega (arith, ap if_deferred same);
      ready = omega (arith, ap if_ready same);
      read = ap read_of same;
    }
woke_by t i v k (suc m) e s =
    let (h, d) = listed_deferred t i k s (omega arith) in
    let a = s.all_places in
    let new = woken_here v t.places (waits (line_at t i)) k (omega arith) (omega arith) in
    let one = listed_mark t i k s in
    let of : if_deferred (place_at t k) ≡ 1 = ap if_deferred d in
    record {
      held = ap if_held new ∙ sym (ap if_held d);
      deferred = omega (arith, ap if_deferred new);
      ready = omega (arith, ap if_ready new, ap if_ready d);
      read = ap read_of new;
    }

woke : (t : Tables) (i v k : ℕ) → Facts t → Woke t i v k
woke t i v k s = woke_by t i v k (times k (waits (line_at t i))) refl s

pub filling_facts : (t : Tables) (i a v : ℕ) → Facts t → i < length t.lines → line_at t i ≡ waiting a (waits (line_at t i)) → Facts (filling t i a v)
filling_facts t i a v s h w =
    let ls = t.lines in
    let l = length-set ls i (filled a v) in
    let now : ℕ → Place = λ k. get_or (woken v t.places (waits (line_at t i))) k free in
    record {
      one_line = λ b. let c = lines_for_set b ls i (filled a v) h in let o = s.one_line b in let same : for_address b (line_at t i) ≡ cond (eqb a b) 1 0 = ap (for_address b) w in omega arith;
      deferred_once = λ k. let c = listed_set k ls i (filled a v) h in let o = s.deferred_once k in let m = (woke t i v k s).deferred in omega arith;
      at_its_line = each_line (λ x. (k : ℕ) → 1 ≤ times k (waits x) → line_address x ≡ (read_of (now k)).address) ls i (filled a v) h (λ k o. absurd (omega arith))
          (λ j k o. s.at_its_line j k o ∙ ap (λ q. q.address) (sym (woke t i v k s).read));
      never_idle = each_line (λ x. is_idle x ≡ false) ls i (filled a v) h refl s.never_idle;
      held_once = λ k. s.held_once k ∙ sym (woke t i v k s).held;
      ready_once = λ k. let c = times-append k t.order (waits (line_at t i)) in let o = s.ready_once k in let m = (woke t i v k s).ready in omega arith;
      few_writes = s.few_writes;
      all_places = length-woken v t.places (waits (line_at t i)) ∙ s.all_places;
      some_lines = omega (arith, s.some_lines);
      few_lines = omega (arith, s.few_lines);
      last_place = s.last_place;
      pointed = omega (arith, s.pointed);
    }

reply_by : (t : Tables) (a v : ℕ) (f : Found) → found a 0 t.lines ≡ f → Facts t → Facts (reply_finds t a v f).after
reply_by t a v absent e s = s
reply_by t a v (waits_at i) e s = let (h, w) = found_waits a t.lines i e in filling_facts t i a v s h w
reply_by t a v (holds u) e s = s

pub reply_facts : (t : Tables) (a v : ℕ) → Facts t → Facts (replied t a v).after
reply_facts t a v s = reply_by t a v (found a 0 t.lines) refl s
