-- What a place or a line is that the commands, the order, a list or a search names.
use Rattle.std.proofs.Common.{◌≡◌, ℕ, ◌<◌, ◌≤◌, Bool, true, false, cond, List, [], ◌∷◌, length, Some, None, Option, refl, ap, ◌∙◌, subst, arith, eq-eqb}
use borrow.Author.Tests.{clash}
use Rattle.std.specs.List.{slice_get}
use Rattle.rounds.specs.Rounds.{after, first_round, Searched}
use Rattle.rounds.proofs.Rounds.{after_below, found_below, counts_round}
use Rattle.lines.specs.Model.{Place, free, held, deferred, ready, Line, empty, waiting, filled, reading, Tables, place_at, line_at, read_of, word_of, waits, is_free, free_place, is_empty, is_filled, or_else, claimed, is_drawn}
use Rattle.lines.specs.Facts.{times, if_held, if_deferred, if_ready, Facts}
use Rattle.lines.proofs.Counts.{names, reads_removed, times-here, listed_within}
use Rattle.lines.proofs.Marks.{held_is, deferred_is, ready_is, free_is, marked_within}

-- a marked place is one of the 32
pub in_table : (t : Tables) (f : Place → ℕ) (p : ℕ) → Facts t → f free ≡ 0 → 1 ≤ f (place_at t p) → p < 32
in_table t f p s z h = let n = marked_within f t.places p z h in let l = s.all_places in omega arith

command_mark : (t : Tables) (k p : ℕ) → Facts t → slice_get t.commands k ≡ Some (reading p) → 1 ≤ if_held (place_at t p)
command_mark t k p s e =
    let r = reads_removed p k t.commands (reading p) e in
    let o : names p (reading p) ≡ 1 = ap (λ b. cond b 1 0) (eq-eqb p p refl) in
    let h = s.held_once p in
    omega arith

-- a read that is among the commands is held
pub command_held : (t : Tables) (k p : ℕ) → Facts t → slice_get t.commands k ≡ Some (reading p) → (p < 32) × (place_at t p ≡ held (read_of (place_at t p)))
command_held t k p s e = let m = command_mark t k p s e in (in_table t if_held p s refl m, held_is (place_at t p) m)

-- the first of the order is ready
pub order_ready : (t : Tables) (p : ℕ) (ps : List ℕ) → Facts t → t.order ≡ p ∷ ps → (p < 32) × (place_at t p ≡ ready (read_of (place_at t p)) (word_of (place_at t p)))
order_ready t p ps s e =
    let m : 1 ≤ if_ready (place_at t p) = (let a = s.ready_once p in let b = ap (times p) e in let c = times-here p ps in omega arith) in
    (in_table t if_ready p s refl m, ready_is (place_at t p) m)

-- a line lists only deferred places
pub listed_mark : (t : Tables) (i p : ℕ) → Facts t → times p (waits (line_at t i)) ≤ if_deferred (place_at t p)
listed_mark t i p s = let a = s.deferred_once p in let b = listed_within p t.lines i in omega arith

pub listed_deferred : (t : Tables) (i p : ℕ) → Facts t → 1 ≤ times p (waits (line_at t i)) → (p < 32) × (place_at t p ≡ deferred (read_of (place_at t p)))
listed_deferred t i p s h = let a = listed_mark t i p s in let m : 1 ≤ if_deferred (place_at t p) = omega arith in (in_table t if_deferred p s refl m, deferred_is (place_at t p) m)

abbrev if_drawn : Place → ℕ
if_drawn x = cond (is_drawn x) 1 0

pub drawn_within : (t : Tables) (p : ℕ) → Facts t → is_drawn (place_at t p) ≡ true → p < 32
drawn_within t p s e = let o : if_drawn (place_at t p) ≡ 1 = ap (λ b. cond b 1 0) e in in_table t if_drawn p s refl (omega arith)

-- the place that a read gets is free
pub free_is_free : (t : Tables) (p : ℕ) → Facts t → free_place t ≡ Some p → (p < 32) × (place_at t p ≡ free)
free_is_free t p s e =
    let test : ℕ → Bool = λ i. is_free (place_at t i) in
    let h = after_below 32 t.last s.last_place in (
      found_below test 32 (after 32 t.last) p h e,
      free_is (place_at t p) (subst (Searched test 32 (after 32 t.last)) e (counts_round test 32 (after 32 t.last) h)).passes,
    )

-- an empty or filled line has no places that wait
empty_idle : (l : Line) → is_empty l ≡ true → waits l ≡ []
empty_idle empty e = refl
empty_idle (waiting a ps) e = absurd (clash e)
empty_idle (filled a v) e = refl

filled_idle : (l : Line) → is_filled l ≡ true → waits l ≡ []
filled_idle empty e = refl
filled_idle (waiting a ps) e = absurd (clash e)
filled_idle (filled a v) e = refl

idle_by : (t : Tables) (test : Line → Bool) (i : ℕ) → Facts t → ((l : Line) → test l ≡ true → waits l ≡ [])
    → first_round (λ k. test (line_at t k)) (length t.lines) t.hand ≡ Some i → (i < length t.lines) × (waits (line_at t i) ≡ [])
idle_by t test i s idle e =
    let f : ℕ → Bool = λ k. test (line_at t k) in
    let n = length t.lines in
    (found_below f n t.hand i s.pointed e, idle (line_at t i) (subst (Searched f n t.hand) e (counts_round f n t.hand s.pointed)).passes)

claimed_by : (t : Tables) (i : ℕ) (o : Option ℕ) → Facts t → first_round (λ k. is_empty (line_at t k)) (length t.lines) t.hand ≡ o
    → or_else o (first_round (λ k. is_filled (line_at t k)) (length t.lines) t.hand) ≡ Some i → (i < length t.lines) × (waits (line_at t i) ≡ [])
claimed_by t i None s was e = idle_by t is_filled i s filled_idle e
claimed_by t i (Some k) s was e = idle_by t is_empty i s empty_idle (was ∙ e)

-- a line that is claimed has no places that wait
pub claimed_within : (t : Tables) (i : ℕ) → Facts t → claimed t ≡ Some i → (i < length t.lines) × (waits (line_at t i) ≡ [])
claimed_within t i s e = claimed_by t i _ s refl e

none_by : (t : Tables) (o : Option ℕ) → Facts t → first_round (λ k. is_empty (line_at t k)) (length t.lines) t.hand ≡ o
    → or_else o (first_round (λ k. is_filled (line_at t k)) (length t.lines) t.hand) ≡ None
    → (i : ℕ) → i < length t.lines → (is_empty (line_at t i) ≡ false) × (is_filled (line_at t i) ≡ false)
none_by t None s was e i h =
    let n = length t.lines in
    let f : ℕ → Bool = λ k. is_empty (line_at t k) in
    let g : ℕ → Bool = λ k. is_filled (line_at t k) in
    (subst (Searched f n t.hand) was (counts_round f n t.hand s.pointed) i h, subst (Searched g n t.hand) e (counts_round g n t.hand s.pointed) i h)
none_by t (Some k) s was e i h = let z : ◌≡◌ {A = ℕ} 0 1 = cc in absurd (omega arith)

-- no line is claimed only where every line waits
pub claimed_none : (t : Tables) → Facts t → claimed t ≡ None → (i : ℕ) → i < length t.lines → (is_empty (line_at t i) ≡ false) × (is_filled (line_at t i) ≡ false)
claimed_none t s e i h = none_by t _ s refl e i h
