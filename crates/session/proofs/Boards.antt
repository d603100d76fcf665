-- Which places of a board are drawn after each of its calls.
use Rattle.std.proofs.Common.{◌≡◌, ℕ, zero, suc, ◌<◌, Bool, true, false, cond, eqb, leb, List, ◌∷◌, length, get_or, set, Some, None, Option, sym, refl, ap, ◌∙◌, arith}
use Rattle.std.specs.List.{slice_get}
use Rattle.std.proofs.lemmas.List.{get_or-set_same}
use Rattle.std.proofs.lemmas.Bool.{cond-true}
use Rattle.lines.specs.Model.{Read, Place, free, held, deferred, ready, drawn, Command, reading, writing, Tables, start, place_at, line_at, read_of, word_of, waits, free_place, given, Found, absent, waits_at, holds, found, claimed, woken, filling, reply_finds, replied, Step, filling_new, read_claims, read_finds, write_finds, act_on, acted, drawing, is_drawn, finished, returned}
use Rattle.lines.specs.Facts.{Facts, times}
use Rattle.lines.proofs.Looks.{command_held, order_ready, listed_deferred, free_is_free}
use Rattle.lines.proofs.Wakes.{woken_other, woken_here}
use Rattle.session.proofs.Lists.{set_alike, set_marks, set_default, of_replicate}

abbrev pub drawn_in : Tables → ℕ → Bool
drawn_in t p = is_drawn (place_at t p)

-- the same places are drawn
abbrev pub Alike : Tables → Tables → Type 0
Alike t u = (p : ℕ) → drawn_in u p ≡ drawn_in t p

pub start_undrawn : (l p : ℕ) → drawn_in (start l) p ≡ false
start_undrawn l p = of_replicate (λ x. is_drawn x ≡ false) 32 free free p refl refl

put : (t : Tables) (p : ℕ) (x : Place) → is_drawn x ≡ is_drawn (place_at t p) → (j : ℕ) → is_drawn (get_or (set t.places p x) j free) ≡ drawn_in t j
put t p x e j = set_alike is_drawn free t.places p x j e

pub given_alike : (t : Tables) (q : Read) (p : ℕ) → Facts t → free_place t ≡ Some p → Alike t (given t q (Some p))
given_alike t q p s e = put t p (held q) (sym (ap is_drawn (free_is_free t p s e).1))

woken_by : (t : Tables) (i v k m : ℕ) → times k (waits (line_at t i)) ≡ m → Facts t → is_drawn (get_or (woken v t.places (waits (line_at t i))) k free) ≡ drawn_in t k
woken_by t i v k zero e s = ap is_drawn (woken_other v t.places (waits (line_at t i)) k e)
woken_by t i v k (suc m) e s =
    let (h, d) = listed_deferred t i k s (omega arith) in
    let a = s.all_places in
    ap is_drawn (woken_here v t.places (waits (line_at t i)) k (omega arith) (omega arith)) ∙ sym (ap is_drawn d)

filling_alike : (t : Tables) (i a v : ℕ) → Facts t → Alike t (filling t i a v)
filling_alike t i a v s k = woken_by t i v k (times k (waits (line_at t i))) refl s

reply_alike : (t : Tables) (a v : ℕ) (f : Found) → Facts t → Alike t (reply_finds t a v f).after
reply_alike t a v absent s p = refl
reply_alike t a v (waits_at i) s p = filling_alike t i a v s p
reply_alike t a v (holds u) s p = refl

pub replied_alike : (t : Tables) (a v : ℕ) → Facts t → Alike t (replied t a v).after
replied_alike t a v s = reply_alike t a v (found a 0 t.lines) s

-- whichever way a test goes
step_cond : (t : Tables) (b : Bool) (x y : Step) → Alike t x.after → Alike t y.after → Alike t (cond b x y).after
step_cond t true x y h k = h
step_cond t false x y h k = k

claims_alike : (n : ℕ) (t : Tables) (k p : ℕ) (q : Read) (load limit : ℕ) (o : Option ℕ) → is_drawn (place_at t p) ≡ false → Alike t (read_claims n t k p q load limit o).after
claims_alike n t k p q load limit None e = λ j. refl
claims_alike n t k p q load limit (Some i) e = step_cond t (leb _ load) _ _ (λ j. refl) (put t p (deferred q) (sym e))

read_alike : (n : ℕ) (t : Tables) (k p : ℕ) (q : Read) (load limit : ℕ) (f : Found) → is_drawn (place_at t p) ≡ false → Alike t (read_finds n t k p q load limit f).after
read_alike n t k p q load limit absent e = claims_alike n t k p q load limit (claimed t) e
read_alike n t k p q load limit (waits_at i) e = put t p (deferred q) (sym e)
read_alike n t k p q load limit (holds v) e = put t p (ready q v) (sym e)

new_alike : (t : Tables) (a v : ℕ) (o : Option ℕ) → Alike t (filling_new t a v o)
new_alike t a v None p = refl
new_alike t a v (Some i) p = refl

write_alike : (n : ℕ) (t : Tables) (k a v load limit : ℕ) (f : Found) → Facts t → Alike t (write_finds n t k a v load limit f).after
write_alike n t k a v load limit absent s = step_cond t (leb limit load) _ _ (λ j. refl) (new_alike t a v (claimed t))
write_alike n t k a v load limit (waits_at i) s = step_cond t (leb limit load) _ _ (λ j. refl) (filling_alike t i a v s)
write_alike n t k a v load limit (holds u) s = λ p. refl

act_alike : (n : ℕ) (t : Tables) (k load limit : ℕ) (o : Option Command) → slice_get t.commands k ≡ o → Facts t → Alike t (act_on n t k load limit o).after
act_alike n t k load limit None e s = λ p. refl
act_alike n t k load limit (Some (reading p)) e s =
    read_alike n t k p (read_of (place_at t p)) load limit (found (read_of (place_at t p)).address 0 t.lines) (ap is_drawn (command_held t k p s e).1)
act_alike n t k load limit (Some (writing a v)) e s = write_alike n t k a v load limit (found a 0 t.lines) s

pub acted_alike : (n : ℕ) (t : Tables) (k load limit : ℕ) → Facts t → Alike t (acted n t k load limit).after
acted_alike n t k load limit s = act_alike n t k load limit (slice_get t.commands k) refl s

-- the place p has the mark b now, the others theirs
abbrev pub Marked : Tables → ℕ → Bool → Tables → Type 0
Marked t p b u = (j : ℕ) → drawn_in u j ≡ cond (eqb p j) b (drawn_in t j)

pub drawing_marks : (t : Tables) (p : ℕ) (ps : List ℕ) → Facts t → t.order ≡ p ∷ ps → Marked t p true (drawing t t.order)
drawing_marks t p ps s o j =
    let x = drawn (read_of (place_at t p)) (word_of (place_at t p)) in
    let lt : p < length t.places = omega (arith, s.all_places, (order_ready t p ps s o).0) in
    ap (λ os. drawn_in (drawing t os) j) o ∙ set_marks is_drawn free t.places p x j true (ap is_drawn (get_or-set_same t.places p x free lt))

cleared : (t : Tables) (p : ℕ) (x : Place) → is_drawn x ≡ false → (j : ℕ) → is_drawn (get_or (set t.places p x) j free) ≡ cond (eqb p j) false (drawn_in t j)
cleared t p x e j = set_marks is_drawn free t.places p x j false (set_default is_drawn free t.places p x e)

pub finished_marks : (t : Tables) (p : ℕ) → drawn_in t p ≡ true → Marked t p false (finished t p)
finished_marks t p e j = ap (λ u. drawn_in u j) (cond-true (is_drawn (place_at t p)) _ _ e) ∙ cleared t p free refl j

pub returned_marks : (t : Tables) (p : ℕ) → drawn_in t p ≡ true → Marked t p false (returned t p)
returned_marks t p e j =
    ap (λ u. drawn_in u j) (cond-true (is_drawn (place_at t p)) _ _ e) ∙ cleared t p (ready (read_of (place_at t p)) (word_of (place_at t p))) refl j
