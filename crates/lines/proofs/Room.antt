-- No table overflows.
use Rattle.std.proofs.Common.{◌≡◌, ℕ, ◌+◌, ◌<◌, ◌≤◌, Bool, true, false, cond, eqb, List, [], ◌∷◌, ◌++◌, length, get_or, Some, refl, ap, arith, length-append, ltb-true, eqb-true}
use Rattle.std.specs.List.{slice_get}
use Rattle.std.proofs.lemmas.List.{get_or_past}
use Rattle.lines.specs.Model.{Place, free, Command, reading, writing, Tables, place_at, line_at, waits, writes, free_place, may_write, is_drawn}
use Rattle.lines.specs.Facts.{times, reads_at, if_held, if_deferred, if_ready, Facts}
use Rattle.lines.proofs.Counts.{times-append}
use Rattle.lines.proofs.Pigeons.{pigeon}
use Rattle.lines.proofs.Marks.{one_state, drawn_is}
use Rattle.lines.proofs.Looks.{drawn_within, free_is_free, command_held, listed_mark}

-- a list that names marked places, each once, is no longer than the table
few : (f : Place → ℕ) (ps : List Place) (xs : List ℕ) → f free ≡ 0 → ((x : Place) → f x ≤ 1) → ((k : ℕ) → times k xs ≤ f (get_or ps k free)) → length xs ≤ length ps
few f ps xs z one c =
    pigeon (length ps) xs
    (λ k. let a = c k in let b = one (get_or ps k free) in omega arith)
    (λ k l. let a = c k in let b = ap f (get_or_past ps k free l) in omega arith)

-- and shorter than that where a place is not marked
room : (f : Place → ℕ) (ps : List Place) (xs : List ℕ) (p : ℕ) → f free ≡ 0 → ((x : Place) → f x ≤ 1) → ((k : ℕ) → times k xs ≤ f (get_or ps k free))
    → f (get_or ps p free) ≡ 0 → p < length ps → length xs < length ps
room f ps xs p z one c n h = pigeon (length ps) (p ∷ xs) (λ k. once k (eqb p k) refl) (λ k l. out k (eqb p k) refl l) where
  once : (k : ℕ) (b : Bool) → eqb p k ≡ b → cond b 1 0 + times k xs ≤ 1
  once k true e = let a = c k in let b = ap (λ j. f (get_or ps j free)) (eqb-true p k e) in omega arith
  once k false e = let a = c k in let b = one (get_or ps k free) in omega arith

  out : (k : ℕ) (b : Bool) → eqb p k ≡ b → length ps ≤ k → cond b 1 0 + times k xs ≡ 0
  out k true e l = let q = eqb-true p k e in absurd (omega arith)
  out k false e l = let a = c k in let b = ap f (get_or_past ps k free l) in omega arith

-- the places that the commands name
reads : List Command → List ℕ
reads [] = []
reads (reading p ∷ cs) = p ∷ reads cs
reads (writing a v ∷ cs) = reads cs

times-reads : (k : ℕ) (cs : List Command) → times k (reads cs) ≡ reads_at k cs
unfolding reads
times-reads k [] = refl
times-reads k (reading p ∷ cs) = let h = times-reads k cs in omega arith
times-reads k (writing a v ∷ cs) = times-reads k cs

length-commands : (cs : List Command) → length cs ≡ length (reads cs) + writes cs
unfolding reads
length-commands [] = refl
length-commands (reading p ∷ cs) = let h = length-commands cs in omega arith
length-commands (writing a v ∷ cs) = let h = length-commands cs in omega arith

one_held : (x : Place) → if_held x ≤ 1
one_held x = omega (arith, one_state x)

one_deferred : (x : Place) → if_deferred x ≤ 1
one_deferred x = omega (arith, one_state x)

one_ready : (x : Place) → if_ready x ≤ 1
one_ready x = omega (arith, one_state x)

read_marks : (t : Tables) → Facts t → (k : ℕ) → times k (reads t.commands) ≤ if_held (place_at t k)
read_marks t s k = let a = times-reads k t.commands in let b = s.held_once k in omega arith

reads_few : (t : Tables) → Facts t → length (reads t.commands) ≤ 32
reads_few t s = let a = few if_held t.places (reads t.commands) refl one_held (read_marks t s) in let b = s.all_places in omega arith

pub commands_few : (t : Tables) → Facts t → length t.commands ≤ 64
commands_few t s = let a = reads_few t s in let b = length-commands t.commands in let c = s.few_writes in omega arith

pub read_room : (t : Tables) (p : ℕ) → Facts t → free_place t ≡ Some p → length t.commands < 64
read_room t p s e =
    let (h, w) = free_is_free t p s e in
    let l = s.all_places in
    let a = room if_held t.places (reads t.commands) p refl one_held (read_marks t s) (ap if_held w) (omega arith) in
    let b = length-commands t.commands in
    let c = s.few_writes in
    omega arith

pub write_room : (t : Tables) → Facts t → may_write t ≡ true → length t.commands < 64
write_room t s e =
    let a = reads_few t s in
    let b = length-commands t.commands in
    let c = ltb-true (writes t.commands) 32 e in
    omega arith

order_marks : (t : Tables) → Facts t → (k : ℕ) → times k t.order ≤ if_ready (place_at t k)
order_marks t s k = let b = s.ready_once k in omega arith

pub order_few : (t : Tables) → Facts t → length t.order ≤ 32
order_few t s = let a = few if_ready t.places t.order refl one_ready (order_marks t s) in let b = s.all_places in omega arith

pub order_room : (t : Tables) (p : ℕ) → Facts t → if_ready (place_at t p) ≡ 0 → p < 32 → length t.order < 32
order_room t p s e h =
    let l = s.all_places in
    let a = room if_ready t.places t.order p refl one_ready (order_marks t s) e (omega arith) in
    omega arith

pub list_few : (t : Tables) (i : ℕ) → Facts t → length (waits (line_at t i)) ≤ 32
list_few t i s = let a = few if_deferred t.places (waits (line_at t i)) refl one_deferred (λ j. listed_mark t i j s) in let b = s.all_places in omega arith

pub list_room : (t : Tables) (i k p : ℕ) → Facts t → slice_get t.commands k ≡ Some (reading p) → length (waits (line_at t i)) < 32
list_room t i k p s e =
    let (h, w) = command_held t k p s e in
    let l = s.all_places in
    let a = room if_deferred t.places (waits (line_at t i)) p refl one_deferred (λ j. listed_mark t i j s) (ap if_deferred w) (omega arith) in
    omega arith

-- a whole list comes behind the ready places
pub wake_room : (t : Tables) (i : ℕ) → Facts t → length t.order + length (waits (line_at t i)) ≤ 32
wake_room t i s =
    let f : Place → ℕ = λ x. if_deferred x + if_ready x in
    let ws = waits (line_at t i) in
    let marks : (k : ℕ) → times k (t.order ++ ws) ≤ f (place_at t k)
    = λ k. let a = times-append k t.order ws in let b = order_marks t s k in let c = listed_mark t i k s in omega arith in
    let a = few f t.places (t.order ++ ws) refl (λ x. omega (arith, one_state x)) marks in
    let b = length-append t.order ws in
    let c = s.all_places in
    omega arith

-- a drawn place is not in the order yet
pub drawn_room : (t : Tables) (p : ℕ) → Facts t → is_drawn (place_at t p) ≡ true → length t.order < 32
drawn_room t p s e =
    order_room t p s (ap if_ready (drawn_is (place_at t p) e)) (drawn_within t p s e)

-- a held place is not in the order yet
pub held_room : (t : Tables) (k p : ℕ) → Facts t → slice_get t.commands k ≡ Some (reading p) → length t.order < 32
held_room t k p s e = let (h, w) = command_held t k p s e in order_room t p s (ap if_ready w) h
