-- The calls that move one place, or no place, keep the facts.
use Rattle.std.proofs.Common.{◌≡◌, ℕ, zero, suc, ◌<◌, ◌≤◌, Bool, true, false, cond, eqb, List, [], ◌∷◌, ◌++◌, length, get_or, set, replicate, Some, None, Option, sym, refl, ap, ◌∙◌, arith, ltb-true, eqb-true}
use Rattle.std.proofs.lemmas.List.{length-replicate, length-set}
use Rattle.std.proofs.lemmas.Bool.{cond_both}
use Rattle.lines.specs.Model.{Read, Place, free, held, ready, drawn, empty, Command, reading, writing, Tables, start, place_at, line_at, read_of, word_of, waits, writes, free_place, given, may_write, written, readying, drawing, is_drawn, freeing, finished, returned}
use Rattle.lines.specs.Facts.{times, reads_at, listed_at, lines_for, if_held, if_deferred, if_ready, line_address, is_idle, Facts}
use Rattle.lines.proofs.Counts.{get_d_set, times-append, reads_push, writes_push}
use Rattle.lines.proofs.Marks.{unmoved, comes, goes, drawn_is}
use Rattle.lines.proofs.Looks.{drawn_within, listed_mark, order_ready, free_is_free}

-- a new board
all_same : {X : Type 0} (x : X) (n k : ℕ) → get_or (replicate n x) k x ≡ x
all_same x zero k = refl
all_same x (suc n) zero = refl
all_same x (suc n) (suc k) = all_same x n k

none_listed : (p n : ℕ) → listed_at p (replicate n empty) ≡ 0
none_listed p zero = refl
none_listed p (suc n) = let h = none_listed p n in omega arith

none_for : (a n : ℕ) → lines_for a (replicate n empty) ≡ 0
none_for a zero = refl
none_for a (suc n) = let h = none_for a n in omega arith

none_waits : (p n i : ℕ) → times p (waits (get_or (replicate n empty) i empty)) ≡ 0
none_waits p n i = ap (λ l. times p (waits l)) (all_same empty n i)

pub start_facts : (n : ℕ) → 1 ≤ n → n ≤ 16 → Facts (start n)
start_facts n some few =
    let l = length-replicate n empty in
    record {
      one_line = λ a. omega (arith, none_for a n);
      deferred_once = λ p. none_listed p n ∙ sym (ap if_deferred (all_same free 32 p));
      at_its_line = λ i p h. absurd (omega (arith, none_waits p n i));
      never_idle = λ i. ap is_idle (all_same empty n i);
      held_once = λ p. sym (ap if_held (all_same free 32 p));
      ready_once = λ p. sym (ap if_ready (all_same free 32 p));
      few_writes = omega arith;
      all_places = length-replicate 32 free;
      some_lines = omega arith;
      few_lines = omega arith;
      last_place = omega arith;
      pointed = omega arith;
    }

-- a place that is not deferred may change: no line lists it
pub at_kept : (t : Tables) (p : ℕ) (x : Place) → Facts t → p < 32 → if_deferred (place_at t p) ≡ 0
    → (i k : ℕ) → 1 ≤ times k (waits (line_at t i)) → line_address (line_at t i) ≡ (read_of (get_or (set t.places p x) k free)).address
at_kept t p x s h z i k l = by (eqb p k) refl where
  by : (b : Bool) → eqb p k ≡ b → line_address (line_at t i) ≡ (read_of (get_or (set t.places p x) k free)).address
  by true e = let m = listed_mark t i k s in let q = ap (λ j. if_deferred (place_at t j)) (eqb-true p k e) in absurd (omega arith)
  by false e = s.at_its_line i k l ∙ ap (λ y. (read_of y).address) (sym (get_d_set free t.places p k x false e (let a = s.all_places in omega arith)))

-- a place is given, read, drawn, put back or freed: the lines stay
moved : (t : Tables) (p : ℕ) (x : Place) (cs : List Command) (last : ℕ) (order : List ℕ) → Facts t → p < 32 → if_deferred (place_at t p) ≡ 0 → if_deferred x ≡ 0
    → ((k : ℕ) → reads_at k cs ≡ if_held (get_or (set t.places p x) k free)) → ((k : ℕ) → times k order ≡ if_ready (get_or (set t.places p x) k free)) → writes cs ≤ 32 → last < 32
    → Facts (record { commands = cs; places = set t.places p x; last = last; lines = t.lines; hand = t.hand; order = order })
moved t p x cs last order s h was now reads readies few l =
    record {
      one_line = s.one_line;
      deferred_once = λ k. s.deferred_once k ∙ sym (unmoved if_deferred t.places p k x (let a = s.all_places in omega arith) (now ∙ sym was));
      at_its_line = at_kept t p x s h was;
      never_idle = s.never_idle;
      held_once = reads;
      ready_once = readies;
      few_writes = few;
      all_places = length-set t.places p x ∙ s.all_places;
      some_lines = s.some_lines;
      few_lines = s.few_lines;
      last_place = l;
      pointed = s.pointed;
    }

given_facts : (t : Tables) (q : Read) (o : Option ℕ) → free_place t ≡ o → Facts t → Facts (given t q o)
given_facts t q None e s = s
given_facts t q (Some p) e s =
    let (h, f) = free_is_free t p s e in
    let ps = t.places in
    let cs = t.commands in
    let in-ps : p < length ps = (let a = s.all_places in omega arith) in
    let w = writes_push cs (reading p) in
    moved t p (held q) (cs ++ reading p ∷ []) p t.order s h (ap if_deferred f) refl
    (λ k. let a = reads_push k cs (reading p) in let b = s.held_once k in let c = comes if_held ps p k (held q) in-ps (ap if_held f) refl in omega arith)
    (λ k. s.ready_once k ∙ sym (unmoved if_ready ps p k (held q) in-ps (sym (ap if_ready f))))
    (omega (arith, s.few_writes)) h

pub read_facts : (t : Tables) (q : Read) → Facts t → Facts (given t q (free_place t))
read_facts t q s = given_facts t q (free_place t) refl s

pub write_facts : (t : Tables) (a v : ℕ) → may_write t ≡ true → Facts t → Facts (written t a v)
write_facts t a v e s =
    let cs = t.commands in
    let l = ltb-true (writes cs) 32 e in
    let w = writes_push cs (writing a v) in
    record {
      one_line = s.one_line;
      deferred_once = s.deferred_once;
      at_its_line = s.at_its_line;
      never_idle = s.never_idle;
      held_once = λ k. let r = reads_push k cs (writing a v) in let h = s.held_once k in omega arith;
      ready_once = s.ready_once;
      few_writes = omega arith;
      all_places = s.all_places;
      some_lines = s.some_lines;
      few_lines = s.few_lines;
      last_place = s.last_place;
      pointed = s.pointed;
    }

pub maybe_written_facts : (t : Tables) (a v : ℕ) → Facts t → Facts (cond (may_write t) (written t a v) t)
maybe_written_facts t a v s = cond_both (may_write t) (written t a v) t Facts (λ may. write_facts t a v may s) (λ full. s)

-- a drawn place is freed, or ready again
freed_facts : (t : Tables) (p : ℕ) → Facts t → p < 32 → place_at t p ≡ drawn (read_of (place_at t p)) (word_of (place_at t p)) → Facts (freeing t p)
freed_facts t p s h e =
    let ps = t.places in
    let in-ps : p < length ps = (let a = s.all_places in omega arith) in
    moved t p free t.commands t.last t.order s h (ap if_deferred e) refl
    (λ k. s.held_once k ∙ sym (unmoved if_held ps p k free in-ps (sym (ap if_held e))))
    (λ k. s.ready_once k ∙ sym (unmoved if_ready ps p k free in-ps (sym (ap if_ready e))))
    s.few_writes s.last_place

-- a place that is drawn, or held by a command that is used up, becomes ready
pub readied : (t : Tables) (p : ℕ) (q : Read) (v : ℕ) (cs : List Command) → Facts t → p < 32 → if_deferred (place_at t p) ≡ 0 → if_ready (place_at t p) ≡ 0
    → ((k : ℕ) → reads_at k cs ≡ if_held (get_or (set t.places p (ready q v)) k free)) → writes cs ≤ 32
    → Facts (record { commands = cs; places = set t.places p (ready q v); last = t.last; lines = t.lines; hand = t.hand; order = t.order ++ p ∷ [] })
readied t p q v cs s h d r reads few =
    let ps = t.places in
    let in-ps : p < length ps = (let a = s.all_places in omega arith) in
    moved t p (ready q v) cs t.last (t.order ++ p ∷ []) s h d refl reads
    (λ k. let a = times-append k t.order (p ∷ []) in let b = s.ready_once k in let c = comes if_ready ps p k (ready q v) in-ps r refl in omega arith)
    few s.last_place

returned_facts : (t : Tables) (p : ℕ) → Facts t → p < 32 → place_at t p ≡ drawn (read_of (place_at t p)) (word_of (place_at t p))
    → Facts (readying t p (read_of (place_at t p)) (word_of (place_at t p)))
returned_facts t p s h e =
    let x = ready (read_of (place_at t p)) (word_of (place_at t p)) in
    readied t p (read_of (place_at t p)) (word_of (place_at t p)) t.commands s h (ap if_deferred e) (ap if_ready e)
    (λ k. s.held_once k ∙ sym (unmoved if_held t.places p k x (let a = s.all_places in omega arith) (sym (ap if_held e)))) s.few_writes

pub finish_facts : (t : Tables) (p : ℕ) → Facts t → Facts (finished t p)
finish_facts t p s =
    cond_both (is_drawn (place_at t p)) (freeing t p) t Facts (λ e. freed_facts t p s (drawn_within t p s e) (drawn_is (place_at t p) e)) (λ e. s)

pub put_back_facts : (t : Tables) (p : ℕ) → Facts t → Facts (returned t p)
put_back_facts t p s =
    cond_both (is_drawn (place_at t p)) (readying t p (read_of (place_at t p)) (word_of (place_at t p))) t Facts
    (λ e. returned_facts t p s (drawn_within t p s e) (drawn_is (place_at t p) e)) (λ e. s)

drawing_facts : (t : Tables) (order : List ℕ) → t.order ≡ order → Facts t → Facts (drawing t order)
drawing_facts t [] e s = s
drawing_facts t (p ∷ rest) e s =
    let (h, r) = order_ready t p rest s e in
    let ps = t.places in
    let in-ps : p < length ps = (let a = s.all_places in omega arith) in
    let x = drawn (read_of (place_at t p)) (word_of (place_at t p)) in
    moved t p x t.commands t.last rest s h (ap if_deferred r) refl
    (λ k. s.held_once k ∙ sym (unmoved if_held ps p k x in-ps (sym (ap if_held r))))
    (λ k. let a = ap (times k) e in let b = s.ready_once k in let c = goes if_ready ps p k x in-ps (ap if_ready r) refl in omega arith)
    s.few_writes s.last_place

pub draw_facts : (t : Tables) → Facts t → Facts (drawing t t.order)
draw_facts t s = drawing_facts t t.order refl s
