-- An act on a command keeps the facts.
use Rattle.std.proofs.Common.{◌≡◌, ℕ, ◌+◌, ◌-◌, ◌<◌, ◌≤◌, Bool, true, false, cond, eqb, leb, List, [], ◌∷◌, ◌++◌, length, get_or, set, Some, None, Option, sym, refl, ap, ◌∙◌, subst, arith, eqb-true}
use Rattle.std.specs.List.{slice_get, remove}
use Rattle.std.proofs.lemmas.List.{length-set}
use Rattle.std.proofs.lemmas.Bool.{cond_both}
use Rattle.rounds.specs.Rounds.{after}
use Rattle.rounds.proofs.Rounds.{after_below}
use Rattle.lines.specs.Model.{Place, free, deferred, ready, Line, waiting, filled, Command, reading, writing, Tables, place_at, line_at, read_of, waits, claimed, filling, Found, absent, waits_at, holds, found, network_full, refused, used, joined, readying, read_claims, read_finds, filling_new, write_finds, act_on, acted}
use Rattle.lines.specs.Facts.{times, for_address, lines_for, if_held, if_deferred, if_ready, line_address, is_idle, Facts}
use Rattle.lines.proofs.Counts.{get_d_set, each_line, times-append, reads_removed, writes_removed, listed_set, lines_for_set}
use Rattle.lines.proofs.Marks.{unmoved, comes, goes}
use Rattle.lines.proofs.Finds.{found_waits, found_absent}
use Rattle.lines.proofs.Looks.{command_held, claimed_within}
use Rattle.lines.proofs.Keeps.{at_kept, readied}
use Rattle.lines.proofs.Wakes.{filling_facts}

-- a line takes an address that no line has
one_for : (a : ℕ) (ls : List Line) (i : ℕ) (l : Line) → i < length ls → lines_for a ls ≡ 0 → ((b : ℕ) → for_address b l ≡ cond (eqb a b) 1 0) → ((b : ℕ) → lines_for b ls ≤ 1)
    → (b : ℕ) → lines_for b (set ls i l) ≤ 1
one_for a ls i l h none fresh one b = by (eqb a b) refl where
  by : (c : Bool) → eqb a b ≡ c → lines_for b (set ls i l) ≤ 1
  by true e =
      let g = lines_for_set b ls i l h in
      let f : for_address b l ≡ 1 = fresh b ∙ ap (λ c. cond c 1 0) e in
      let z : lines_for b ls ≡ 0 = ap (λ c. lines_for c ls) (sym (eqb-true a b e)) ∙ none in
      omega arith
  by false e =
      let g = lines_for_set b ls i l h in
      let f : for_address b l ≡ 0 = fresh b ∙ ap (λ c. cond c 1 0) e in
      let z = one b in
      omega arith

-- a write is used up
used_facts : (t : Tables) (k a v : ℕ) → slice_get t.commands k ≡ Some (writing a v) → Facts t → Facts (used t k)
used_facts t k a v e s =
    let w = writes_removed k t.commands (writing a v) e in
    record {
      one_line = s.one_line;
      deferred_once = s.deferred_once;
      at_its_line = s.at_its_line;
      never_idle = s.never_idle;
      held_once = λ j. let r = reads_removed j k t.commands (writing a v) e in let h = s.held_once j in omega arith;
      ready_once = s.ready_once;
      few_writes = omega (arith, s.few_writes);
      all_places = s.all_places;
      some_lines = s.some_lines;
      few_lines = s.few_lines;
      last_place = s.last_place;
      pointed = s.pointed;
    }

new_facts : (t : Tables) (a v : ℕ) (o : Option ℕ) → claimed t ≡ o → lines_for a t.lines ≡ 0 → Facts t → Facts (filling_new t a v o)
new_facts t a v None c none s = s
new_facts t a v (Some i) c none s =
    let (h, idle) = claimed_within t i s c in
    let ls = t.lines in
    let l = length-set ls i (filled a v) in
    let below = after_below (length ls) i h in
    record {
      one_line = one_for a ls i (filled a v) h none (λ b. refl) s.one_line;
      deferred_once = λ k. let g = listed_set k ls i (filled a v) h in let z : times k (waits (line_at t i)) ≡ 0 = ap (times k) idle in let d = s.deferred_once k in omega arith;
      at_its_line = each_line (λ x. (k : ℕ) → 1 ≤ times k (waits x) → line_address x ≡ (read_of (place_at t k)).address) ls i (filled a v) h (λ k o. absurd (omega arith)) s.at_its_line;
      never_idle = each_line (λ x. is_idle x ≡ false) ls i (filled a v) h refl s.never_idle;
      held_once = s.held_once;
      ready_once = s.ready_once;
      few_writes = s.few_writes;
      all_places = s.all_places;
      some_lines = omega (arith, s.some_lines);
      few_lines = omega (arith, s.few_lines);
      last_place = s.last_place;
      pointed = omega arith;
    }

new_commands : (t : Tables) (a v : ℕ) (o : Option ℕ) → (filling_new t a v o).commands ≡ t.commands
new_commands t a v None = refl
new_commands t a v (Some i) = refl

write_by : (n : ℕ) (t : Tables) (k a v load limit : ℕ) (f : Found) → found a 0 t.lines ≡ f → slice_get t.commands k ≡ Some (writing a v) → Facts t → Facts (write_finds n t k a v load limit f).after
write_by n t k a v load limit absent e c s =
    let new = filling_new t a v (claimed t) in
    cond_both (leb limit load) (refused t (network_full a)) _ (λ st. Facts st.after) (λ z. s)
    (λ z. used_facts new k a v (ap (λ cs. slice_get cs k) (new_commands t a v (claimed t)) ∙ c) (new_facts t a v (claimed t) refl (found_absent a t.lines e) s))
write_by n t k a v load limit (waits_at i) e c s =
    let (h, w) = found_waits a t.lines i e in
    cond_both (leb limit load) (refused t (network_full a)) _ (λ st. Facts st.after) (λ z. s) (λ z. used_facts (filling t i a v) k a v c (filling_facts t i a v s h w))
write_by n t k a v load limit (holds u) e c s = used_facts t k a v c s

-- a held place goes to the end of line i's list
abbrev defers : Tables → ℕ → ℕ → ℕ → Line → ℕ → Tables
defers t k p i l hand = record { commands = remove t.commands k; places = set t.places p (deferred (read_of (place_at t p))); last = t.last; lines = set t.lines i l; hand = hand; order = t.order }

longer_not_idle : (a : ℕ) (ws : List ℕ) (p : ℕ) → is_idle (waiting a (ws ++ p ∷ [])) ≡ false
longer_not_idle a [] p = refl
longer_not_idle a (w ∷ ws) p = refl

-- those that waited at the line stay at their address, and p is at its own
joined_at : (t : Tables) (p i a : ℕ) (x : Place) → Facts t → p < 32 → if_deferred (place_at t p) ≡ 0 → (read_of x).address ≡ a
    → ((k : ℕ) → 1 ≤ times k (waits (line_at t i)) → line_address (line_at t i) ≡ a)
    → (k : ℕ) → 1 ≤ times k (waits (line_at t i) ++ p ∷ []) → a ≡ (read_of (get_or (set t.places p x) k free)).address
joined_at t p i a x s h z own others k o = by (eqb p k) refl (let g = times-append k (waits (line_at t i)) (p ∷ []) in omega arith) where
  by : (b : Bool) → eqb p k ≡ b → 1 ≤ times k (waits (line_at t i)) + cond b 1 0 → a ≡ (read_of (get_or (set t.places p x) k free)).address
  by true e l = sym own ∙ ap (λ y. (read_of y).address) (sym (get_d_set free t.places p k x true e (let n = s.all_places in omega arith)))
  by false e l =
      let one : 1 ≤ times k (waits (line_at t i)) = omega arith in
      sym (others k one) ∙ at_kept t p x s h z i k one

defers_facts : (t : Tables) (k p i : ℕ) (l : Line) (hand : ℕ) → slice_get t.commands k ≡ Some (reading p) → i < length t.lines → hand < length t.lines
    → l ≡ waiting (read_of (place_at t p)).address (waits (line_at t i) ++ p ∷ [])
    → ((j : ℕ) → 1 ≤ times j (waits (line_at t i)) → line_address (line_at t i) ≡ (read_of (place_at t p)).address)
    → ((b : ℕ) → lines_for b (set t.lines i l) ≤ 1) → Facts t → Facts (defers t k p i l hand)
defers_facts t k p i l hand c h g is others one s =
    let (in-32, e) = command_held t k p s c in
    let q = read_of (place_at t p) in
    let ps = t.places in
    let ls = t.lines in
    let cs = t.commands in
    let in-ps : p < length ps = (let a = s.all_places in omega arith) in
    let x = deferred q in
    let new = waiting q.address (waits (line_at t i) ++ p ∷ []) in
    let len = length-set ls i l in
    let w = writes_removed k cs (reading p) c in
    record {
      one_line = one;
      deferred_once = λ j.
          let a = listed_set j ls i l h in
          let b = ap (λ m. times j (waits m)) is in
          let d = times-append j (waits (line_at t i)) (p ∷ []) in
          let f = s.deferred_once j in
          let m = comes if_deferred ps p j x in-ps (ap if_deferred e) refl in
          omega arith;
      at_its_line = each_line (λ m. (j : ℕ) → 1 ≤ times j (waits m) → line_address m ≡ (read_of (get_or (set ps p x) j free)).address) ls i l h
          (subst (λ m. (j : ℕ) → 1 ≤ times j (waits m) → line_address m ≡ (read_of (get_or (set ps p x) j free)).address) (sym is)
          (joined_at t p i q.address x s in-32 (ap if_deferred e) refl others))
          (at_kept t p x s in-32 (ap if_deferred e));
      never_idle = each_line (λ m. is_idle m ≡ false) ls i l h (ap is_idle is ∙ longer_not_idle q.address (waits (line_at t i)) p) s.never_idle;
      held_once = λ j. let r = reads_removed j k cs (reading p) c in let f = s.held_once j in let m = goes if_held ps p j x in-ps (ap if_held e) refl in omega arith;
      ready_once = λ j. s.ready_once j ∙ sym (unmoved if_ready ps p j x in-ps (sym (ap if_ready e)));
      few_writes = omega (arith, s.few_writes);
      all_places = length-set ps p x ∙ s.all_places;
      some_lines = omega (arith, s.some_lines);
      few_lines = omega (arith, s.few_lines);
      last_place = s.last_place;
      pointed = omega arith;
    }

claims_by : (n : ℕ) (t : Tables) (k p load limit : ℕ) (o : Option ℕ) → claimed t ≡ o → lines_for (read_of (place_at t p)).address t.lines ≡ 0 → slice_get t.commands k ≡ Some (reading p)
    → Facts t → Facts (read_claims n t k p (read_of (place_at t p)) load limit o).after
claims_by n t k p load limit None f none c s = s
claims_by n t k p load limit (Some i) f none c s =
    let a = (read_of (place_at t p)).address in
    let (h, idle) = claimed_within t i s f in
    let l = waiting a (p ∷ []) in
    cond_both (leb (limit - 1) load) (refused t (network_full a)) _ (λ st. Facts st.after) (λ z. s)
    (λ z. defers_facts t k p i l (after (length t.lines) i) c h (after_below (length t.lines) i h) (ap (λ ws. waiting a (ws ++ p ∷ [])) (sym idle))
    (λ j o. let q = ap (times j) idle in absurd (omega arith)) (one_for a t.lines i l h none (λ b. refl) s.one_line) s)

joins_facts : (t : Tables) (k p i : ℕ) → found (read_of (place_at t p)).address 0 t.lines ≡ waits_at i → slice_get t.commands k ≡ Some (reading p) → Facts t
    → Facts (defers t k p i (joined p (line_at t i)) t.hand)
joins_facts t k p i f c s =
    let a = (read_of (place_at t p)).address in
    let (h, w) = found_waits a t.lines i f in
    let l : joined p (line_at t i) ≡ waiting a (waits (line_at t i) ++ p ∷ []) = ap (joined p) w in
    defers_facts t k p i (joined p (line_at t i)) t.hand c h s.pointed l (λ j o. ap line_address w)
    (λ b.
    let g = lines_for_set b t.lines i (joined p (line_at t i)) h in
    let new : for_address b (joined p (line_at t i)) ≡ cond (eqb a b) 1 0 = ap (for_address b) l in
    let old : for_address b (line_at t i) ≡ cond (eqb a b) 1 0 = ap (for_address b) w in
    let o = s.one_line b in
    omega arith) s

holds_facts : (t : Tables) (k p v : ℕ) → slice_get t.commands k ≡ Some (reading p) → Facts t → Facts (used (readying t p (read_of (place_at t p)) v) k)
holds_facts t k p v c s =
    let (h, e) = command_held t k p s c in
    let q = read_of (place_at t p) in
    let w = writes_removed k t.commands (reading p) c in
    readied t p q v (remove t.commands k) s h (ap if_deferred e) (ap if_ready e)
    (λ j.
    let r = reads_removed j k t.commands (reading p) c in
    let f = s.held_once j in
    let m = goes if_held t.places p j (ready q v) (let a = s.all_places in omega arith) (ap if_held e) refl in
    omega arith)
    (omega (arith, s.few_writes))

read_by : (n : ℕ) (t : Tables) (k p load limit : ℕ) (f : Found) → found (read_of (place_at t p)).address 0 t.lines ≡ f → slice_get t.commands k ≡ Some (reading p)
    → Facts t → Facts (read_finds n t k p (read_of (place_at t p)) load limit f).after
read_by n t k p load limit absent f c s = claims_by n t k p load limit (claimed t) refl (found_absent (read_of (place_at t p)).address t.lines f) c s
read_by n t k p load limit (waits_at i) f c s = joins_facts t k p i f c s
read_by n t k p load limit (holds v) f c s = holds_facts t k p v c s

act_by : (n : ℕ) (t : Tables) (k load limit : ℕ) (o : Option Command) → slice_get t.commands k ≡ o → Facts t → Facts (act_on n t k load limit o).after
act_by n t k load limit None c s = s
act_by n t k load limit (Some (reading p)) c s = read_by n t k p load limit (found (read_of (place_at t p)).address 0 t.lines) refl c s
act_by n t k load limit (Some (writing a v)) c s = write_by n t k a v load limit (found a 0 t.lines) refl c s

pub act_facts : (n : ℕ) (t : Tables) (k load limit : ℕ) → Facts t → Facts (acted n t k load limit).after
act_facts n t k load limit s = act_by n t k load limit (slice_get t.commands k) refl s
