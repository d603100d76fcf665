-- The marks of the places: what a write of one place changes of them.
use Rattle.std.proofs.Common.{◌≡◌, ℕ, zero, suc, ◌+◌, ◌<◌, ◌≤◌, Bool, true, false, cond, eqb, List, [], ◌∷◌, length, get_or, set, sym, refl, ap, ◌∙◌, arith, eqb-true}
use borrow.Author.Tests.{clash}
use Rattle.lines.specs.Model.{Place, free, held, deferred, ready, drawn, read_of, word_of, is_free, is_drawn}
use Rattle.lines.specs.Facts.{if_held, if_deferred, if_ready}
use Rattle.lines.proofs.Counts.{get_d_set}

was : (f : Place → ℕ) (ps : List Place) (p k : ℕ) → eqb p k ≡ true → f (get_or ps k free) ≡ f (get_or ps p free)
was f ps p k e = ap (λ j. f (get_or ps j free)) (sym (eqb-true p k e))

-- the mark at p stays, comes, or goes
pub unmoved : (f : Place → ℕ) (ps : List Place) (p k : ℕ) (x : Place) → p < length ps → f x ≡ f (get_or ps p free) → f (get_or (set ps p x) k free) ≡ f (get_or ps k free)
unmoved f ps p k x h s = by (eqb p k) refl where
  by : (b : Bool) → eqb p k ≡ b → f (get_or (set ps p x) k free) ≡ f (get_or ps k free)
  by true t = ap f (get_d_set free ps p k x true t h) ∙ s ∙ sym (was f ps p k t)
  by false t = ap f (get_d_set free ps p k x false t h)

pub comes : (f : Place → ℕ) (ps : List Place) (p k : ℕ) (x : Place) → p < length ps → f (get_or ps p free) ≡ 0 → f x ≡ 1
    → f (get_or (set ps p x) k free) ≡ f (get_or ps k free) + cond (eqb p k) 1 0
comes f ps p k x h z o = by (eqb p k) refl where
  by : (b : Bool) → eqb p k ≡ b → f (get_or (set ps p x) k free) ≡ f (get_or ps k free) + cond b 1 0
  by true t = let now = ap f (get_d_set free ps p k x true t h) in let w = was f ps p k t in omega arith
  by false t = let now = ap f (get_d_set free ps p k x false t h) in omega arith

pub goes : (f : Place → ℕ) (ps : List Place) (p k : ℕ) (x : Place) → p < length ps → f (get_or ps p free) ≡ 1 → f x ≡ 0
    → f (get_or (set ps p x) k free) + cond (eqb p k) 1 0 ≡ f (get_or ps k free)
goes f ps p k x h o z = by (eqb p k) refl where
  by : (b : Bool) → eqb p k ≡ b → f (get_or (set ps p x) k free) + cond b 1 0 ≡ f (get_or ps k free)
  by true t = let now = ap f (get_d_set free ps p k x true t h) in let w = was f ps p k t in omega arith
  by false t = let now = ap f (get_d_set free ps p k x false t h) in omega arith

-- a place is in one state
pub one_state : (x : Place) → if_held x + if_deferred x + if_ready x ≤ 1
one_state free = omega arith
one_state (held q) = omega arith
one_state (deferred q) = omega arith
one_state (ready q v) = omega arith
one_state (drawn q v) = omega arith

pub held_is : (x : Place) → 1 ≤ if_held x → x ≡ held (read_of x)
held_is free h = absurd (omega arith)
held_is (held q) h = refl
held_is (deferred q) h = absurd (omega arith)
held_is (ready q v) h = absurd (omega arith)
held_is (drawn q v) h = absurd (omega arith)

pub deferred_is : (x : Place) → 1 ≤ if_deferred x → x ≡ deferred (read_of x)
deferred_is free h = absurd (omega arith)
deferred_is (held q) h = absurd (omega arith)
deferred_is (deferred q) h = refl
deferred_is (ready q v) h = absurd (omega arith)
deferred_is (drawn q v) h = absurd (omega arith)

pub ready_is : (x : Place) → 1 ≤ if_ready x → x ≡ ready (read_of x) (word_of x)
ready_is free h = absurd (omega arith)
ready_is (held q) h = absurd (omega arith)
ready_is (deferred q) h = absurd (omega arith)
ready_is (ready q v) h = refl
ready_is (drawn q v) h = absurd (omega arith)

pub free_is : (x : Place) → is_free x ≡ true → x ≡ free
free_is free h = refl
free_is (held q) h = absurd (clash h)
free_is (deferred q) h = absurd (clash h)
free_is (ready q v) h = absurd (clash h)
free_is (drawn q v) h = absurd (clash h)

pub drawn_is : (x : Place) → is_drawn x ≡ true → x ≡ drawn (read_of x) (word_of x)
drawn_is free h = absurd (clash h)
drawn_is (held q) h = absurd (clash h)
drawn_is (deferred q) h = absurd (clash h)
drawn_is (ready q v) h = absurd (clash h)
drawn_is (drawn q v) h = refl

-- past the table there are only free places, so a mark that free places lack is within it
pub marked_within : (f : Place → ℕ) (ps : List Place) (p : ℕ) → f free ≡ 0 → 1 ≤ f (get_or ps p free) → p < length ps
marked_within f [] p z h = omega arith
marked_within f (x ∷ ps) zero z h = omega arith
marked_within f (x ∷ ps) (suc p) z h = let r = marked_within f ps p z h in omega arith
