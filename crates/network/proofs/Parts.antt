-- How a step of one of two networks is a step of both.
use Rattle.std.proofs.Common.{◌≡◌, ℕ, ◌/◌, ◌%◌, ◌<◌, ◌≤◌, Bool, true, false, ltb, List, [], ◌∷◌, ◌++◌, length, is_ok, IfOk, IfErr, Some, Ok, Err, MatchBool, Option, Result, sym, refl, ◌∙◌, subst}
use Rattle.std.proofs.lemmas.Bool.{eq-eqb, ne_eqb, lt-ltb, ltb-true, ltb-false, cond-true, true≢false}
use Rattle.bounded.specs.Listed.{pushed}
use Rattle.network.specs.Bags.{OneMore, Joins, Tried}
use Rattle.network.specs.Rules.{Appended, SentOn, TwinTakes}
use Rattle.network.proofs.Bags.{one_more_left, one_more_right, joined}

module _ {X : Type 0} (most : ℕ) (ls rs : List X) (x : X) (room : length (ls ++ rs) < most) where
  pub join_left : (ls' : List X) → OneMore x ls ls' → Joins most (ls ++ rs) x (ls' ++ rs)
  join_left ls' h = joined most (ls ++ rs) x (ls' ++ rs) room (one_more_left x ls ls' rs h)

  pub join_right : (ls' rs' : List X) → ls' ≡ ls → OneMore x rs rs' → Joins most (ls ++ rs) x (ls' ++ rs')
  join_right ls' rs' e h =
      subst (λ l. Joins most (ls ++ rs) x (l ++ rs')) (sym e) (joined most (ls ++ rs) x (ls ++ rs') room (one_more_right x ls rs rs' h))

pub has_room : (n limit : ℕ) → true ≡ ltb n limit → n < limit
has_room n limit e = ltb-true n limit (sym e)

pub no_room : (n limit : ℕ) → false ≡ ltb n limit → limit ≤ n
no_room n limit e = ltb-false n limit (sym e)

pub pushed_end : {X : Type 0} (limit : ℕ) (xs : List X) (x : X) (ys : List X) → true ≡ ltb (length xs) limit → ys ≡ pushed limit xs x → Appended xs x ys
pushed_end limit xs x ys e h = h ∙ cond-true (ltb (length xs) limit) (xs ++ x ∷ []) xs (sym e)

-- what has room takes the message
pub accepted : {T E : Type 0} (r : Result T E) (n limit : ℕ) → n < limit → is_ok r ≡ ltb n limit → is_ok r ≡ true
accepted r n limit lt e = e ∙ lt-ltb n limit lt

pub not_refused : {T E : Type 0} (r : Result T E) (P : E → Type 0) → is_ok r ≡ true → IfErr r P
not_refused (Ok _) P h = tt
not_refused (Err _) P h = absurd (true≢false (sym h))

module _ {X S T : Type 0} (first : S → X → S → Type 0) (second : T → X → T → Type 0) (room : Bool) where
  pub sent_first : (s : S) (t : T) (x : X) (s' : S) → true ≡ room → first s x s' → SentOn room first second s t x s' t
  sent_first s t x s' e h = subst (λ b. SentOn b first second s t x s' t) e (h, refl)

  pub sent_second : {A E : Type 0} (r : Result A E) (s : S) (t : T) (x : X) (s' : S) (t' : T) → false ≡ room → s' ≡ s → IfOk r (λ _. second t x t') → IfOk r (λ _. SentOn room first second s t x s' t')
  sent_second (Ok _) s t x s' t' e stays h = subst (λ b. SentOn b first second s t x s' t') e (stays, h)
  sent_second (Err _) s t x s' t' e stays h = tt

module _ {X S T : Type 0} (first : S → ℕ → Option X → S → Type 0) (second : T → ℕ → Option X → T → Type 0) (pick : ℕ) (s : S) (t : T) (x : X) where
  pub even_taken : (s' : S) → pick % 2 ≡ 0 → first s (pick / 2) (Some x) s' → TwinTakes first second s t pick (Some x) s' t
  even_taken s' e h =
      subst (λ b. MatchBool b (Tried (λ n. first n (pick / 2)) s s' (λ n. second n (pick / 2)) t (Some x) t) (Tried (λ n. second n (pick / 2)) t t (λ n. first n (pick / 2)) s (Some x) s'))
      (sym (eq-eqb (pick % 2) 0 e)) (Some x, h, (refl, refl))

  pub odd_taken : (t' : T) → (pick % 2 ≡ 0 → ⊥) → second t (pick / 2) (Some x) t' → TwinTakes first second s t pick (Some x) s t'
  odd_taken t' e h =
      subst (λ b. MatchBool b (Tried (λ n. first n (pick / 2)) s s (λ n. second n (pick / 2)) t (Some x) t') (Tried (λ n. second n (pick / 2)) t t' (λ n. first n (pick / 2)) s (Some x) s))
      (sym (ne_eqb (pick % 2) 0 e)) (Some x, h, (refl, refl))
