-- A bag with one more: in two parts, by its length, by counts over it, as a shuffle; and what the steps of a row do to it.
use Rattle.std.proofs.Common.{◌≡◌, ℕ, zero, suc, ◌+◌, ◌<◌, ◌≤◌, List, [], ◌∷◌, ◌++◌, length, take, drop, Some, None, MatchBool, sum_by, Option, sym, refl, ap, ◌∙◌, subst, append_assoc, append-nil, arith, length-append}
use Rattle.std.specs.List.{slice_get, remove}
use Rattle.std.specs.List.Sorted.{IsPermutation}
use Rattle.std.specs.Option.{option_to_list}
use Rattle.std.proofs.lemmas.Option.{slice_get-get_or}
use Rattle.std.proofs.lemmas.List.Sorted.{IsPermutation-refl, IsPermutation-cons, IsPermutation-swap, IsPermutation-trans, sum_by-IsPermutation}
use Rattle.std.proofs.lemmas.List.Sums.{sum_by-cons}
use Rattle.std.proofs.lemmas.Bool.{lt-ltb}
use Rattle.std.proofs.lemmas.Bool.Decides.{when_true}
use Rattle.network.specs.Bags.{OneMore, Joins, Gives, Offered, BagLaws, TakenAt}

module _ {X : Type 0} where
  pub one_more_end : (x : X) (xs ys : List X) → ys ≡ xs ++ x ∷ [] → OneMore x xs ys
  one_more_end x xs ys e = record { front = xs; back = []; without = sym (append-nil xs); within = e }

  pub one_more_left : (x : X) (xs ys zs : List X) → OneMore x xs ys → OneMore x (xs ++ zs) (ys ++ zs)
  one_more_left x xs ys zs h = record {
    front = h.front;
    back = h.back ++ zs;
    without = ap (λ l. l ++ zs) h.without ∙ append_assoc h.front h.back zs;
    within = ap (λ l. l ++ zs) h.within ∙ append_assoc h.front (x ∷ h.back) zs;
  }

  pub one_more_right : (x : X) (zs xs ys : List X) → OneMore x xs ys → OneMore x (zs ++ xs) (zs ++ ys)
  one_more_right x zs xs ys h = record {
    front = zs ++ h.front;
    back = h.back;
    without = ap (λ l. zs ++ l) h.without ∙ sym (append_assoc zs h.front h.back);
    within = ap (λ l. zs ++ l) h.within ∙ sym (append_assoc zs h.front (x ∷ h.back));
  }

  pub one_more_length : (x : X) (xs ys : List X) → OneMore x xs ys → length ys ≡ length xs + 1
  one_more_length x xs ys h =
      let a = ap length h.without ∙ length-append h.front h.back in
      let b = ap length h.within ∙ length-append h.front (x ∷ h.back) in
      omega arith

  to_front : (x : X) (front back : List X) → IsPermutation (front ++ x ∷ back) (x ∷ front ++ back)
  to_front x [] back = IsPermutation-refl (x ∷ back)
  to_front x (y ∷ front) back =
      IsPermutation-trans _ (y ∷ x ∷ front ++ back) _
      (IsPermutation-cons y (front ++ x ∷ back) (x ∷ front ++ back) (to_front x front back))
      (IsPermutation-swap (y ∷ x ∷ front ++ back) (x ∷ y ∷ front ++ back) 0 1 (omega arith) (omega arith) refl)

  pub one_more_shuffled : (x : X) (xs ys : List X) → OneMore x xs ys → IsPermutation ys (x ∷ xs)
  one_more_shuffled x xs ys h =
      subst (λ l. IsPermutation l (x ∷ xs)) (sym h.within) (subst (λ l. IsPermutation (h.front ++ x ∷ h.back) (x ∷ l)) (sym h.without) (to_front x h.front h.back))

  pub one_more_sum : (count : X → ℕ) (x : X) (xs ys : List X) → OneMore x xs ys → sum_by count ys ≡ count x + sum_by count xs
  one_more_sum count x xs ys h = sym (sum_by-IsPermutation count ys (x ∷ xs) (one_more_shuffled x xs ys h)) ∙ sum_by-cons count x xs

  -- where there is room, one joins
  pub joined : (limit : ℕ) (bag : List X) (x : X) (next : List X) → length bag < limit → OneMore x bag next → Joins limit bag x next
  joined limit bag x next lt h = subst (λ b. MatchBool b (OneMore x bag next) (next ≡ bag)) (sym (lt-ltb (length bag) limit lt)) h

  pub joins_one : (limit : ℕ) (bag : List X) (x : X) (next : List X) → length bag < limit → Joins limit bag x next → OneMore x bag next
  joins_one limit bag x next lt h = when_true (OneMore x bag next) (next ≡ bag) (lt-ltb (length bag) limit lt) h

  pub gives_length : (bag : List X) (r : Option X) (rest : List X) → Gives bag r rest → length bag ≡ length (option_to_list r) + length rest
  gives_length bag None rest h = omega (arith, ap length h.1)
  gives_length bag (Some x) rest h = omega (arith, one_more_length x rest bag h)

  pub gives_sum : (count : X → ℕ) (bag : List X) (r : Option X) (rest : List X) → Gives bag r rest → sum_by count bag ≡ sum_by count (option_to_list r) + sum_by count rest
  gives_sum count bag None rest h = omega (arith, ap (sum_by count) h.1)
  gives_sum count bag (Some x) rest h = omega (arith, one_more_sum count x rest bag h)

  pub offered_length : (limit : ℕ) (bag xs last : List X) → Offered limit bag xs last → length bag + length xs ≤ limit → length last ≡ length bag + length xs
  offered_length limit bag [] last h room = omega (arith, ap length h)
  offered_length limit bag (x ∷ xs) last (next, j, rest) room =
      let one = one_more_length x bag next (joins_one limit bag x next (omega arith) j) in
      omega (arith, offered_length limit next xs last rest (omega arith))

  pub offered_sum : (count : X → ℕ) (limit : ℕ) (bag xs last : List X) → Offered limit bag xs last → length bag + length xs ≤ limit
      → sum_by count last ≡ sum_by count bag + sum_by count xs
  offered_sum count limit bag [] last h room = omega (arith, ap (sum_by count) h)
  offered_sum count limit bag (x ∷ xs) last (next, j, rest) room =
      let one = joins_one limit bag x next (omega arith) j in
      let n = one_more_length x bag next one in
      omega (arith, one_more_sum count x bag next one, sum_by-cons count x xs, offered_sum count limit next xs last rest (omega arith))

  pub bag_laws : BagLaws X
  bag_laws = record {
    gains = λ x bag next h. (omega (arith, one_more_length x bag next h), λ count. omega (arith, one_more_sum count x bag next h, sum_by-cons count x []));
    gives = λ bag r rest h. (gives_length bag r rest h, λ count. gives_sum count bag r rest h);
    joins = λ limit bag xs last h room.
        (omega (arith, offered_length limit bag xs last h room), λ count. omega (arith, offered_sum count limit bag xs last h room));
  }

  nth-split : (xs : List X) (i : ℕ) (x : X) → Some x ≡ slice_get xs i → xs ≡ take i xs ++ x ∷ drop (suc i) xs
  nth-split [] i x e = absurd (let z : ◌≡◌ {A = ℕ} 0 1 = cc in omega arith)
  nth-split (y ∷ ys) zero x e = let s : y ≡ x = cc in ap (λ z. z ∷ ys) s
  nth-split (y ∷ ys) (suc i) x e = ap (λ l. y ∷ l) (nth-split ys i x e)

  none_removed : (i : ℕ) → remove {X = X} [] i ≡ []
  none_removed zero = refl
  none_removed (suc i) = refl

  -- nothing comes out of an empty row
  pub none_taken : (i : ℕ) (xs : List X) → length xs ≡ 0 → TakenAt i xs None xs
  none_taken i [] h = (refl, sym (none_removed i))
  none_taken i (x ∷ xs) h = absurd (omega arith)

  -- what is taken at a place of a row comes out of the bag
  pub taken_at : (i : ℕ) (xs : List X) (r : Option X) (ys : List X) → (0 < length xs → i < length xs) → TakenAt i xs r ys → Gives xs r ys
  taken_at i xs (Some x) ys h t = record { front = take i xs; back = drop (suc i) xs; without = t.1; within = nth-split xs i x t.0 }
  taken_at i [] None ys h t = (refl, t.1 ∙ none_removed i)
  taken_at i (y ∷ xs) None ys h t =
      let n = slice_get-get_or (y ∷ xs) i y (h (omega arith)) in absurd (let z : ◌≡◌ {A = ℕ} 0 1 = cc (t.0, n) in omega arith)
