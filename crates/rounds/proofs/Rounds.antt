-- How a search up and round goes on, and what it finds.
use Rattle.std.proofs.Common.{◌≡◌, ℕ, zero, suc, ◌+◌, ◌-◌, ◌%◌, ◌<◌, ◌≤◌, Bool, true, false, List, [], ◌∷◌, ◌^◌, IfSome, ltb, add-one, cond, Some, None, Option, sym, refl, ap, ◌∙◌, subst, ⊎_elim, mod-lt, mod-eq_of_lt, arith}
use native.Mathlib.Nat.{add-mod_left, add-mod_right}
use Rattle.std.proofs.lemmas.Bool.{lt-ltb, le-ltb, cases_lt, cases_Bool, cond-true, cond-false}
use denote.Ref.{Bor}
use denote.Param.Members.{Mut}
use Rattle.std.specs.Fn.{CalledAt}
use Rattle.std.specs.Iterator.{FindsItem, YieldsFirst, YieldsThen}
use Rattle.std.specs.List.{find, FoldsTo}
use Rattle.rounds.specs.Rounds.{after, walk, first_of, first_round, First, Searched, CountsRound, FindsFirst}

pub after_next : (n i : ℕ) → i + 1 < n → after n i ≡ i + 1
after_next n i lt = cond-true (ltb (i + 1) n) (i + 1) 0 (lt-ltb (i + 1) n lt)

pub after_last : (n i : ℕ) → n ≤ i + 1 → after n i ≡ 0
after_last n i le = cond-false (ltb (i + 1) n) (i + 1) 0 (le-ltb (i + 1) n le)

pub after_below : (n i : ℕ) → i < n → after n i < n
after_below n i lt =
    ⊎_elim (λ h. omega (arith, after_next n i h)) (λ h. omega (arith, after_last n i h)) (cases_lt (i + 1) n)

-- a number counted from the next one is one further from this one
on : (n i j : ℕ) → i < n → (after n i + j) % n ≡ (i + suc j) % n
on n i j lt =
    ⊎_elim
    (λ h. let e : after n i + j ≡ i + suc j = omega (arith, after_next n i h) in ap (λ m. m % n) e)
    (λ h.
    let e : after n i + j ≡ j = omega (arith, after_last n i h) in
    let f : i + suc j ≡ n + j = omega arith in
    ap (λ m. m % n) e ∙ sym (ap (λ m. m % n) f ∙ add-mod_left n j))
    (cases_lt (i + 1) n)

here : (n i : ℕ) → i < n → (i + 0) % n ≡ i
here n i lt = let e : i + 0 ≡ i = omega arith in ap (λ m. m % n) e ∙ mod-eq_of_lt lt

-- each number is met once round
met : (n i k : ℕ) → i < n → k < n → (j : ℕ) × (j < n) × ((i + j) % n ≡ k)
met n i k lt kn =
    ⊎_elim
    (λ h. let e : i + (k + n - i) ≡ k + n = omega arith in (k + n - i, omega arith, ap (λ m. m % n) e ∙ add-mod_right k n ∙ mod-eq_of_lt kn))
    (λ h. let e : i + (k - i) ≡ k = omega arith in (k - i, omega arith, ap (λ m. m % n) e ∙ mod-eq_of_lt kn))
    (cases_lt k i)

module _ (test : ℕ → Bool) (n : ℕ) where
  turn_hit : (turns i : ℕ) → test i ≡ true → first_of test n (suc turns) i ≡ Some i
  unfolding first_of
  turn_hit turns i h = cond-true (test i) (Some i) (first_of test n turns (after n i)) h

  turn_miss : (turns i : ℕ) → test i ≡ false → first_of test n (suc turns) i ≡ first_of test n turns (after n i)
  unfolding first_of
  turn_miss turns i h = cond-false (test i) (Some i) (first_of test n turns (after n i)) h

  none_left : (i : ℕ) → first_of test n 0 i ≡ None
  unfolding first_of
  none_left i = refl

  -- what so many turns from i may answer
  abbrev Within : ℕ → ℕ → Option ℕ → Type 0
  Within turns i None = (j : ℕ) → j < turns → test ((i + j) % n) ≡ false
  Within turns i (Some k) = (f : First test n i k) × (f.steps < turns)

  found_here : (turns i : ℕ) → i < n → test i ≡ true → Within (suc turns) i (Some i)
  found_here turns i lt h = (record { steps = 0; near = omega arith; there = sym (here n i lt); passes = h; before = λ j z. absurd (omega arith) }, omega arith)

  -- none of the first numbers passes, where this one does not and none of those from the next one on does
  passed : (turns i : ℕ) → i < n → test i ≡ false → ((j : ℕ) → j < turns → test ((after n i + j) % n) ≡ false) → (j : ℕ) → j < suc turns → test ((i + j) % n) ≡ false
  passed turns i lt h rest zero low = ap test (here n i lt) ∙ h
  passed turns i lt h rest (suc j) low = ap test (sym (on n i j lt)) ∙ rest j (omega arith)

  found_later : (turns i : ℕ) → suc turns ≤ n → i < n → test i ≡ false → (o : Option ℕ) → Within turns (after n i) o → Within (suc turns) i o
  found_later turns i le lt h None rest = passed turns i lt h rest
  found_later turns i le lt h (Some k) (f, low) =
      (record { steps = suc f.steps; near = omega arith; there = f.there ∙ on n i f.steps lt; passes = f.passes; before = passed f.steps i lt h f.before }, omega arith)

  within : (turns i : ℕ) → turns ≤ n → i < n → Within turns i (first_of test n turns i)
  within zero i le lt = subst (Within 0 i) (sym (none_left i)) (λ j z. absurd (omega arith))
  within (suc turns) i le lt =
      ⊎_elim
      (λ h. subst (Within (suc turns) i) (sym (turn_hit turns i h)) (found_here turns i lt h))
      (λ h. subst (Within (suc turns) i) (sym (turn_miss turns i h)) (found_later turns i le lt h _ (within turns (after n i) (omega arith) (after_below n i lt))))
      (cases_Bool (test i))

  round : (i : ℕ) → i < n → (o : Option ℕ) → Within n i o → Searched test n i o
  round i lt None none = λ k kn. let m = met n i k lt kn in ap test (sym m.2) ∙ none m.0 m.1
  round i lt (Some k) (f, low) = f

  -- what is found is one of the n numbers
  pub found_below : (i k : ℕ) → i < n → first_round test n i ≡ Some k → k < n
  found_below i k lt e =
      let f = (subst (Within n i) e (within n i (omega arith) lt)).0 in
      subst (λ m. m < n) (sym f.there) (mod-lt (i + f.steps) (omega arith))

pub counts_round : CountsRound
counts_round test n i lt = round test n i lt _ (within test n n i (omega arith) lt)

pub walk_end : (n left i : ℕ) → left ≡ 0 → walk n left i ≡ []
unfolding walk
walk_end n left i e = ap (λ turns. walk n turns i) e

walk_turn : (n turns i : ℕ) → walk n (suc turns) i ≡ i ∷ walk n turns (after n i)
unfolding walk
walk_turn n turns i = refl

-- a turn of the walk takes its first number
pub walks : (n left rest i : ℕ) → rest + 1 ≡ left → walk n left i ≡ i ∷ walk n rest (after n i)
walks n left rest i e = ap (λ turns. walk n turns i) (sym e ∙ add-one rest) ∙ walk_turn n rest i

-- the first that passes, of the numbers of so many turns
find_walk : (test : ℕ → Bool) (n turns i : ℕ) → find test (walk n turns i) ≡ first_of test n turns i
unfolding walk first_of
find_walk test n zero i = refl
find_walk test n (suc turns) i = ap (cond (test i) (Some i)) (find_walk test n turns (after n i))

pub walk_finds : FindsFirst
walk_finds test n i = find_walk test n n i

-- `asks` says of a number what `test` does
module _ {P : Type 0} (test : ℕ → Bool) (n : ℕ) (fits : n < 2 ^ 64) (asks : Mut P (Bor ℕ × Unit {0}) Bool) (p : P)
    (says : (i : ℕ) (b : Bool) (q : P) → i < 2 ^ 64 → CalledAt asks p i b q → (q ≡ p) × (b ≡ test i)) where
  after_fits : (i : ℕ) → after n i < 2 ^ 64
  after_fits i = ⊎_elim (λ h. omega (arith, after_next n i h)) (λ h. omega (arith, after_last n i h)) (cases_lt (i + 1) n)

  -- where so many turns are left at i, and what is found is asked first
  found_now : (turns i : ℕ) (s u : List ℕ) (r : Option ℕ) → i < 2 ^ 64 → s ≡ walk n turns i → YieldsFirst (λ left. left) s r u → IfSome r (λ k. (h : P) × CalledAt asks p k true h)
      → r ≡ first_of test n turns i
  found_now zero i s u None low at step hit = sym (none_left test n i)
  found_now zero i s u (Some k) low at step hit = let e = walk_end n 0 i refl in absurd (cc)
  found_now (suc turns) i s u None low at step hit = let e = walk_turn n turns i in let z = step.0 in absurd (cc)
  found_now (suc turns) i s u (Some k) low at step (h, hit) =
      let t = walk_turn n turns i in
      let e : k ≡ i = cc in
      ap Some e ∙ sym (turn_hit test n turns i (sym (says i true h low (subst (λ k. CalledAt asks p k true h) e hit)).1))

  -- the same, where others are asked before
  found : (turns i : ℕ) (s u : List ℕ) (r : Option ℕ) (xs : List ℕ) (q : P) → i < 2 ^ 64 → s ≡ walk n turns i → YieldsThen (YieldsFirst (λ left. left)) s xs r u
      → FoldsTo (λ a k b. CalledAt asks a k false b) p xs q → IfSome r (λ k. (h : P) × CalledAt asks q k true h) → r ≡ first_of test n turns i
  found turns i s u r [] q low at (t, is, step) asked hit =
      found_now turns i s u r low at (subst (λ t. YieldsFirst (λ left. left) t r u) (sym is) step) (subst (λ q. IfSome r (λ k. (h : P) × CalledAt asks q k true h)) (sym asked) hit)
  found zero i s u r (k ∷ xs) q low at (t, (v, step, more), last) asked hit = let e = walk_end n 0 i refl in absurd (cc)
  found (suc turns) i s u r (k ∷ xs) q low at (t, (v, step, more), last) (a, miss, asked) hit =
      let w = walk_turn n turns i in
      let e : k ≡ i = cc in
      let f : v ≡ walk n turns (after n i) = cc in
      let m = says i false a low (subst (λ k. CalledAt asks p k false a) e miss) in
      found turns (after n i) v u r xs q (after_fits i) f (t, more, last) (subst (λ b. FoldsTo (λ a k b. CalledAt asks a k false b) b xs q) m.0 asked) hit
      ∙ sym (turn_miss test n turns i (sym m.1))

  -- a search of the numbers met once round is `first_round`
  pub finds_first : (i : ℕ) (s u : List ℕ) (r : Option ℕ) → i < 2 ^ 64 → s ≡ walk n n i → FindsItem (YieldsFirst (λ left. left)) asks s p r u → r ≡ first_round test n i
  finds_first i s u r low at (xs, q, gave, asked, hit) = found n i s u r xs q low at gave asked hit
