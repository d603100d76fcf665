-- Counting up and round, and the first number on the way that passes a test.
use Rattle.std.specs.Prelude.{◌≡◌, ℕ, zero, suc, ◌+◌, ◌%◌, ◌<◌, Bool, true, false, cond, List, [], ◌∷◌, Some, None, Option, nat_lt}
use Rattle.std.specs.List.{find}

-- the number after i of n numbers; after the last comes 0
abbrev pub after : ℕ → ℕ → ℕ
after n i = cond (nat_lt (i + 1) n) (i + 1) 0

-- the numbers that so many turns meet, counted up and round n numbers from i
unfoldable pub walk : ℕ → ℕ → ℕ → List ℕ
walk n zero i = []
walk n (suc turns) i = i ∷ walk n turns (after n i)

-- the first of so many numbers, counted up and round n numbers from i, that passes the test
unfoldable pub first_of : (ℕ → Bool) → ℕ → ℕ → ℕ → Option ℕ
first_of test n zero i = None
first_of test n (suc turns) i = cond (test i) (Some i) (first_of test n turns (after n i))

-- the same, once round
abbrev pub first_round : (ℕ → Bool) → ℕ → ℕ → Option ℕ
first_round test n i = first_of test n n i

-- k passes the test, and no number from i up and round to k does
pub record First (test : ℕ → Bool) (n i k : ℕ) : Type 0 where
  pub steps : ℕ
  pub near : steps < n
  pub there : k ≡ (i + steps) % n
  pub passes : test k ≡ true
  pub before : (j : ℕ) → j < steps → test ((i + j) % n) ≡ false

-- what a search once round may answer: nothing where no number passes, and else the first
abbrev pub Searched : (ℕ → Bool) → ℕ → ℕ → Option ℕ → Type 0
Searched test n i None = (k : ℕ) → k < n → test k ≡ false
Searched test n i (Some k) = First test n i k

-- a search once round from any of the n numbers finds the first that passes
abbrev pub CountsRound : Type 0
CountsRound = (test : ℕ → Bool) (n i : ℕ) → i < n → Searched test n i (first_round test n i)

-- the first that passes a test, of the numbers met once round, is what `first_round` says
abbrev pub FindsFirst : Type 0
FindsFirst = (test : ℕ → Bool) (n i : ℕ) → find test (walk n n i) ≡ first_round test n i
