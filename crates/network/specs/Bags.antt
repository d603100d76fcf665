-- What sending and taking do to a bag: a list up to its order.
use Rattle.std.specs.Prelude.{◌≡◌, ℕ, ◌+◌, ◌≤◌, List, [], ◌∷◌, ◌++◌, length, Some, None, MatchBool, sum_by, Option, nat_lt}
use Rattle.std.specs.List.{slice_get, remove}
use Rattle.std.specs.Option.{option_to_list}

-- large is small and one x more, at some place
pub record OneMore {X : Type 0} (x : X) (small large : List X) : Type 0 where
  pub front : List X
  pub back : List X
  pub without : small ≡ front ++ back
  pub within : large ≡ front ++ x ∷ back

-- x joins the bag where there is room, and else the bag stays
abbrev pub Joins : {X : Type 0} → ℕ → List X → X → List X → Type 0
Joins limit bag x next = MatchBool (nat_lt (length bag) limit) (OneMore x bag next) (next ≡ bag)

-- one comes out of the bag, and none only where it is empty
abbrev pub Gives : {X : Type 0} → List X → Option X → List X → Type 0
Gives bag None rest = (bag ≡ []) × (rest ≡ bag)
Gives bag (Some x) rest = OneMore x rest bag

-- several are offered in turn
abbrev pub Offered : {X : Type 0} → ℕ → List X → List X → List X → Type 0
Offered {X} limit bag [] last = last ≡ bag
Offered {X} limit bag (x ∷ xs) last = (next : List X) × Joins limit bag x next × Offered limit next xs last

-- large has as many more as `more`, and in every count what `more` adds
abbrev pub Larger : {X : Type 0} → List X → List X → List X → Type 0
Larger {X} more small large =
    (length large ≡ length more + length small) × ((count : X → ℕ) → sum_by count large ≡ sum_by count more + sum_by count small)

-- what every bag keeps: what joins is in it, and what comes out is missing from the rest
pub record BagLaws (X : Type 0) : Type 0 where
  pub gains : (x : X) (bag next : List X) → OneMore x bag next → Larger (x ∷ []) bag next
  pub gives : (bag : List X) (r : Option X) (rest : List X) → Gives bag r rest → Larger (option_to_list r) rest bag
  pub joins : (limit : ℕ) (bag xs last : List X) → Offered limit bag xs last → length bag + length xs ≤ limit → Larger xs bag last

-- a take at place i of a row
abbrev pub TakenAt : {X : Type 0} → ℕ → List X → Option X → List X → Type 0
TakenAt i xs r ys = (r ≡ slice_get xs i) × (ys ≡ remove xs i)

-- a second source steps only where the first gave nothing, and else stays
abbrev pub Next : {X T : Type 0} → Option X → (T → Option X → T → Type 0) → T → Option X → T → Type 0
Next (Some x) step t r u = (r ≡ Some x) × (u ≡ t)
Next None step t r u = step t r u

-- a take from a first source, and from a second where that gave nothing
abbrev pub Tried : {X S T : Type 0} → (S → Option X → S → Type 0) → S → S → (T → Option X → T → Type 0) → T → Option X → T → Type 0
Tried {X} first s v second t r u = (f : Option X) × first s f v × Next f second t r u
