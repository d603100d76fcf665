-- The list that an ArrayVec stands for.
use Rattle.std.specs.Prelude.{ℕ, cond, List, [], ◌∷◌, ◌++◌, length, take, nat_lt}
use Rattle.bounded.specs.declared.list.ArrayVec.{ArrayVec}

-- its values, oldest first
abbrev pub listed : {X : Type 0} {cap : ℕ} → ArrayVec X cap → List X
listed v = take v.len v.items

-- a list of at most cap values with x behind the others, where there is room
abbrev pub pushed : {X : Type 0} → ℕ → List X → X → List X
pushed cap xs x = cond (nat_lt (length xs) cap) (xs ++ x ∷ []) xs
