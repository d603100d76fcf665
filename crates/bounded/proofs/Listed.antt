-- What a short list's steps leave.
use Rattle.std.proofs.Common.{◌≡◌, ℕ, suc, ◌+◌, ◌-◌, ◌<◌, ◌≤◌, List, length, take, drop, ap, ◌∙◌, add-one, arith, length-drop}
use Rattle.std.specs.List.{copy_within, remove}
use Rattle.std.proofs.lemmas.List.{take-take, drop-take}
use Rattle.std.proofs.lemmas.List.Edits.{take-paste}

-- those behind place i move up by one, and the last of the n is given up
pub moved_up : {X : Type 0} (xs : List X) (n i : ℕ) → n ≤ length xs → i < n → take (n - 1) (copy_within xs (i + 1) n i) ≡ remove (take n xs) i
moved_up xs n i le lt =
    let many = n - (i + 1) in
    let whole : n ≡ suc i + many = omega arith in
    let less : n - 1 ≡ i + many = omega arith in
    let next = add-one i in
    let room : many ≤ length (drop (i + 1) xs) = omega (arith, length-drop (i + 1) xs) in
    let moved = take-paste xs i (drop (i + 1) xs) many (omega arith) room in
    let front = take-take i n xs (omega arith) in
    let back : drop (suc i) (take n xs) ≡ take many (drop (suc i) xs) = ap (λ m. drop (suc i) (take m xs)) whole ∙ drop-take (suc i) many xs in
    cc

-- the same where the copy's first place is known to be the next one
pub moved_from : {X : Type 0} (xs ys : List X) (n i from : ℕ) → ys ≡ copy_within xs from n i → from ≡ i + 1 → n ≤ length xs → i < n → take (n - 1) ys ≡ remove (take n xs) i
moved_from xs ys n i from is next le lt = ap (take (n - 1)) (is ∙ ap (λ k. copy_within xs k n i) next) ∙ moved_up xs n i le lt
