-- A node made from a number: the lowest member of a set, where there is one.
use Rattle.std.proofs.Common.{◌≡◌, ℕ, ◌^◌, ◌<◌, ◌≤◌, Bool, true, false, cond, ltb, [], ◌∷◌, Some, None, Option, sym, refl, ap, ◌∙◌, arith, ltb-false, ltb-true, MatchOption}
use lib.Count.{count_trailing_zeros}
use Rattle.std.specs.Option.{option_map}
use Rattle.network.specs.declared.message.Number.{Number}
use Rattle.network.specs.Messages.{below}
use Rattle.home.specs.Sets.{members, without_lowest}
use Rattle.home.proofs.Lowest.{members_next, members_none, lowest_some, lowest_none}

found_by : (b : Bool) (limit n i : ℕ) → ltb n limit ≡ b → Some i ≡ cond b (Some n) None → (n < limit) × (i ≡ n)
found_by true limit n i t e = (ltb-true n limit t, cc)
found_by false limit n i t e = let z : ◌≡◌ {A = ℕ} 0 1 = cc in absurd (omega arith)

missed_by : (b : Bool) (limit n : ℕ) → ltb n limit ≡ b → None ≡ cond b (Some n) None → limit ≤ n
missed_by true limit n t e = let z : ◌≡◌ {A = ℕ} 0 1 = cc in absurd (omega arith)
missed_by false limit n t e = ltb-false n limit t

pub lowest_found : (m : ℕ) (r : Option (Number 16)) → m < 2 ^ 16 → option_map (λ n. n.index) r ≡ below 16 (count_trailing_zeros 16 m) → MatchOption r (members m ≡ []) (λ node. (0 < m) × (members m ≡ node.index ∷ members (without_lowest m)))
lowest_found m None h e =
    let past = missed_by (ltb (count_trailing_zeros 16 m) 16) 16 (count_trailing_zeros 16 m) refl e in
    ap members (lowest_none m h past) ∙ members_none
lowest_found m (Some node) h e =
    let is = found_by (ltb (count_trailing_zeros 16 m) 16) 16 (count_trailing_zeros 16 m) node.index refl e in
    let some = lowest_some m is.0 in
    (some, members_next m some h ∙ ap (λ x. x ∷ members (without_lowest m)) (sym is.1))
