-- What a call does to the bag: at most one message comes out, and what is offered goes in where there is room for all.
use Rattle.std.proofs.Common.{◌≡◌, ℕ, ◌+◌, ◌≤◌, Bool, true, false, ltb, List, [], ◌∷◌, length, Some, None, MatchBool, sum_by, Option, sym, ap, subst, arith}
use Rattle.std.specs.Option.{option_to_list}
use Rattle.std.specs.List.{AllByRecursion}
use Rattle.std.proofs.lemmas.List.Sorted.{IsPermutation-sym}
use Rattle.std.proofs.ByRecursion.{all_shuffled}
use Rattle.network.specs.Bags.{OneMore, Offered}
use Rattle.network.proofs.Bags.{one_more_length, one_more_sum, one_more_shuffled, offered_length, offered_sum}

abbrev pub Out : {X : Type 0} → List X → Option X → List X → Type 0
Out bag None rest = rest ≡ bag
Out bag (Some x) rest = OneMore x rest bag

pub record Moved {X : Type 0} (limit : ℕ) (bag : List X) (got : Option X) (added next : List X) : Type 0 where
  pub rest : List X
  pub out : Out bag got rest
  pub offers : Offered limit rest added next
  pub room : length rest + length added ≤ limit

module _ {X : Type 0} where
  pub out_sum : (f : X → ℕ) (bag : List X) (got : Option X) (rest : List X) → Out bag got rest → sum_by f bag ≡ sum_by f (option_to_list got) + sum_by f rest
  out_sum f bag None rest h = omega (arith, ap (sum_by f) h)
  out_sum f bag (Some x) rest h = omega (arith, one_more_sum f x rest bag h)

  pub out_length : (bag : List X) (got : Option X) (rest : List X) → Out bag got rest → length bag ≡ length (option_to_list got) + length rest
  out_length bag None rest h = omega (arith, ap length h)
  out_length bag (Some x) rest h = omega (arith, one_more_length x rest bag h)

  pub out_all : (P : X → Type 0) (bag : List X) (got : Option X) (rest : List X) → Out bag got rest → AllByRecursion P bag → AllByRecursion P (option_to_list got) × AllByRecursion P rest
  out_all P bag None rest h all = (tt, subst (AllByRecursion P) (sym h) all)
  out_all P bag (Some x) rest h all = let k = all_shuffled P bag (x ∷ rest) (one_more_shuffled x rest bag h) all in ((k.0, tt), k.1)

  -- whether or not there was room
  pub offered_all : (P : X → Type 0) (limit : ℕ) (bag xs last : List X) → Offered limit bag xs last → AllByRecursion P bag → AllByRecursion P xs → AllByRecursion P last
  offered_all P limit bag [] last h all new = subst (AllByRecursion P) (sym h) all
  offered_all P limit bag (x ∷ xs) last (next, j, rest) all new = offered_all P limit next xs last rest (go (ltb (length bag) limit) j) new.1
    where
      go : (b : Bool) → MatchBool b (OneMore x bag next) (next ≡ bag) → AllByRecursion P next
      go true one = all_shuffled P (x ∷ bag) next (IsPermutation-sym next (x ∷ bag) (one_more_shuffled x bag next one)) (new.0, all)
      go false e = subst (AllByRecursion P) (sym e) all

  module _ (limit : ℕ) (bag : List X) (got : Option X) (added next : List X) (mv : Moved limit bag got added next) where
    pub moved_sum : (f : X → ℕ) → sum_by f next + sum_by f (option_to_list got) ≡ sum_by f bag + sum_by f added
    moved_sum f = omega (arith, out_sum f bag got mv.rest mv.out, offered_sum f limit mv.rest added next mv.offers mv.room)

    pub moved_le : (f : X → ℕ) → sum_by f (option_to_list got) ≤ sum_by f bag
    moved_le f = omega (arith, out_sum f bag got mv.rest mv.out)

    pub moved_length : length next + length (option_to_list got) ≡ length bag + length added
    moved_length = omega (arith, out_length bag got mv.rest mv.out, offered_length limit mv.rest added next mv.offers mv.room)

    pub taken_all : (P : X → Type 0) → AllByRecursion P bag → AllByRecursion P (option_to_list got) × AllByRecursion P mv.rest
    taken_all P all = out_all P bag got mv.rest mv.out all

    pub next_all : (P : X → Type 0) → AllByRecursion P mv.rest → AllByRecursion P added → AllByRecursion P next
    next_all P all new = offered_all P limit mv.rest added next mv.offers all new
