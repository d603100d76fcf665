-- Messages offered one after another, by the network's rule and by its bag.
use Rattle.std.proofs.Common.{◌≡◌, ℕ, Bool, true, false, ltb, List, [], ◌∷◌, ◌++◌, map, length, Some, None, MatchBool, Option, MatchOption, sym, refl, ap, ◌∙◌, subst}
use Rattle.std.proofs.lemmas.List.{length-map, map-append, map-id}
use Rattle.std.proofs.lemmas.Iterator.{items_from_drains}
use Rattle.std.proofs.lemmas.Iterator.Adapters.{YieldsList-from_once}
use Rattle.std.specs.Iterator.{Drains}
use Rattle.std.specs.declared.iter.Once.{Once}
use Rattle.std.specs.Iterator.Adapters.{once_item, once_steps}
use Rattle.std.specs.Option.{option_map, option_to_list}
use Rattle.home.specs.declared.replies.Replies.{Replies}
use Rattle.home.specs.Pending.{pending}
use Rattle.network.specs.declared.message.Message.{Message}
use Rattle.network.specs.Bags.{OneMore, Gives, Joins}
use Rattle.network.specs.Messages.{plain}

-- a bag of messages is a bag of what each of them says
module _ {X Y : Type 0} (f : X → Y) where
  one_more : (x : X) (small large : List X) → OneMore x small large → OneMore (f x) (map f small) (map f large)
  one_more x small large h = record {
    front = map f h.front;
    back = map f h.back;
    without = ap (map f) h.without ∙ map-append f h.front h.back;
    within = ap (map f) h.within ∙ map-append f h.front (x ∷ h.back);
  }

  pub gives : (bag : List X) (o : Option X) (rest : List X) → Gives bag o rest → Gives (map f bag) (option_map f o) (map f rest)
  gives bag None rest h = (ap (map f) h.0, ap (map f) h.1)
  gives bag (Some x) rest h = one_more x rest bag h

  joins_by : (bag : List X) (x : X) (next : List X) (b : Bool) → MatchBool b (OneMore x bag next) (next ≡ bag) → MatchBool b (OneMore (f x) (map f bag) (map f next)) (map f next ≡ map f bag)
  joins_by bag x next true h = one_more x bag next h
  joins_by bag x next false h = ap (map f) h

  pub joins : (limit : ℕ) (bag : List X) (x : X) (next : List X) → Joins limit bag x next → Joins limit (map f bag) (f x) (map f next)
  joins limit bag x next h = subst (λ k. MatchBool (ltb k limit) (OneMore (f x) (map f bag) (map f next)) (map f next ≡ map f bag)) (sym (length-map bag f)) (joins_by bag x next (ltb (length bag) limit) h)

-- what was offered, one more, and the others
pub one_more_offered : {X Y : Type 0} (f : X → Y) (xs : List X) (x : X) (ys : List Y) → map f (xs ++ x ∷ []) ++ ys ≡ map f xs ++ f x ∷ ys
one_more_offered f [] x ys = refl
one_more_offered f (z ∷ zs) x ys = ap (λ l. f z ∷ l) (one_more_offered f zs x ys)

-- all that replies give is what is pending
pub replies_given : (s : Replies) (xs : List Message) → Drains (λ s r t. MatchOption r (pending s ≡ []) (λ reply. pending s ≡ plain reply ∷ pending t)) s xs → map plain xs ≡ pending s
replies_given s [] (u, (t, is, none)) = sym (ap pending is ∙ none)
replies_given s (x ∷ xs) (u, (t, (next, step, steps), none)) = ap (λ l. plain x ∷ l) (replies_given next xs (u, (t, steps, none))) ∙ sym step

listed_plain : (o : Option Message) → map plain (option_to_list o) ≡ option_to_list (option_map plain o)
listed_plain None = refl
listed_plain (Some x) = refl

-- and all that one message or none gives
pub message_given : (s : Once Message) (o : Option Message) (xs : List Message) → once_item s ≡ o → Drains once_steps s xs → map plain xs ≡ option_to_list (option_map plain o)
message_given s o xs is (u, (t, steps, none)) =
    ap (map plain) (sym (map-id xs) ∙ items_from_drains xs (t, steps, λ _. (u, none)) (YieldsList-from_once o is)) ∙ listed_plain o
