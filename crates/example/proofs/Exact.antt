-- Over the pool, what a call answers and leaves is computed.
use Rattle.std.proofs.Common.{◌≡◌, ℕ, suc, ◌%◌, Bool, true, false, cond, ltb, List, [], ◌∷◌, ◌++◌, map, length, take, drop, MatchBool, Option, sym, ap, ◌∙◌}
use Rattle.std.specs.List.{slice_get, remove}
use Rattle.std.specs.Option.{option_map}
use Rattle.std.proofs.lemmas.List.{length-map, map-append, map_push, take-map, drop-map}
use Rattle.std.proofs.lemmas.Option.{slice_get-map}
use Rattle.bounded.specs.Listed.{listed}
use Rattle.network.specs.contracts.pool.PoolNetwork.TheImpl.{ghosts as over_pool}
use Rattle.network.specs.declared.message.Message.{Message}
use Rattle.network.specs.declared.pool.Pool.{Pool}
use Rattle.network.specs.Messages.{Plain, plain}
use Rattle.network.specs.Rules.{Appended, PoolTakes}
use Rattle.protocol.specs.Moments.{Moment, is_started, with_bag, Call, start, read, write, act, deliver, draw, finish, put_back, create}
use Rattle.protocol.specs.Steps.{does}
use Rattle.protocol.specs.Edges.{Handed, unasked, picked, hands, behind}
use Rattle.system.specs.Systems.{moment}
use Rattle.system.specs.Through.{Offers, Left, Takes}
use Rattle.example.specs.Exact.{ExactOverPool}

-- what a pool holds
abbrev held : Pool → List Plain
held n = map plain (listed n.held)

removed-map : {X Y : Type 0} (f : X → Y) (xs : List X) (i : ℕ) → map f (remove xs i) ≡ remove (map f xs) i
removed-map f xs i = map-append f (take i xs) (drop (suc i) xs) ∙ (λ k. sym (take-map f i xs) k ++ sym (drop-map f (suc i) xs) k)

-- what comes out, and what is left
abbrev HandedAs : Option Message → Pool → Handed → Type 0
HandedAs got rest h = (option_map plain got ≡ h.got) × (held rest ≡ h.rest)

left_as : (n : Pool) (got : Option Message) (rest : Pool) → Left n got rest → HandedAs got rest (unasked (held n))
left_as n got rest h = (ap (option_map plain) h.0, ap held h.1)

picked_as : (n : Pool) (k : ℕ) (got : Option Message) (rest : Pool) → PoolTakes (listed n.held) k got (listed rest.held) → HandedAs got rest (picked (held n) k)
picked_as n k got rest h =
    let at = ap (λ l. k % l) (sym (length-map (listed n.held) plain)) in (
      ap (option_map plain) h.0 ∙ sym (slice_get-map plain (listed n.held) (k % length (listed n.held))) ∙ ap (slice_get (held n)) at,
      ap (map plain) h.1 ∙ removed-map plain (listed n.held) (k % length (listed n.held)) ∙ ap (remove (held n)) at,
    )

once : (b : Bool) (n : Pool) (k : ℕ) (got : Option Message) (rest : Pool) → MatchBool b (PoolTakes (listed n.held) k got (listed rest.held)) (Left n got rest) → HandedAs got rest (cond b (picked (held n) k) (unasked (held n)))
once true n k got rest h = picked_as n k got rest h
once false n k got rest h = left_as n got rest h

taken : (m : Moment) (n : Pool) (c : Call) (got : Option Message) (rest : Pool) → Takes over_pool m c n got rest → HandedAs got rest (hands (with_bag m (held n)) c)
taken m n (start _ _ _) got rest h = left_as n got rest h
taken m n (read _ _) got rest h = left_as n got rest h
taken m n (write _ _ _) got rest h = left_as n got rest h
taken m n (act _ _) got rest h = left_as n got rest h
taken m n (deliver k) got rest h = once (is_started m) n k got rest h
taken m n (draw _) got rest h = left_as n got rest h
taken m n (finish _ _) got rest h = left_as n got rest h
taken m n (put_back _ _) got rest h = left_as n got rest h
taken m n (create _ _) got rest h = left_as n got rest h

joined : (n : Pool) (x : Message) (next : Pool) (b : Bool) → MatchBool b (Appended (listed n.held) x (listed next.held)) (next ≡ n) → held next ≡ cond b (held n ++ plain x ∷ []) (held n)
joined n x next true h = ap (map plain) h ∙ map_push plain (listed n.held) x
joined n x next false h = ap held h

offered : (n : Pool) (ps : List Plain) (last : Pool) → Offers over_pool n ps last → held last ≡ behind 64 (held n) ps
offered n [] last h = ap held h
offered n (p ∷ ps) last (x, next, e, o, rest) =
    offered next ps last rest
    ∙ ap (λ b. behind 64 b ps)
    (joined n x next (ltb (length (listed n.held)) 64) o ∙ (λ i. cond (ltb (sym (length-map (listed n.held) plain) i) 64) (held n ++ e i ∷ []) (held n)))

pub exact : ExactOverPool
exact s s' c e called =
    let m = moment over_pool s in
    let d = called.made in
    let (got, rest) = taken m s.network c d.got d.rest d.takes in (
      d.says ∙ (λ i. (does m c (got i)).event),
      d.leaves ∙ (λ i. with_bag (does m c (got i)).after ((offered d.rest (does m c (option_map plain d.got)).sent s'.network d.offers ∙ (λ k. behind 64 (rest k) (does m c (got k)).sent)) i)),
    )
