-- A call is carried out: from what it does to the memory and to its network.
use Rattle.std.proofs.Common.{◌≡◌, ℕ, ◌≤◌, true, false, eqb, List, map, set, None, Ok, Err, IsErrAnd, Result, sym, refl, ap, ◌∙◌, subst, arith}
use Rattle.std.specs.Option.{option_map}
use Rattle.std.proofs.lemmas.List.{set-get_or}
use Rattle.std.proofs.lemmas.Bool.{ne_eqb, eq-eqb, not_from_false, not_from_true}
use Rattle.network.specs.declared.network.Network.{Ghosts}
use Rattle.network.specs.Bags.{Offered}
use Rattle.network.specs.Messages.{plain}
use Rattle.lines.specs.Model.{Tables, start}
use Rattle.protocol.specs.Moments.{Moment, is_started, board_at, Call, Event, refused, with_bag, with_board}
use Rattle.protocol.specs.Steps.{Outcome, does, at_node, takes, refuse, Asks, Step}
use Rattle.protocol.proofs.Laws.{law_of_runs}
use Rattle.system.specs.declared.fault.SystemFault.{SystemFault}
use Rattle.system.specs.Faults.{refusal_of}
use Rattle.system.specs.declared.system.System.{System}
use Rattle.system.specs.Systems.{moment, answered}
use Rattle.system.specs.Through.{Takes, Offers, Made, Done}

pub at_work : (m : Moment) → 1 ≤ m.nodes → is_started m ≡ true
at_work m some = not_from_false (eqb m.nodes 0) (ne_eqb m.nodes 0 (λ none. omega (arith, some, none)))

pub not_at_work : (m : Moment) → m.nodes ≡ 0 → is_started m ≡ false
not_at_work m z = not_from_true (eqb m.nodes 0) (eq-eqb m.nodes 0 z)

-- the step on bags follows from what was done to the network, and from what that did to its bag
pub done : {N : Type 0} (net : Ghosts N) {n n' : N} {m m' : Moment} {c : Call} {e : Event} (d : Made net n m c e n' m') → Asks m c (option_map plain d.got) (map plain (net.bag d.rest))
    → Offered m.limit (map plain (net.bag d.rest)) (does m c (option_map plain d.got)).sent m'.bag → Done net n m c e n' m'
done net {n} {n'} {m} {m'} {c} {e} d asks offered =
    let s : Step m c e m' = record {
      got = option_map plain d.got;
      rest = map plain (net.bag d.rest);
      asks = asks;
      says = d.says;
      offers = offered;
      leaves = d.leaves;
    } in
    record { carried = record { step = s; runs = law_of_runs m c e m' s }; made = d }

-- a call that neither takes nor sends
pub quiet : {N : Type 0} (net : Ghosts N) {n : N} {m m' : Moment} {e : Event} (c : Call) → Takes net m c n None n → Asks m c None (map plain (net.bag n)) → does m c None ≡ takes e m'
    → m'.bag ≡ map plain (net.bag n) → Done net n m c e n m'
quiet net {n} {m} {m'} {e} c none asks is bag =
    done net (record {
      got = None;
      rest = n;
      takes = none;
      says = sym (ap (λ o. o.event) is);
      offers = subst (λ ms. Offers net n ms n) (sym (ap (λ o. o.sent) is)) refl;
      leaves = sym (ap (λ o. with_bag o.after m'.bag) is);
    }) asks (subst (λ ms. Offered m.limit (map plain (net.bag n)) ms m'.bag) (sym (ap (λ o. o.sent) is)) bag)

-- the event of a call whose answer is a fault
pub told : {X : Type 0} (c : Call) (taken : X → Event) (fault : SystemFault) (r : Result X SystemFault) → IsErrAnd r (λ y. y ≡ fault) → refused c (refusal_of fault) ≡ answered c taken r
told c taken fault (Ok x) err = absurd err
told c taken fault (Err y) err = ap (λ f. refused c (refusal_of f)) (sym err)

-- a check stopped the call, whose answer is its fault
pub stopped : {N : Type 0} (net : Ghosts N) (s : System N) {X : Type 0} (c : Call) (taken : X → Event) (fault : SystemFault) (r : Result X SystemFault) → IsErrAnd r (λ y. y ≡ fault)
    → Takes net (moment net s) c s.network None s.network → Asks (moment net s) c None (map plain (net.bag s.network)) → does (moment net s) c None ≡ refuse (moment net s) c (refusal_of fault)
    → Done net s.network (moment net s) c (answered c taken r) s.network (moment net s)
stopped net s c taken fault r err none asks is = quiet net {m = moment net s} c none asks (is ∙ ap (λ e. takes e (moment net s)) (told c taken fault r err)) refl

-- the same, where the node was checked by a number that is equal
pub stopped_at : {N : Type 0} (net : Ghosts N) (s : System N) {X : Type 0} (c : Call) (taken : X → Event) (fault : SystemFault) (r : Result X SystemFault) → IsErrAnd r (λ y. y ≡ fault)
    → Takes net (moment net s) c s.network None s.network → Asks (moment net s) c None (map plain (net.bag s.network)) → {k n : ℕ} → k ≡ n
    → ((o : Outcome) → at_node (moment net s) c k o ≡ refuse (moment net s) c (refusal_of fault)) → (all : Outcome) → does (moment net s) c None ≡ at_node (moment net s) c n all
    → Done net s.network (moment net s) c (answered c taken r) s.network (moment net s)
stopped_at net s c taken fault r err none asks same rule all is =
    stopped net s c taken fault r err none asks (is ∙ subst (λ k. at_node (moment net s) c k all ≡ refuse (moment net s) c (refusal_of fault)) same (rule all))

-- the boards of a moment are others
abbrev pub with_boards : Moment → List Tables → Moment
with_boards m bs = record { nodes = m.nodes; cells = m.cells; boards = bs; memory = m.memory; end = m.end; limit = m.limit; bag = m.bag }

-- the board of node k is now another
pub quiet_board : {N : Type 0} (net : Ghosts N) {n : N} {m : Moment} {e : Event} (c : Call) (bs : List Tables) (k : ℕ) (t : Tables) → Takes net m c n None n → Asks m c None (map plain (net.bag n))
    → bs ≡ set m.boards k t → does m c None ≡ takes e (with_board m k t) → m.bag ≡ map plain (net.bag n) → Done net n m c e n (with_boards m bs)
quiet_board net {n} {m} {e} c bs k t none asks b is bag = quiet net c none asks (is ∙ ap (λ x. takes e (with_boards m x)) (sym b)) bag

-- it is as it was
pub unmoved : {N : Type 0} (net : Ghosts N) {n : N} {m : Moment} {e : Event} (c : Call) (bs : List Tables) (k : ℕ) (t : Tables) → Takes net m c n None n → Asks m c None (map plain (net.bag n))
    → bs ≡ set m.boards k t → t ≡ board_at m k → does m c None ≡ takes e m → m.bag ≡ map plain (net.bag n) → Done net n m c e n (with_boards m bs)
unmoved net {n} {m} {e} c bs k t none asks b stays is bag =
    quiet net c none asks (is ∙ ap (λ x. takes e (with_boards m x)) (sym (b ∙ ap (set m.boards k) stays ∙ set-get_or m.boards k (start 1)))) bag
