-- A delivery: the network gives a message, and takes what is offered to it.
use Rattle.std.proofs.Common.{◌≡◌, ℕ, ◌≤◌, ◌⊎◌, List, map, Some, None, IsErrAnd, MatchBool, Option, Result, sym, refl, ap, ◌∙◌, subst, inl, inr}
use Rattle.std.specs.Option.{option_map}
use Rattle.std.proofs.lemmas.Bool.{cond-true}
use Rattle.network.specs.declared.message.Kind.{Kind}
use Rattle.network.specs.declared.message.Kind.TheVariants as kind
use Rattle.network.specs.declared.message.Message.{Message}
use Rattle.network.specs.declared.network.Network.{Ghosts}
use Rattle.network.specs.Bags.{Gives, Offered}
use Rattle.network.specs.Messages.{Plain, plain}
use Rattle.home.specs.declared.cell.Cell.{Cell}
use Rattle.home.specs.Cells as home
use Rattle.lines.specs.Model.{Tables, replied}
use Rattle.protocol.specs.Moments.{Moment, is_started, cell_at, board_at, with_board, with_bag, Event, deliver, delivered}
use Rattle.protocol.specs.Moments as layer
use Rattle.protocol.specs.Steps.{does, refusal, refuse, takes, delivers, brings, at_home, Untouched}
use Rattle.system.specs.declared.fault.SystemFault.{SystemFault}
use Rattle.system.specs.declared.system.System.{System}
use Rattle.system.specs.Faults.{refusal_of}
use Rattle.system.specs.Systems.{moment, answered}
use Rattle.system.specs.Through.{Left, Offers, Done}
use Rattle.system.proofs.Offers.{gives}
use Rattle.system.proofs.Steps.{at_work, not_at_work, done, stopped}

abbrev settled : Moment → List Tables → List Cell → ℕ → List Plain → Moment
settled m bs cs limit bag = record { nodes = m.nodes; cells = m.cells; boards = bs; memory = cs; end = m.end; limit = limit; bag = bag }

-- before the start nothing is asked of the network
pub too_early : {N : Type 0} (net : Ghosts N) (s : System N) (k : ℕ) {X : Type 0} (taken : X → Event) (fault : SystemFault) (r : Result X SystemFault) → IsErrAnd r (λ y. y ≡ fault) → s.nodes ≡ 0
    → does (moment net s) (deliver k) None ≡ refuse (moment net s) (deliver k) (refusal_of fault) → Done net s.network (moment net s) (deliver k) (answered (deliver k) taken r) s.network (moment net s)
too_early net s k taken fault r err z is =
    let n = s.network in
    let bag = map plain (net.bag n) in
    let idle = sym (not_at_work (moment net s) z) in
    stopped net s (deliver k) taken fault r err
    (subst (λ b. MatchBool b (net.takes n k None n) (Left n None n)) idle (refl, refl))
    (subst (λ b. MatchBool b (Gives bag None bag) (Untouched bag None bag)) idle (refl, refl)) is

module _ {N : Type 0} (net : Ghosts N) {n : N} {m : Moment} (bag : m.bag ≡ map plain (net.bag n)) (k : ℕ) where
  pub delivery : {e : Event} {ms : List Plain} {bs : List Tables} {cs : List Cell} (got : Option Message) (rest n' : N) (bs' : List Tables) (cs' : List Cell)
      → 1 ≤ m.nodes → net.takes n k got rest → Gives (net.bag n) got (net.bag rest)
      → delivers m k (option_map plain got) ≡ record { event = e; after = settled m bs cs m.limit m.bag; sent = ms }
      → Offers net rest ms n' → Offered m.limit (map plain (net.bag rest)) ms (map plain (net.bag n')) → bs' ≡ bs → cs' ≡ cs → net.bound n' ≡ m.limit
      → Done net n m (deliver k) e n' (settled m bs' cs' (net.bound n') (map plain (net.bag n')))
  delivery {e} {ms} {bs} {cs} got rest n' bs' cs' works took gave is offers offered be ce le =
      let all = cond-true (is_started m) (delivers m k (option_map plain got)) (refuse m (deliver k) (refusal 20 layer.system None None)) (at_work m works) ∙ is in
      let sent = sym (ap (λ o. o.sent) all) in
      done net (record {
        got = got;
        rest = rest;
        takes = subst (λ b. MatchBool b (net.takes n k got rest) (Left n got rest)) (sym (at_work m works)) took;
        says = sym (ap (λ o. o.event) all);
        offers = subst (λ xs. Offers net rest xs n') sent offers;
        leaves = (λ i. settled m (be i) (ce i) (le i) (map plain (net.bag n'))) ∙ sym (ap (λ o. with_bag o.after (map plain (net.bag n'))) all);
      })
      (subst (λ b. MatchBool b (Gives m.bag (option_map plain got) (map plain (net.bag rest))) (Untouched m.bag (option_map plain got) (map plain (net.bag rest)))) (sym (at_work m works))
      (subst (λ xs. Gives xs (option_map plain got) (map plain (net.bag rest))) (sym bag) (gives plain (net.bag n) got (net.bag rest) gave)))
      (subst (λ xs. Offered m.limit (map plain (net.bag rest)) xs (map plain (net.bag n'))) sent offered)

module _ (m : Moment) (k : ℕ) (x : Message) (kd : Kind) (so : kd ≡ x.kind) where
  -- the home of its address takes it, where it is no reply
  pub goes_home : (kd ≡ kind.Read) ⊎ (kd ≡ kind.Write)
      → delivers m k (Some (plain x)) ≡ at_home m k x.address.index (home.after (cell_at m x.address.index) (plain x)) (home.answer (cell_at m x.address.index) (plain x))
  goes_home (inl e) = ap (λ y. brings m k y (plain x)) (sym so ∙ e)
  goes_home (inr e) = ap (λ y. brings m k y (plain x)) (sym so ∙ e)

  pub comes_back : kd ≡ kind.Reply
      → delivers m k (Some (plain x))
      ≡ takes (delivered k (replied (board_at m x.to.index) x.address.index x.word).answer) (with_board m x.to.index (replied (board_at m x.to.index) x.address.index x.word).after)
  comes_back e = ap (λ y. brings m k y (plain x)) (sym so ∙ e)
