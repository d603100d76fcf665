use Rattle.std.proofs.Common.{[], ◌∷◌, map, sym, refl, ◌∙◌, subst}
use Rattle.std.proofs.lemmas.List.{append-nil}
use Rattle.std.specs.Iterator.{Yields}
use Rattle.network.specs.Bags.{Joins, Offered}
use Rattle.network.specs.Messages.{plain}
use Rattle.system.specs.Through.{Offers}
use Rattle.system.proofs.Offers.{joins, one_more_offered}
use Rattle.system.proofs.system.offers.offer_all.Goals as goal

pub loop-message-preserved : goal.loop-message-preserved
loop-message-preserved g c =
    let net = g.N.Network in
    let n = c.loop-message.network in
    let next = c.offer.new.network in
    let x = c.in-Some.message in
    let first = c.args.network.now in
    let limit = net.bound first in
    let joined = subst (λ k. Joins k (net.bag n) x (net.bag next)) c.loop-message.invariant.0 c.offer.ensures.bag in (
      c.offer.ensures.bound ∙ c.loop-message.invariant.0,
      (λ ps last h. subst (λ ms. Offers net first ms last) (sym (one_more_offered plain c.loop-message.yielded x ps))
          (c.loop-message.invariant.1 (plain x ∷ ps) last (x, next, refl, c.offer.ensures.offer, h))),
      (λ ps last h. subst (λ ms. Offered limit (map plain (net.bag first)) ms last) (sym (one_more_offered plain c.loop-message.yielded x ps))
          (c.loop-message.invariant.2 (plain x ∷ ps) last (map plain (net.bag next), joins plain limit (net.bag n) x (net.bag next) joined, h))),
    )

pub returns : goal.returns
returns g c =
    let net = g.N.Network in
    let first = c.args.network.now in
    let last = c.loop-message.network in
    let sent = c.loop-message.yielded in
    let all = append-nil (map plain sent) in
    record {
      all = (
        sent,
        (_, (_, subst (λ s. Yields g.I.Iterator.next_gives s sent c.loop-message.message-iterator) c.into_iter-message-iterator.ensures.into_iter_gives c.loop-message.yielded_by, c.in-None.ensures.steps)),
        subst (λ ms. Offers net first ms last) all (c.loop-message.invariant.1 [] last refl),
        subst (λ ms. Offered (net.bound first) (map plain (net.bag first)) ms (map plain (net.bag last))) all (c.loop-message.invariant.2 [] (map plain (net.bag last)) refl),
      );
      bound = c.loop-message.invariant.0;
    }
