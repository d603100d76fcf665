use Rattle.std.proofs.Common.{◌≡◌, ℕ, ◌+◌, ◌<◌, length, map, rules, set, refl, ◌∙◌, subst, arith}
use Rattle.std.specs.Option.{option_map}
use Rattle.network.specs.Bags.{Offered}
use Rattle.network.specs.Messages.{plain}
use Rattle.lines.specs.Boards.{tables}
use Rattle.lines.specs.Model as board
use Rattle.lines.specs.Plain.{plain_outgoing}
use Rattle.protocol.specs.Moments.{act}
use Rattle.system.specs.Systems.{moment}
use Rattle.system.specs.Through.{Offers}
use Rattle.system.proofs.Acting.{acts_on, acts_not, goes_so}
use Rattle.system.proofs.Boards.{there, left_there}
use Rattle.system.proofs.Offers.{message_given}
use Rattle.system.proofs.Steps.{stopped, with_boards}
use Rattle.system.proofs.system.System.act.Goals as goal

pub returns-in_err-me : goal.returns-in_err-me
returns-in_err-me g c =
    let call = act c.args.node c.args.pick in
    stopped g.N.Network c.args.self.now call _ c.in_err-me.field-0.0 c.from_residual.result c.from_residual.ensures.1 (refl, refl) (refl, refl) (c.in_err-me.ensures.rule call _)

pub returns-in_err-done : goal.returns-in_err-done
returns-in_err-done g c =
    let net = g.N.Network in
    let s = c.args.self.now in
    let m = moment net s in
    let n = c.args.node in
    let k = c.args.pick in
    let l = c.count.result + c.waiting.result in
    let me = c.in_ok-me.ensures.within.0 in
    let same : c.index.result ≡ n = c.index.ensures.value ∙ me in
    let lt : c.index.result < length s.boards = omega arith in
    let at-node = there s.boards same c.index-boards-index.result lt in
    acts_not net s.network m refl (g.met.N.Network.small s.network) n k c.in_ok-me.ensures.within.1 (λ o. c.in_ok-me.ensures.rule (act n k) o)
    l (omega (arith, c.count.ensures, c.waiting.ensures.value)) c.act.result _
    (c.act.ensures.answer ∙ (λ i. (board.acted (me i) (at-node i) k l (c.limit.ensures i)).answer))
    (left_there s.boards same c.act.new.self (c.act.ensures.after ∙ (λ i. (board.acted (me i) (at-node i) k l (c.limit.ensures i)).after)))
    c.in_err-done.field-0.0 c.from_residual-in_err-done.result (search rules) c.from_residual-in_err-done.ensures.1

pub returns : goal.returns
returns g c =
    let net = g.N.Network in
    let s = c.args.self.now in
    let m = moment net s in
    let n = c.args.node in
    let k = c.args.pick in
    let l : ℕ = c.count.result + c.waiting.result in
    let d = c.in_ok-done.done in
    let last = c.offer_all.new.network in
    let me = c.in_ok-me.ensures.within.0 in
    let same : c.index.result ≡ n = c.index.ensures.value ∙ me in
    let lt : c.index.result < length s.boards = omega arith in
    let at-node = there s.boards same c.index-boards-index.result lt in
    let (given, drains, offers, bag) = c.offer_all.ensures.all in
    let out = message_given _ c.message-message.result given c.into_iter.ensures.into_iter_gives.0 drains ∙ c.message-message.ensures ∙ (λ i. goes_so (with_boards m (map tables (set s.boards c.index.result c.act.new.self))) m (me i) (option_map plain_outgoing d.sends) refl i) in
    acts_on net s.network m refl (g.met.N.Network.small s.network) n k c.in_ok-me.ensures.within.1 (λ o. c.in_ok-me.ensures.rule (act n k) o)
    l (omega (arith, c.count.ensures, c.waiting.ensures.value)) c.act.result _
    (c.act.ensures.answer ∙ (λ i. (board.acted (me i) (at-node i) k l (c.limit.ensures i)).answer))
    (left_there s.boards same c.act.new.self (c.act.ensures.after ∙ (λ i. (board.acted (me i) (at-node i) k l (c.limit.ensures i)).after)))
    d last (search rules)
    (subst (λ ms. Offers net s.network ms last) out offers)
    (subst (λ ms. Offered m.limit (map plain (net.bag s.network)) ms (map plain (net.bag last))) out bag) c.offer_all.ensures.bound
