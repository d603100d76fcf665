use Rattle.std.proofs.Common.{◌≡◌, ◌<◌, length, map, rules, sym, refl, ap, ◌∙◌, subst, arith}
use Rattle.std.specs.Option.{option_map}
use Rattle.network.specs.Bags.{Offered}
use Rattle.network.specs.Messages.{plain}
use Rattle.home.specs.Cells as home
use Rattle.home.specs.Pending.{pending}
use Rattle.lines.specs.Model.{replied}
use Rattle.protocol.specs.Moments.{cell_at, board_at, with_board, with_cell, deliver, delivered}
use Rattle.protocol.specs.Steps.{at_home, delivers, takes}
use Rattle.system.specs.declared.fault.SystemFault.TheVariants.{NothingInTransit, Home}
use Rattle.system.specs.Systems.{moment}
use Rattle.system.specs.Through.{Offers}
use Rattle.system.proofs.Boards.{there, left_there}
use Rattle.system.proofs.Delivery.{too_early, delivery, goes_home, comes_back}
use Rattle.system.proofs.Offers.{replies_given}
use Rattle.system.proofs.Steps.{told}
use Rattle.system.proofs.system.System.deliver.Goals as goal

pub returns-in_err-check_started : goal.returns-in_err-check_started
returns-in_err-check_started g c =
    too_early g.N.Network c.args.self.now c.args.pick _ c.in_err-check_started.field-0.0 c.from_residual.result c.from_residual.ensures.1 c.in_err-check_started.ensures.early
    (c.in_err-check_started.ensures.rule (deliver c.args.pick) _)

pub returns-in_err-message : goal.returns-in_err-message
returns-in_err-message g c =
    let m = moment g.N.Network c.args.self.now in
    let k = c.args.pick in
    delivery g.N.Network {m = m} refl k c.take.result c.take.new.self c.take.new.self m.boards m.memory c.in_ok-check_started.ensures.within c.take.ensures.takes c.take.ensures.bag
    (ap (λ o. delivers m k (option_map plain o)) c.in_err-message.ensures.ok_part
    ∙ ap (λ e. takes e m) (told (deliver k) (λ count. delivered k count) NothingInTransit c.from_residual-in_err-message.result (search rules)))
    refl refl refl refl c.take.ensures.bound

pub returns-in_err-replies-in-Read : goal.returns-in_err-replies-in-Read
returns-in_err-replies-in-Read g c =
    let m = moment g.N.Network c.args.self.now in
    let k = c.args.pick in
    let x = c.in_ok-message.message in
    let after = home.after (cell_at m x.address.index) (plain x) in
    delivery g.N.Network {m = m} refl k c.take.result c.take.new.self c.take.new.self m.boards c.receive.new.self.cells c.in_ok-check_started.ensures.within c.take.ensures.takes c.take.ensures.bag
    (ap (λ o. delivers m k (option_map plain o)) c.in_ok-message.ensures.ok_part
    ∙ goes_home m k x c.kind.result c.kind.ensures c.in-Read.is ∙ ap (at_home m k x.address.index after) (sym c.in_err-replies-in-Read.ensures.answer)
    ∙ ap (λ e. takes e (with_cell m x.address.index after))
    (told (deliver k) (λ count. delivered k count) (Home c.in_err-replies-in-Read.field-0.0) c.from_residual-in_err-replies-in-Read.result c.from_residual-in_err-replies-in-Read.ensures.1))
    refl refl refl c.in_err-replies-in-Read.ensures.cells c.take.ensures.bound

pub returns-in-Reply : goal.returns-in-Reply
returns-in-Reply g c =
    let s = c.args.self.now in
    let m = moment g.N.Network s in
    let k = c.args.pick in
    let x = c.in_ok-message.message in
    let i = c.index.result in
    let same : i ≡ x.to.index = c.index.ensures.value ∙ ap (λ n. n.index) c.to.ensures in
    let lt : i < length s.boards = omega arith in
    let at-node = there s.boards same c.index-boards-index.result lt in
    let t = board_at m x.to.index in
    let address = ap (λ a. a.index) c.address.ensures in
    delivery g.N.Network {m = m} refl k c.take.result c.take.new.self c.take.new.self _ m.memory c.in_ok-check_started.ensures.within c.take.ensures.takes c.take.ensures.bag
    (ap (λ o. delivers m k (option_map plain o)) c.in_ok-message.ensures.ok_part ∙ comes_back m k x c.kind.result c.kind.ensures c.in-Reply.is
    ∙ ap (λ count. takes (delivered k count) (with_board m x.to.index (replied t x.address.index x.word).after))
    (sym (c.reply.ensures.answer ∙ (λ j. (replied (at-node j) (address j) (c.word.ensures j)).answer))))
    refl refl
    (left_there s.boards same c.reply.new.self (c.reply.ensures.after ∙ (λ j. (replied (at-node j) (address j) (c.word.ensures j)).after)))
    refl c.take.ensures.bound

pub returns-in_ok-replies-in-Read : goal.returns-in_ok-replies-in-Read
returns-in_ok-replies-in-Read g c =
    let m = moment g.N.Network c.args.self.now in
    let net = g.N.Network in
    let k = c.args.pick in
    let x = c.in_ok-message.message in
    let rest = c.take.new.self in
    let last = c.offer_all.new.network in
    let replies = c.in_ok-replies-in-Read.replies in
    let (given, drains, offers, bag) = c.offer_all.ensures.all in
    let out = replies_given replies given drains in
    let after = home.after (cell_at m x.address.index) (plain x) in
    delivery net {m = m} refl k c.take.result rest last m.boards c.receive.new.self.cells c.in_ok-check_started.ensures.within c.take.ensures.takes c.take.ensures.bag
    (ap (λ o. delivers m k (option_map plain o)) c.in_ok-message.ensures.ok_part
    ∙ goes_home m k x c.kind.result c.kind.ensures c.in-Read.is ∙ ap (at_home m k x.address.index after) (sym c.in_ok-replies-in-Read.ensures.answer))
    (subst (λ ms. Offers net rest ms last) out offers)
    (subst (λ b. Offered b (map plain (net.bag rest)) (pending replies) (map plain (net.bag last))) c.take.ensures.bound
    (subst (λ ms. Offered (net.bound rest) (map plain (net.bag rest)) ms (map plain (net.bag last))) out bag))
    refl c.in_ok-replies-in-Read.ensures.cells (c.offer_all.ensures.bound ∙ c.take.ensures.bound)
