use Rattle.std.proofs.Common.{◌≡◌, ◌%◌, length, refl, sym, subst, ap, ◌∙◌, mod-lt, arith}
use Rattle.bounded.specs.Listed.{listed}
use Rattle.network.specs.Bags.{TakenAt}
use Rattle.network.proofs.Bags.{none_taken, taken_at}
use Rattle.network.proofs.pool.PoolNetwork.take.Goals as goal

pub returns-in_err-position : goal.returns-in_err-position
returns-in_err-position c =
    let ms = listed c.args.self.now.held in
    let none : length ms ≡ 0 = omega (arith, c.in_err-position.ensures) in
    let t = subst (λ r. TakenAt (c.args.pick % length ms) ms r ms) (sym c.from_residual.ensures) (none_taken (c.args.pick % length ms) ms none) in
    record { bag = taken_at _ _ _ _ (λ some. absurd (omega arith)) t; bound = refl; takes = t }

pub returns : goal.returns
returns c =
    let ms = listed c.args.self.now.held in
    let e = c.remove.ensures in
    let place : _ ≡ c.args.pick % length ms = c.in_ok-position.ensures.1 ∙ ap (λ n. c.args.pick % n) (omega (arith, c.len.ensures.value)) in
    let t = subst (λ i. TakenAt i ms c.remove.result (listed c.remove.new.self)) place (e.answer, e.after) in
    record { bag = taken_at _ _ _ _ (λ some. mod-lt c.args.pick some) t; bound = refl; takes = t }
