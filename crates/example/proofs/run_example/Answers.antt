use Rattle.std.proofs.Common.{refl, ◌∙◌, subst, arith}
use Rattle.std.proofs.lemmas.List.{length-set}
use Rattle.network.specs.contracts.pool.PoolNetwork.TheImpl.{ghosts as over_pool}
use Rattle.session.specs.Sessions.{Answers}
use Rattle.example.proofs.Lines.{said, fresh, begins, goes_on, ends}
use Rattle.example.proofs.run_example.Goals as goal

pub loop-i-init : goal.loop-i-init
loop-i-init c = (begins _ _ (fresh c.new-session.result c.new.result c.new-session.ensures.reached c.new-session.ensures.network c.new.ensures.empty), refl, record { is = refl })

pub loop-i-preserved : goal.loop-i-preserved
loop-i-preserved c = (
  goes_on _ _ _ _ _ _ c.loop-i-test.true (omega (arith, c.loop-i.invariant.1)) c.loop-i.invariant.0
      (subst (λ l. Answers over_pool c.loop-i.session l c.line.result c.line.new.self) (said _ _ _ c.loop-i.invariant.2 c.loop-i-test.true) c.line.ensures.answer),
  length-set _ _ _ ∙ c.loop-i.invariant.1,
  c.loop-i.invariant.2,
)

pub returns : goal.returns
returns c =
    ends _ _ _ _ (fresh c.new-session.result c.new.result c.new-session.ensures.reached c.new-session.ensures.network c.new.ensures.empty) c.new-session.ensures.laws
    (omega arith) c.loop-i.invariant.1 c.loop-i.invariant.0
