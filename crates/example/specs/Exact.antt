-- Over the pool, what a call answers and leaves is computed.
use Rattle.std.specs.Prelude.{◌≡◌}
use Rattle.network.specs.contracts.pool.PoolNetwork.TheImpl.{ghosts as over_pool}
use Rattle.network.specs.declared.pool.Pool.{Pool}
use Rattle.protocol.specs.Moments.{Call, Event}
use Rattle.protocol.specs.Edges.{pool_says, pool_leaves}
use Rattle.system.specs.declared.system.System.{System}
use Rattle.system.specs.Systems.{moment}
use Rattle.system.specs.Through.{Called}

abbrev pub ExactOverPool : Type 0
ExactOverPool = (s s' : System Pool) (c : Call) (e : Event) → Called over_pool s c e s' →
    (e ≡ pool_says (moment over_pool s) c) × (moment over_pool s' ≡ pool_leaves (moment over_pool s) c)
