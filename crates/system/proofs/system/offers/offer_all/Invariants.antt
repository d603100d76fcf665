use Rattle.std.proofs.Common.{◌≡◌, List, map, ◌++◌}
use Rattle.network.specs.Bags.{Offered}
use Rattle.network.specs.Messages.{Plain, plain}
use Rattle.system.specs.Through.{Offers}
use Rattle.system.proofs.system.offers.offer_all.Given as goal

-- what is offered from here on completes what was offered from the first
abbrev pub invariant-loop-message : goal.invariant-loop-message
invariant-loop-message g l =
    (g.N.Network.bound l.network ≡ g.N.Network.bound l.initial.network)
    × ((ps : List Plain) (last : g.row.N.Denot) → Offers g.N.Network l.network ps last → Offers g.N.Network l.initial.network (map plain l.yielded ++ ps) last)
    × ((ps last : List Plain) → Offered (g.N.Network.bound l.initial.network) (map plain (g.N.Network.bag l.network)) ps last
    → Offered (g.N.Network.bound l.initial.network) (map plain (g.N.Network.bag l.initial.network)) (map plain l.yielded ++ ps) last)
