-- What a call does to its network, by the network's own rules.
use Rattle.std.specs.Prelude.{◌≡◌, List, [], ◌∷◌, length, None, MatchBool, Option, nat_lt}
use Rattle.std.specs.Option.{option_map}
use Rattle.network.specs.declared.message.Message.{Message}
use Rattle.network.specs.declared.network.Network.{Ghosts}
use Rattle.network.specs.Messages.{Plain, plain}
use Rattle.protocol.specs.Moments.{Moment, is_started, with_bag, Call, start, read, write, act, deliver, draw, finish, put_back, create, Event}
use Rattle.protocol.specs.Steps.{does}
use Rattle.protocol.specs.Laws.{Carried}
use Rattle.system.specs.declared.system.System.{System}
use Rattle.system.specs.Systems.{moment}

-- a message is sent where the network has room, and else the network stays as it is
abbrev pub Offer : {N : Type 0} → Ghosts N → N → Message → N → Type 0
Offer net n x next = MatchBool (nat_lt (length (net.bag n)) (net.bound n)) (net.sends n x next) (next ≡ n)

-- messages are offered in this order
abbrev pub Offers : {N : Type 0} → Ghosts N → N → List Plain → N → Type 0
Offers {N} net n [] last = last ≡ n
Offers {N} net n (p ∷ ps) last = (x : Message) × (next : N) × (plain x ≡ p) × Offer net n x next × Offers net next ps last

abbrev pub Left : {N : Type 0} → N → Option Message → N → Type 0
Left n got rest = (got ≡ None) × (rest ≡ n)

-- only a delivery takes a message, with the very pick that it is given
abbrev pub Takes : {N : Type 0} → Ghosts N → Moment → Call → N → Option Message → N → Type 0
Takes net m (start n l c) from got rest = Left from got rest
Takes net m (read n q) from got rest = Left from got rest
Takes net m (write n a v) from got rest = Left from got rest
Takes net m (act n k) from got rest = Left from got rest
Takes net m (deliver k) from got rest = MatchBool (is_started m) (net.takes from k got rest) (Left from got rest)
Takes net m (draw n) from got rest = Left from got rest
Takes net m (finish n p) from got rest = Left from got rest
Takes net m (put_back n p) from got rest = Left from got rest
Takes net m (create kind size) from got rest = Left from got rest

-- what a call did to the memory and to its network: what was taken, what it answered, what was offered
pub record Made {N : Type 0} (net : Ghosts N) (n : N) (m : Moment) (c : Call) (e : Event) (n' : N) (m' : Moment) : Type 0 where
  pub got : Option Message
  pub rest : N
  pub takes : Takes net m c n got rest
  pub says : e ≡ (does m c (option_map plain got)).event
  pub offers : Offers net rest (does m c (option_map plain got)).sent n'
  pub leaves : m' ≡ with_bag (does m c (option_map plain got)).after m'.bag

-- a call is carried out, and through its network just so
pub record Done {N : Type 0} (net : Ghosts N) (n : N) (m : Moment) (c : Call) (e : Event) (n' : N) (m' : Moment) : Type 0 where
  pub carried : Carried m c e m'
  pub made : Made net n m c e n' m'

abbrev pub Called : {N : Type 0} → Ghosts N → System N → Call → Event → System N → Type 0
Called net s c e s' = Done net s.network (moment net s) c e s'.network (moment net s')
