-- What a finish and a put back of a place that is not drawn are refused for.
use Rattle.std.specs.Prelude.{◌≡◌, ℕ, false, None}
use Rattle.lines.specs.Model.{is_drawn}
use Rattle.protocol.specs.Moments.{Moment, place_at, Call, finish, put_back, Refusal}
use Rattle.protocol.specs.Steps.{does, refuse}

-- the call is refused so of every place that is not drawn at the node
abbrev pub RefusedUndrawn : Moment → ℕ → (ℕ → Call) → Refusal → Type 0
RefusedUndrawn m n call why = (p : ℕ) → is_drawn (place_at m n p) ≡ false → does m (call p) None ≡ refuse m (call p) why

pub record Undrawn (m : Moment) (n : ℕ) (why : Refusal) : Type 0 where
  pub finishing : RefusedUndrawn m n (finish n) why
  pub returning : RefusedUndrawn m n (put_back n) why
