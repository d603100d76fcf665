-- What every kind of element owes.
use Rattle.std.specs.Prelude.{◌≡◌, ℕ, Ok, Result}

-- r is what opening a word answers: an element exactly where it is packed into this word, so a refusal of any other word
pub record Opens {E F : Type 0} (valid : E → Type 0) (packed : E → ℕ) (word : ℕ) (r : Result E F) : Type 0 where
  pub back : (e : E) → valid e → packed e ≡ word → r ≡ Ok e
  pub only : (e : E) → r ≡ Ok e → valid e × (packed e ≡ word)
