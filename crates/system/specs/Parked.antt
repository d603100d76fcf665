-- Which places of which nodes are parked.
use Rattle.std.specs.Prelude.{ℕ, Bool, false, List, [], slice_index_or, slice_set}

abbrev pub is_parked : List (List Bool) → ℕ → ℕ → Bool
is_parked rows n p = slice_index_or (slice_index_or rows n []) p false

abbrev pub parking : List (List Bool) → ℕ → ℕ → Bool → List (List Bool)
parking rows n p parked = slice_set rows n (slice_set (slice_index_or rows n []) p parked)
