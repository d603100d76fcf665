-- A set of nodes that is kept as a number's binary digits.
use Rattle.std.specs.Prelude.{◌≡◌, ℕ, zero, suc, ◌+◌, ◌-◌, ◌/◌, ◌%◌, ◌^◌, ◌<◌, ◌≤◌, cond, ◌⊎◌, List, [], ◌∷◌, ◌==◌, bit_and, bit_or, count_ones}

-- the members from k on, of which there are d: the lowest digit says whether k is one
unfoldable pub members_from : ℕ → ℕ → ℕ → List ℕ
members_from zero k mask = []
members_from (suc d) k mask = cond (mask % 2 == 0) (members_from d (suc k) (mask / 2)) (k ∷ members_from d (suc k) (mask / 2))

-- the members of a set of 16, in rising order
unfoldable pub members : ℕ → List ℕ
unfolding members_from
members mask = members_from 16 0 mask

-- whether a node is in the set
abbrev pub Member : ℕ → ℕ → Type 0
Member mask node = (node < 16) × (mask / 2 ^ node % 2 ≡ 1)

-- the set of one node
abbrev pub alone : ℕ → ℕ
alone node = 2 ^ node

-- the set with a node more
abbrev pub joined : ℕ → ℕ → ℕ
joined mask node = bit_or mask (2 ^ node)

-- the set without its lowest member: in mask - 1 that digit is 0, those above are the same, and mask has none below
abbrev pub without_lowest : ℕ → ℕ
without_lowest mask = bit_and mask (mask - 1)

-- each is above the one before, and none is below `low`
unfoldable pub RisingFrom : ℕ → List ℕ → Type 0
RisingFrom low [] = Unit {0}
RisingFrom low (x ∷ xs) = (low ≤ x) × RisingFrom (suc x) xs

-- k is one of the list's
unfoldable pub Holds : List ℕ → ℕ → Type 0
Holds [] k = ⊥
Holds (x ∷ xs) k = (x ≡ k) ⊎ Holds xs k

-- `members` lists what is in the set, nothing else, and each once, in rising order
pub record Listing (mask : ℕ) : Type 0 where
  pub rising : RisingFrom 0 (members mask)
  pub only : (node : ℕ) → Holds (members mask) node → Member mask node
  pub every : (node : ℕ) → Member mask node → Holds (members mask) node

-- `joined` adds the node and nothing else, and counts it once
pub record Gains (mask node : ℕ) : Type 0 where
  pub fits : mask < 2 ^ 16 → joined mask node < 2 ^ 16
  pub there : Member (joined mask node) node
  pub kept : (k : ℕ) → Member mask k → Member (joined mask node) k
  pub only : (k : ℕ) → Member (joined mask node) k → Member mask k ⊎ (k ≡ node)
  pub again : Member mask node → count_ones (joined mask node) ≡ count_ones mask
  pub anew : (Member mask node → ⊥) → count_ones (joined mask node) ≡ count_ones mask + 1
