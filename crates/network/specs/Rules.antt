-- The rule of each network: what an accepted send and a take do exactly.
use Rattle.std.specs.Prelude.{◌≡◌, ℕ, suc, ◌/◌, ◌%◌, Bool, true, false, cond, List, [], ◌∷◌, ◌++◌, length, Some, None, MatchBool, Option, ◌==◌, nat_lt}
use Rattle.rounds.specs.Rounds.{first_round}
use Rattle.network.specs.declared.message.Message.{Message}
use Rattle.network.specs.Bags.{TakenAt, Tried}

-- a send behind the others
abbrev pub Appended : {X : Type 0} → List X → X → List X → Type 0
Appended xs x ys = ys ≡ xs ++ x ∷ []

-- a pool: the message at position pick mod count
abbrev pub PoolTakes : {X : Type 0} → List X → ℕ → Option X → List X → Type 0
PoolTakes xs pick r ys = TakenAt (pick % length xs) xs r ys

-- the position of the oldest message to destination d, or the length where there is none
abbrev pub first_to : ℕ → List Message → ℕ
first_to d [] = 0
first_to d (m ∷ ms) = cond (m.to.index == d) 0 (suc (first_to d ms))

-- some message goes to destination d
abbrev pub waits : List Message → ℕ → Bool
waits ms d = nat_lt (first_to d ms) (length ms)

-- the oldest message to a destination comes out, and nothing where there is none
abbrev pub OldestTo : Option ℕ → List Message → Option Message → List Message → Type 0
OldestTo None ms r rest = (r ≡ None) × (rest ≡ ms)
OldestTo (Some d) ms r rest = TakenAt (first_to d ms) ms r rest

-- lanes: the first of the sixteen destinations with messages, from pick mod 16 up and round
abbrev pub LanesTake : List Message → ℕ → Option Message → List Message → Type 0
LanesTake ms pick r rest = OldestTo (first_round (waits ms) 16 (pick % 16)) ms r rest

-- a send to a first network while that has room, and else to a second; the other stays
abbrev pub SentOn : {X S T : Type 0} → Bool → (S → X → S → Type 0) → (T → X → T → Type 0) → S → T → X → S → T → Type 0
SentOn true first second s t x s' t' = first s x s' × (t' ≡ t)
SentOn false first second s t x s' t' = (s' ≡ s) × second t x t'

-- a twin: an even pick tries the first before the second, an odd one the second before the first; half of it is passed on
abbrev pub TwinTakes : {X S T : Type 0} → (S → ℕ → Option X → S → Type 0) → (T → ℕ → Option X → T → Type 0) → S → T → ℕ → Option X → S → T → Type 0
TwinTakes first second s t pick r s' t' =
    MatchBool (pick % 2 == 0)
    (Tried (λ n. first n (pick / 2)) s s' (λ n. second n (pick / 2)) t r t')
    (Tried (λ n. second n (pick / 2)) t t' (λ n. first n (pick / 2)) s r s')
