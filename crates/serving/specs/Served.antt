-- What is written while a session runs lines.
use Rattle.std.specs.Prelude.{◌≡◌, ℕ, List, [], ◌∷◌, ◌++◌, Option}
use Rattle.std.specs.Io.KnownBytes.{Appends}
use Rattle.network.specs.declared.network.Network.{Ghosts}
use Rattle.protocol.specs.Steps.{Reached}
use Rattle.system.specs.Systems.{moment}
use Rattle.script.specs.declared.answer.Answer.{Answer}
use Rattle.script.specs.Answers.{answer_text}
use Rattle.script.specs.Inputs.{InputLine, joined}
use Rattle.script.specs.Readers.{Reading, read_all}
use Rattle.script.specs.Texts.{ended}
use Rattle.session.specs.declared.session.Session.{Session}
use Rattle.session.specs.Sessions.{Answers}

-- the lines that a session ran and the texts of its answers, oldest first
pub data Served {N : Type 0} (net : Ghosts N) (s : Session N) : List InputLine → List (List ℕ) → Session N → Type 0 where
  no_line : Served net s [] [] s
  one_more : {ls : List InputLine} {ts : List (List ℕ)} {s₁ s₂ : Session N} (line : InputLine) (answer : Answer) → Served net s ls ts s₁ → Answers net s₁ line answer s₂ → Served net s (ls ++ line ∷ []) (ts ++ answer_text answer ∷ []) s₂

-- a session ran a line, and what is written grows by the answer's text with a line feed
pub record Adds {N : Type 0} (net : Ghosts N) (s : Session N) (line : InputLine) (s' : Session N) (before after : Option (List ℕ)) : Type 0 where
  pub answer : Answer
  pub answers : Answers net s line answer s'
  pub grows : Appends before after (ended (answer_text answer))

-- a session ran lines, and what is written grows by the texts of its answers, each with a line feed
pub record Written {N : Type 0} (net : Ghosts N) (s : Session N) (ls : List InputLine) (s' : Session N) (before after : Option (List ℕ)) : Type 0 where
  pub texts : List (List ℕ)
  pub served : Served net s ls texts s'
  pub grows : Appends before after (joined texts)

-- some of all lines are so run, and the others are those of the bytes that are left, after what is read of a line
pub record Going {N : Type 0} (net : Ghosts N) (s : Session N) (before : Option (List ℕ)) (all : List InputLine) (left : List ℕ) (s' : Session N) (m : Reading) (after : Option (List ℕ)) : Type 0 where
  pub ran : List InputLine
  pub written : Written net s ran s' before after
  pub others : all ≡ ran ++ read_all m left

-- bytes are taken: whatever comes after them, its lines are what is left
abbrev pub Feeds : {N : Type 0} → Ghosts N → List ℕ → Session N → Reading → Option (List ℕ) → Session N → Reading → Option (List ℕ) → Type 0
Feeds {N} net bytes s m b s' m' b' = (first : Session N) (before : Option (List ℕ)) (all : List InputLine) (rest : List ℕ) → Going net first before all (bytes ++ rest) s m b → Going net first before all rest s' m' b'

-- the input ends: all lines are run
abbrev pub Ends : {N : Type 0} → Ghosts N → Session N → Reading → Option (List ℕ) → Session N → Option (List ℕ) → Type 0
Ends {N} net s m b s' b' = (first : Session N) (before : Option (List ℕ)) (all : List InputLine) → Going net first before all [] s m b → Written net first all s' before b'

-- a session over the network, with no history, ran all these lines
pub record Serves {N : Type 0} (net : Ghosts N) (network : N) (all : List InputLine) (before after : Option (List ℕ)) : Type 0 where
  pub first : Session N
  pub fresh : Reached [] (moment net first.system)
  pub over : first.system.network ≡ network
  pub last : Session N
  pub written : Written net first all last before after
