-- The portal's example, run on a session over a pool.
use Rattle.std.specs.Prelude.{◌≡◌, ℕ, List, [], ◌∷◌, map, reverse, codes}
use Rattle.network.specs.contracts.pool.PoolNetwork.TheImpl.{ghosts as over_pool}
use Rattle.network.specs.declared.pool.Pool.{Pool}
use Rattle.protocol.specs.Moments.{unused}
use Rattle.example.specs.Memory.{example, after}
use Rattle.system.specs.Systems.{moment}
use Rattle.script.specs.declared.answer.Answer.{Answer}
use Rattle.script.specs.Answers.{answer_text}
use Rattle.script.specs.Inputs.{text}
use Rattle.session.specs.declared.session.Session.{Session}
use Rattle.session.specs.Sessions.{Ran, EveryScript}

-- the lines and what they are answered, oldest first
abbrev pub lines : List (List ℕ)
lines =
    codes "S,2,1,2" ∷ codes "R,0,2,7,1" ∷ codes "R,0,2,7,2" ∷ codes "A,0,0" ∷ codes "A,0,0"
    ∷ codes "W,1,2,40" ∷ codes "D,0" ∷ codes "A,1,0" ∷ codes "D,0" ∷ codes "D,0"
    ∷ codes "T,0" ∷ codes "F,0,0" ∷ codes "W,0,2,41" ∷ codes "A,0,0" ∷ codes "D,0" ∷ []

abbrev pub answers : List (List ℕ)
answers =
    codes "ok" ∷ codes "ok,0" ∷ codes "ok,1" ∷ codes "ok,0" ∷ codes "ok,0"
    ∷ codes "ok" ∷ codes "ok,0" ∷ codes "ok,0" ∷ codes "ok,0" ∷ codes "ok,2"
    ∷ codes "ok,0,2,40,7,1" ∷ codes "ok" ∷ codes "ok" ∷ codes "no,29,lines,0,2" ∷ codes "no,27,system,-,-" ∷ []

-- a new session over an empty pool ran the lines, was answered so, and its memory is what the example's calls leave
pub record ExampleSession (r : Session Pool) (told : List Answer) : Type 0 where
  pub first : Session Pool
  pub fresh : moment over_pool first.system ≡ unused 64 []
  pub laws : EveryScript over_pool first
  pub ran : Ran over_pool first (reverse (map text lines)) r
  pub tells : map answer_text told ≡ answers
  pub leaves : moment over_pool r.system ≡ after example
