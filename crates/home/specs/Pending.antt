-- The messages that replies stand for.
use Rattle.std.specs.Prelude.{ℕ, List, map}
use Rattle.network.specs.Messages.{Plain, replying}
use Rattle.home.specs.declared.replies.Replies.{Replies}
use Rattle.home.specs.Sets.{members}

-- a home's reply to each of some nodes
abbrev pub replying_all : List ℕ → ℕ → ℕ → ℕ → List Plain
replying_all nodes address home word = map (λ node. replying node address home word) nodes

-- what is still to be sent, the next first
abbrev pub pending : Replies → List Plain
pending r = replying_all (members r.readers.rest) r.address.index r.home.index r.word
