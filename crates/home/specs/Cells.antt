-- What a home does with a message.
use Rattle.std.specs.Prelude.{ℕ, List, [], ◌∷◌, Ok, Err, Result}
use Rattle.network.specs.declared.message.Kind.{Kind}
use Rattle.network.specs.declared.message.Kind.TheVariants.{Read, Write, Reply}
use Rattle.network.specs.Messages.{Plain, replying}
use Rattle.home.specs.declared.cell.Cell.{Cell}
use Rattle.home.specs.declared.cell.Cell.TheVariants.{Undefined, Waiting, Defined}
use Rattle.home.specs.declared.cell.WrittenTwice.{WrittenTwice}
use Rattle.home.specs.declared.replies.Replies.{Replies}
use Rattle.home.specs.Pending.{pending, replying_all}
use Rattle.home.specs.Sets.{members, alone, joined}

-- a cell that waits for its word, with this set of readers
abbrev pub waiting : ℕ → Cell
waiting mask = Waiting (record { mask = mask })

-- a second write: by whom, and to which address
pub record Twice : Type 0 where
  pub writer : ℕ
  pub address : ℕ

-- by the cell's state and the message's kind: the cell afterwards
abbrev pub becomes : Cell → Kind → Plain → Cell
becomes Undefined Read m = waiting (alone m.from)
becomes Undefined Write m = Defined m.word
becomes Undefined Reply m = Undefined
becomes (Waiting set) Read m = waiting (joined set.mask m.from)
becomes (Waiting set) Write m = Defined m.word
becomes (Waiting set) Reply m = Waiting set
becomes (Defined held) Read m = Defined held
becomes (Defined held) Write m = Defined held
becomes (Defined held) Reply m = Defined held

-- and the replies that go out, or the fault
abbrev pub answers : Cell → Kind → Plain → Result (List Plain) Twice
answers Undefined Read m = Ok []
answers Undefined Write m = Ok []
answers Undefined Reply m = Ok []
answers (Waiting set) Read m = Ok []
answers (Waiting set) Write m = Ok (replying_all (members set.mask) m.address m.to m.word)
answers (Waiting set) Reply m = Ok []
answers (Defined held) Read m = Ok (replying m.from m.address m.to held ∷ [])
answers (Defined held) Write m = Err (record { writer = m.from; address = m.address })
answers (Defined held) Reply m = Ok []

-- the two of a whole message
abbrev pub after : Cell → Plain → Cell
after cell m = becomes cell m.kind m

abbrev pub answer : Cell → Plain → Result (List Plain) Twice
answer cell m = answers cell m.kind m

-- what a fault says, in plain numbers
abbrev pub twice : WrittenTwice → Twice
twice fault = record { writer = fault.writer.index; address = fault.address.index }

-- what a result says, in plain numbers
abbrev pub told : Result Replies WrittenTwice → Result (List Plain) Twice
told (Ok replies) = Ok (pending replies)
told (Err fault) = Err (record { writer = fault.writer.index; address = fault.address.index })
