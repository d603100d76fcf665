-- A message as plain numbers.
use Rattle.std.specs.Prelude.{ℕ, cond, Some, None, Option, nat_lt}
use Rattle.network.specs.declared.message.Kind.{Kind}
use Rattle.network.specs.declared.message.Kind.TheVariants.{Read, Write, Reply}
use Rattle.network.specs.declared.message.Message.{Message}

-- a number, where it is below a limit
abbrev pub below : ℕ → ℕ → Option ℕ
below limit n = cond (nat_lt n limit) (Some n) None

pub record Plain : Type 0 where
  pub kind : Kind
  pub to : ℕ
  pub address : ℕ
  pub from : ℕ
  pub word : ℕ

abbrev pub plain : Message → Plain
plain m = record { kind = m.kind; to = m.to.index; address = m.address.index; from = m.from.index; word = m.word }

abbrev pub reading : ℕ → ℕ → ℕ → Plain
reading to address from = record { kind = Read; to = to; address = address; from = from; word = 0 }

abbrev pub writing : ℕ → ℕ → ℕ → ℕ → Plain
writing to address from word = record { kind = Write; to = to; address = address; from = from; word = word }

abbrev pub replying : ℕ → ℕ → ℕ → ℕ → Plain
replying to address from word = record { kind = Reply; to = to; address = address; from = from; word = word }
