-- Which words go with which kinds.
use Rattle.std.specs.Prelude.{ℕ}
use Rattle.network.specs.declared.message.Kind.{Kind}
use Rattle.network.specs.declared.message.Kind.TheVariants.{Read, Write, Reply}

-- the word that a message of this kind carries for w: a READ has the word 0
abbrev pub carried : Kind → ℕ → ℕ
carried Read w = 0
carried Write w = w
carried Reply w = w
