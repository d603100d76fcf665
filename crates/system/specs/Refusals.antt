-- A refusal of the memory, as the code tells it.
use Rattle.protocol.specs.Moments as memory
use Rattle.refusals.specs.declared.layer.Layer.{Layer}
use Rattle.refusals.specs.declared.layer.Layer.TheVariants.{Array, Lines, Home, System}
use Rattle.refusals.specs.declared.refusal.Refusal.{Refusal}

-- the layer, in the type that scripts have too
abbrev pub layer_of : memory.Layer → Layer
layer_of memory.system = System
layer_of memory.lines = Lines
layer_of memory.home = Home
layer_of memory.array = Array

-- a refusal of the memory: its number, layer, node and address as they are
abbrev pub scripted : memory.Refusal → Refusal
scripted why = record { number = why.number; layer = layer_of why.layer; node = why.node; address = why.address }
