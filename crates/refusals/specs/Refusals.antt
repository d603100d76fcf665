-- What a refusal tells, and how it is written.
use Rattle.std.specs.Prelude.{ℕ, List, [], ◌++◌, Option, Some, None, codes, decimal}
use Rattle.refusals.specs.declared.layer.Layer.{Layer}
use Rattle.refusals.specs.declared.layer.Layer.TheVariants.{Script, Array, Lines, Home, System}
use Rattle.refusals.specs.declared.refusal.Refusal.{Refusal}

abbrev pub layer_text : Layer → List ℕ
layer_text Script = codes "script"
layer_text Array = codes "array"
layer_text Lines = codes "lines"
layer_text Home = codes "home"
layer_text System = codes "system"

-- a refusal that names no node and no address
abbrev pub by_layer : Layer → ℕ → Refusal
by_layer layer n = record { number = n; layer = layer; node = None; address = None }

-- the refusal, but for the node that it names
abbrev pub naming_node : ℕ → Refusal → Refusal
naming_node node r = record { number = r.number; layer = r.layer; node = Some node; address = r.address }

-- the refusal, but for the address that it names
abbrev pub naming_address : ℕ → Refusal → Refusal
naming_address address r = record { number = r.number; layer = r.layer; node = r.node; address = Some address }

-- the word and the number that it names, if it names one
abbrev pub named : List ℕ → Option ℕ → List ℕ
named word None = []
named word (Some n) = word ++ decimal n

abbrev pub shown_refusal : Refusal → List ℕ
shown_refusal r = codes "refused, " ++ decimal r.number ++ named (codes ", node ") r.node ++ named (codes ", address ") r.address
