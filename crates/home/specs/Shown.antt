-- What is written of a set, a cell and a second write.
use Rattle.std.specs.Prelude.{ℕ, List, [], ◌∷◌, ◌++◌, map, codes, decimal}
use Rattle.std.specs.List.{concat}
use Rattle.home.specs.declared.cell.Cell.{Cell}
use Rattle.home.specs.declared.cell.Cell.TheVariants.{Undefined, Waiting, Defined}
use Rattle.home.specs.Cells.{Twice}
use Rattle.home.specs.Sets.{members}

-- numbers with a comma and a space between each two
abbrev pub with_commas : List ℕ → List ℕ
with_commas [] = []
with_commas (n ∷ ns) = decimal n ++ concat (map (λ k. codes ", " ++ decimal k) ns)

-- the set of these members
abbrev pub shown_set : List ℕ → List ℕ
shown_set nodes = codes "{" ++ with_commas nodes ++ codes "}"

abbrev pub shown_cell : Cell → List ℕ
shown_cell Undefined = codes "undefined"
shown_cell (Waiting readers) = codes "waiting " ++ shown_set (members readers.mask)
shown_cell (Defined word) = codes "defined " ++ decimal word

abbrev pub shown_twice : Twice → List ℕ
shown_twice t = codes "address " ++ decimal t.address ++ codes " is written twice, now by node " ++ decimal t.writer
