-- What is written of a place, a line and a command: an address by its number, and the word after a colon.
use Rattle.std.specs.Prelude.{ℕ, List, ◌++◌, map, codes, decimal}
use Rattle.std.specs.List.{concat}
use Rattle.lines.specs.Model.{Place, free, held, deferred, ready, drawn, Line, empty, waiting, filled, Command, reading, writing}

abbrev pub shown_word : ℕ → ℕ → List ℕ
shown_word address word = decimal address ++ (codes ": " ++ decimal word)

abbrev pub shown_place : Place → List ℕ
shown_place free = codes "free"
shown_place (held read) = codes "held " ++ decimal read.address
shown_place (deferred read) = codes "deferred " ++ decimal read.address
shown_place (ready read word) = codes "ready " ++ shown_word read.address word
shown_place (drawn read word) = codes "drawn " ++ shown_word read.address word

-- numbers, each after a space
abbrev pub with_spaces : List ℕ → List ℕ
with_spaces ns = concat (map (λ n. codes " " ++ decimal n) ns)

abbrev pub shown_line : Line → List ℕ
shown_line empty = codes "empty"
shown_line (waiting address places) = codes "waiting " ++ decimal address ++ codes ", places" ++ with_spaces places
shown_line (filled address word) = codes "filled " ++ shown_word address word

abbrev pub shown_command : Command → List ℕ
shown_command (reading place) = codes "read at " ++ decimal place
shown_command (writing address word) = codes "write " ++ shown_word address word
