-- The commands without one of them.
use Rattle.std.proofs.Common.{◌≡◌, ℕ, ◌+◌, List, [], ◌∷◌, map, Some, None, refl, ap, ◌∙◌, arith}
use Rattle.std.specs.List.{slice_get, remove}
use Rattle.std.specs.Option.{option_map}
use Rattle.std.proofs.lemmas.Grind.{common_steps}
use Rattle.std.proofs.lemmas.List.{map-append, take-map, drop-map}
use Rattle.std.proofs.lemmas.Option.{slice_get-map, gets}
use Rattle.lines.specs.declared.types.Command.{Command}
use Rattle.lines.specs.Model.{writes}
use Rattle.lines.specs.Model as model
use Rattle.lines.specs.Plain.{plain_command}
use Rattle.lines.proofs.Counts.{is_write, writes_removed}

pub map-remove : {X Y : Type 0} (f : X → Y) (xs : List X) (k : ℕ) → map f (remove xs k) ≡ remove (map f xs) k
map-remove f xs k = simp (map-append, take-map, drop-map)

weight : (c : model.Command) → writes (c ∷ []) ≡ is_write c
weight (model.reading p) = refl
weight (model.writing a v) = refl

pub writes_less : (cs : List Command) (k : ℕ) (x : Command) → slice_get cs k ≡ Some x
    → writes (map plain_command (remove cs k)) + writes (plain_command x ∷ []) ≡ writes (map plain_command cs)
writes_less cs k x e =
    let a = ap writes (map-remove plain_command cs k) in
    let b = weight (plain_command x) in
    let d = writes_removed k (map plain_command cs) (plain_command x) (slice_get-map plain_command cs k ∙ ap (option_map plain_command) e) in
    omega arith

-- where there is no such command, all stay
pub none_less : {X : Type 0} (xs : List X) (k : ℕ) → slice_get xs k ≡ None → remove xs k ≡ xs
none_less xs k e = grind (arith, common_steps, gets)

pub ruleset less = (map-remove, writes_less, none_less)
