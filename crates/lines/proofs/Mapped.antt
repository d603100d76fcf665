-- A list of the code's values, seen as a list of the model's.
use Rattle.std.proofs.lemmas.List.{length-map, map-set, map_push, set_past}
use Rattle.std.proofs.lemmas.Option.{slice_get-map}

pub ruleset mapped = (map-set, map_push, length-map, set_past, slice_get-map)
