use Rattle.std.proofs.Common.{◌≡◌, Some, arith, lit<}
use Rattle.bounded.specs.Listed.{listed}
use Rattle.std.proofs.lemmas.List.{length-map}
use Rattle.lines.specs.Model.{free_place}
use Rattle.lines.specs.Plain.{plain_command}
use Rattle.lines.specs.Raws.{raw_tables}
use Rattle.lines.proofs.Room.{read_room}
use Rattle.lines.proofs.raw.RawBoard.read.Goals as goal

pub append-requires : goal.append-requires
append-requires c =
    let t = raw_tables c.args.self.now in
    let found : free_place t ≡ Some c.in_ok-place.place = grind arith in
    let room = read_room t c.in_ok-place.place c.requires found in
    let same = length-map (listed c.args.self.now.commands) plain_command in
    (lit< tt, omega arith)
