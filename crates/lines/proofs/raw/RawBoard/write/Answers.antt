use Rattle.std.proofs.Common.{sym, arith, lit<}
use Rattle.bounded.specs.Listed.{listed}
use Rattle.std.proofs.lemmas.List.{length-map}
use Rattle.lines.specs.Plain.{plain_command}
use Rattle.lines.specs.Raws.{raw_tables}
use Rattle.lines.proofs.Room.{write_room}
use Rattle.lines.proofs.raw.RawBoard.write.Goals as goal

pub append-requires : goal.append-requires
append-requires c =
    let room = write_room (raw_tables c.args.self.now) c.requires (sym c.if-not-may_write.ensures) in
    let same = length-map (listed c.args.self.now.commands) plain_command in
    (lit< tt, omega arith)
