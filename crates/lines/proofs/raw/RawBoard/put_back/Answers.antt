use Rattle.std.proofs.Common.{sym, ap}
use Rattle.lines.specs.Model.{is_drawn}
use Rattle.lines.specs.Raws.{raw_tables}
use Rattle.lines.proofs.Room.{drawn_room}
use Rattle.lines.proofs.raw.RawBoard.put_back.Goals as goal

pub make_ready-requires : goal.make_ready-requires
make_ready-requires c = drawn_room (raw_tables c.args.self.now) c.args.place c.requires (sym (ap is_drawn c.in-Drawn.ensures))
