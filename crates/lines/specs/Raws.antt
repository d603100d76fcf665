-- What the tables in memory stand for.
use Rattle.std.specs.Prelude.{map}
use Rattle.bounded.specs.Listed.{listed}
use Rattle.lines.specs.declared.raw.RawBoard.{RawBoard}
use Rattle.lines.specs.Model.{Tables}
use Rattle.lines.specs.Plain.{plain_command, plain_place, plain_line}

abbrev pub raw_tables : RawBoard → Tables
raw_tables b =
    record {
      commands = map plain_command (listed b.commands);
      places = map plain_place b.places;
      last = b.last;
      lines = map plain_line (listed b.lines);
      hand = b.hand;
      order = listed b.order;
    }
