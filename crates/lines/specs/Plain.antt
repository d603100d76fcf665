-- The code's values as the model's: an address by its number.
use Rattle.std.specs.Prelude.{Some, None, Option}
use Rattle.std.specs.Option.{option_map}
use Rattle.bounded.specs.Listed.{listed}
use Rattle.lines.specs.declared.types.Read.{Read}
use Rattle.lines.specs.declared.types.Place.{Place}
use Rattle.lines.specs.declared.types.Place.TheVariants.{Free, Held, Deferred, Ready, Drawn}
use Rattle.lines.specs.declared.types.Line.{Line}
use Rattle.lines.specs.declared.types.Line.TheVariants.{Empty, Waiting, Filled}
use Rattle.lines.specs.declared.types.Command.{Command}
use Rattle.lines.specs.declared.types.Command.TheVariants as command
use Rattle.lines.specs.declared.types.Outgoing.{Outgoing}
use Rattle.lines.specs.declared.types.Outgoing.TheVariants as outgoing
use Rattle.lines.specs.declared.types.Acted.{Acted}
use Rattle.lines.specs.declared.types.Answer.{Answer}
use Rattle.lines.specs.declared.types.LineFault.{LineFault}
use Rattle.lines.specs.declared.types.LineFault.TheVariants.{EveryLineWaits, WrittenTwice}
use Rattle.lines.specs.declared.types.ActFault.{ActFault}
use Rattle.lines.specs.declared.types.ActFault.TheVariants.{NoSuchCommand, NetworkFull, Lines}
use Rattle.lines.specs.declared.types.Found.{Found}
use Rattle.lines.specs.declared.types.Found.TheVariants.{Waits, Holds}
use Rattle.lines.specs.Model as model

abbrev pub plain_read : Read → model.Read
plain_read q = record { address = q.address.index; frame = q.continuation.frame; instruction = q.continuation.instruction }

abbrev pub plain_place : Place → model.Place
plain_place Free = model.free
plain_place (Held q) = model.held (plain_read q)
plain_place (Deferred q) = model.deferred (plain_read q)
plain_place (Ready q v) = model.ready (plain_read q) v
plain_place (Drawn q v) = model.drawn (plain_read q) v

abbrev pub plain_line : Line → model.Line
plain_line Empty = model.empty
plain_line (Waiting a ps) = model.waiting a.index (listed ps)
plain_line (Filled a v) = model.filled a.index v

abbrev pub plain_command : Command → model.Command
plain_command (command.Read p) = model.reading p
plain_command (command.Write a v) = model.writing a.index v

abbrev pub plain_outgoing : Outgoing → model.Outgoing
plain_outgoing (outgoing.Read a) = model.asks a.index
plain_outgoing (outgoing.Write a v) = model.gives a.index v

abbrev pub plain_acted : Acted → model.Acted
plain_acted d = record { readied = d.readied; sends = option_map plain_outgoing d.sends }

abbrev pub plain_answer : Answer → model.Answer
plain_answer d = record { place = d.place; read = plain_read d.read; word = d.word }

abbrev pub plain_fault : LineFault → model.Refusal
plain_fault (EveryLineWaits n a) = model.every_line_waits n.index a.index
plain_fault (WrittenTwice n a) = model.written_twice n.index a.index

abbrev pub plain_refusal : ActFault → model.Refusal
plain_refusal NoSuchCommand = model.no_such_command
plain_refusal (NetworkFull a) = model.network_full a.index
plain_refusal (Lines f) = plain_fault f

abbrev pub plain_found : Option Found → model.Found
plain_found None = model.absent
plain_found (Some (Waits i)) = model.waits_at i
plain_found (Some (Holds v)) = model.holds v
