-- What each refusal is: its number, its layer, and the node and the address that it names.
use Rattle.std.specs.Prelude.{ℕ, Some, None}
use Rattle.lines.specs.declared.types.LineFault.TheVariants.{EveryLineWaits, WrittenTwice}
use Rattle.lines.specs.declared.types.ActFault.{ActFault}
use Rattle.lines.specs.declared.types.ActFault.TheVariants as act
use Rattle.protocol.specs.Moments.{Refusal}
use Rattle.protocol.specs.Moments as layer
use Rattle.protocol.specs.Steps.{refusal}
use Rattle.system.specs.declared.fault.CreateFault.TheVariants as array
use Rattle.system.specs.declared.fault.SystemFault.{SystemFault}
use Rattle.system.specs.declared.fault.SystemFault.TheVariants.{NotStarted, StartedAlready, BadSize, NetworkUnfit, NoSuchNode, NoSuchAddress, NoSuchCommand, NotDrawn, PlacesTaken, WritesHeld, NetworkFull, NothingInTransit, NothingReady, Lines, Home, Array}

abbrev pub refusal_of : SystemFault → Refusal
refusal_of BadSize = refusal 1 layer.system None None
refusal_of (NoSuchNode n) = refusal 2 layer.system (Some n) None
refusal_of (NoSuchAddress n a) = refusal 3 layer.system (Some n) (Some a)
refusal_of (NoSuchCommand n) = refusal 4 layer.system (Some n) None
refusal_of (NotDrawn n) = refusal 5 layer.system (Some n) None
refusal_of NotStarted = refusal 20 layer.system None None
refusal_of StartedAlready = refusal 21 layer.system None None
refusal_of NetworkUnfit = refusal 22 layer.system None None
refusal_of (PlacesTaken n) = refusal 23 layer.system (Some n) None
refusal_of (WritesHeld n) = refusal 24 layer.system (Some n) None
refusal_of (Lines (EveryLineWaits n a)) = refusal 25 layer.lines (Some n.index) (Some a.index)
refusal_of (NetworkFull n a) = refusal 26 layer.system (Some n) (Some a.index)
refusal_of NothingInTransit = refusal 27 layer.system None None
refusal_of (NothingReady n) = refusal 28 layer.system (Some n) None
refusal_of (Lines (WrittenTwice n a)) = refusal 29 layer.lines (Some n.index) (Some a.index)
refusal_of (Home twice) = refusal 30 layer.home (Some twice.writer.index) (Some twice.address.index)
refusal_of (Array array.BadSize) = refusal 1 layer.array None None
refusal_of (Array array.NoRoom) = refusal 31 layer.array None None

-- why a board does not act, with the number of its node
abbrev pub whole_fault : ℕ → ActFault → SystemFault
whole_fault n act.NoSuchCommand = NoSuchCommand n
whole_fault n (act.NetworkFull a) = NetworkFull n a
whole_fault n (act.Lines fault) = Lines fault
