use Rattle.std.proofs.Common.{◌≡◌, ap, sym, ◌∙◌, map, arith}
use Rattle.bounded.specs.Listed.{listed}
use Rattle.std.specs.Option.{option_map}
use Rattle.std.proofs.lemmas.Option.{get_or_from_slice_get, slice_get-map, gets}
use Rattle.lines.specs.Model.{empty, line_at}
use Rattle.lines.specs.Plain.{plain_line}
use Rattle.lines.specs.Raws.{raw_tables}
use Rattle.lines.proofs.Mapped.{mapped}
use Rattle.lines.proofs.raw.RawBoard.join.Goals as goal

pub returns-in-Some : goal.returns-in-Some
returns-in-Some c =
    let lines = listed c.args.self.now.lines in
    let i = c.args.i in
    let told : line_at (raw_tables c.args.self.now) i ≡ plain_line c.in-Some.line
    = get_or_from_slice_get (map plain_line lines) i _ empty (slice_get-map plain_line lines i ∙ ap (option_map plain_line) (sym c.get.ensures ∙ c.in-Some.is)) in
    grind (arith, mapped, told)

pub returns-in_default : goal.returns-in_default
returns-in_default c = grind (arith, mapped, gets)
