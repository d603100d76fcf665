use Rattle.script.proofs.Printing.{printed_as, line_back, alone}
use Rattle.script.proofs.print.print_call.Goals as goal

pub returns : goal.returns
returns c =
    let line = c.call_line.ensures in
    let p = printed_as _ _ _ _ _ line.line c.copy_to.ensures in
    record { printed = p; back = line_back _ _ _ _ line.fits p; alone = alone _ line.fits }
