use Rattle.std.proofs.Common.{◌≡◌, ◌+◌, ◌*◌, ◌≤◌, ℕ, false, ◌||◌, eqb, sym, refl, ◌∙◌, arith}
use Rattle.std.proofs.lemmas.Bool.{cond-true, cond-false, lt-ltb, le-ltb}
use Rattle.std.proofs.lemmas.Bool.Decides.{nat_tests}
use Rattle.protocol.specs.Moments.{create}
use Rattle.protocol.specs.Steps.{outside}
use Rattle.system.specs.Systems.{moment}
use Rattle.system.proofs.Steps.{quiet, stopped}
use Rattle.system.proofs.system.System.create.Goals as goal

some_size : (kind size : ℕ) → (outside 255 kind || eqb size 0) ≡ false → 1 ≤ size
some_size kind size good = grind (arith, nat_tests)

pub returns-in_err-check_started : goal.returns-in_err-check_started
returns-in_err-check_started g c =
    let call = create c.args.kind c.args.length in
    stopped g.N.Network c.args.self.now call _ c.in_err-check_started.field-0.0 c.from_residual.result c.from_residual.ensures.1 (refl, refl) (refl, refl) (c.in_err-check_started.ensures.rule call _)

pub returns-then-bad_array : goal.returns-then-bad_array
returns-then-bad_array g c =
    let call = create c.args.kind c.args.length in
    quiet g.N.Network {m = moment g.N.Network c.args.self.now} call (refl, refl) (refl, refl) (c.in_ok-check_started.ensures.rule call _ ∙ cond-true _ _ _ (sym c.if-bad_array.ensures)) refl

pub returns-then-length-room : goal.returns-then-length-room
returns-then-length-room g c =
    let s = c.args.self.now in
    let call = create c.args.kind c.args.length in
    quiet g.N.Network {m = moment g.N.Network s} call (refl, refl) (refl, refl)
    (c.in_ok-check_started.ensures.rule call _ ∙ cond-false _ _ _ (sym c.if-bad_array.ensures)
    ∙ cond-true _ _ _ (lt-ltb (s.nodes * s.cells) (s.end + c.args.length) (omega (arith, c.if-length-room.true, c.saturating_sub-room.ensures)))) refl

pub returns : goal.returns
returns g c =
    let s = c.args.self.now in
    let call = create c.args.kind c.args.length in
    let some = some_size c.args.kind c.args.length (sym c.if-bad_array.ensures) in
    quiet g.N.Network {m = moment g.N.Network s} call (refl, refl) (refl, refl)
    (c.in_ok-check_started.ensures.rule call _ ∙ cond-false _ _ _ (sym c.if-bad_array.ensures)
    ∙ cond-false _ _ _ (le-ltb (s.nodes * s.cells) (s.end + c.args.length) (omega (arith, c.if-length-room.false, c.saturating_sub-room.ensures)))) refl
