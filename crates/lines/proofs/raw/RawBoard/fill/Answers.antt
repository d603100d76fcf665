use Rattle.std.proofs.Common.{ℕ, ◌+◌, ◌≤◌, List, length, sym, ap, ◌∙◌, subst}
use Rattle.lines.specs.Facts.{times, if_deferred}
use Rattle.lines.specs.Model.{waits, place_at}
use Rattle.lines.specs.Raws.{raw_tables}
use Rattle.lines.proofs.Looks.{listed_mark}
use Rattle.lines.proofs.Room.{wake_room}
use Rattle.lines.proofs.raw.RawBoard.fill.Goals as goal

pub wake-requires : goal.wake-requires
wake-requires c =
    let t = raw_tables c.args.self.now in
    let i = c.args.i in
    let same = sym (c.as_slice.ensures ∙ c.places-waiting.ensures ∙ ap waits c.line.ensures) in
    record {
      deferred = λ p. subst (λ (ws : List ℕ). times p ws ≤ if_deferred (place_at t p)) same (listed_mark t i p c.requires);
      room = subst (λ (ws : List ℕ). length t.order + length ws ≤ 32) same (wake_room t i c.requires);
    }
