use Rattle.std.proofs.Common.{◌≡◌, ◌∙◌, refl, arith}
use Rattle.lines.specs.declared.types.Place.{Place}
use Rattle.lines.specs.declared.types.Place.TheVariants.{Free, Held, Deferred, Ready, Drawn}
use Rattle.lines.specs.declared.types.Read as code
use Rattle.lines.specs.Model.{Read, held}
use Rattle.lines.specs.Plain.{plain_place}
use Rattle.lines.specs.Raws.{raw_tables}
use Rattle.lines.proofs.Looks.{command_held}
use Rattle.lines.proofs.Room.{held_room, list_room}
use Rattle.lines.proofs.raw.RawBoard.act_read.Goals as goal

must_be_held : (x : Place) (q : Read) → plain_place x ≡ held q → ((r : code.Read) → x ≡ Held r → ⊥) → ⊥
must_be_held Free q e other = grind arith
must_be_held (Held r) q e other = other r refl
must_be_held (Deferred r) q e other = grind arith
must_be_held (Ready r v) q e other = grind arith
must_be_held (Drawn r v) q e other = grind arith

pub returns-in_default : goal.returns-in_default
returns-in_default c =
    let h = command_held (raw_tables c.args.self.now) c.args.turn.pick c.args.place c.requires.facts c.requires.named in
    absurd (must_be_held c.place.result _ (c.place.ensures ∙ h.1) c.in_default.not-Held)

pub make_ready-requires : goal.make_ready-requires
make_ready-requires c = held_room (raw_tables c.args.self.now) c.args.turn.pick c.args.place c.requires.facts c.requires.named

pub join-requires : goal.join-requires
join-requires c = list_room (raw_tables c.args.self.now) _ c.args.turn.pick c.args.place c.requires.facts c.requires.named
