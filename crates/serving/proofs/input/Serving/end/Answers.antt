use Rattle.std.proofs.Common.{◌≡◌, [], ◌∷◌, rules}
use Rattle.script.specs.Readers.{told, reading, at_end}
use Rattle.serving.proofs.Served.{ended_with}
use Rattle.serving.proofs.input.Serving.end.Goals as goal

pub returns-in_ok-answer : goal.returns-in_ok-answer
returns-in_ok-answer g c first before all =
    let some : told c.in-Some.line ∷ [] ≡ at_end (reading c.args.self.now.reader) = search rules in
    ended_with g.N.Network first c.args.self.now.session c.answer.new.session all (reading c.args.self.now.reader) (told c.in-Some.line) before
    (g.W.Write.contents c.args.out.now) (g.W.Write.contents c.answer.new.out) some c.in_ok-answer.ensures
