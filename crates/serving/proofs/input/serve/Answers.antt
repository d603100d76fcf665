use Rattle.std.proofs.Common.{◌≡◌, ◌<◌, length, take, subst, rules, arith}
use Rattle.std.specs.Io.KnownBytes.{Consumes}
use Rattle.std.proofs.lemmas.Result.{on_ok_weaker}
use Rattle.script.specs.Readers.{reading}
use Rattle.serving.proofs.Served.{begins, comes_to_end}
use Rattle.serving.proofs.input.serve.Goals as goal

pub loop-turn-init : goal.loop-turn-init
loop-turn-init g c =
    begins g.N.Network c.new.result (reading c.new-2.result) (g.R.Read.remaining c.args.input.now) (g.W.Write.contents c.args.out.now)
    c.new-2.ensures.all c.new-2.ensures.begun

pub returns-then-count-eq0 : goal.returns-then-count-eq0
returns-then-count-eq0 g c =
    let bytes = c.in_ok-count.ensures.bytes in
    let some : 0 < length c.read.new.buf = search rules in
    let none : c.in_ok-count.count ≡ 0 = omega (arith, c.if-count-eq0.true) in
    let took = subst (λ n. Consumes (g.R.Read.remaining c.loop-turn.input) (g.R.Read.remaining c.read.new.self) (take n c.read.new.buf)) none bytes.0 in
    let done = bytes.1 none some in
    let first = c.new in
    on_ok_weaker c.end.result
    (λ step. comes_to_end g.N.Network c.args.network first.result c.loop-turn.serving.session c.end.new.self.session (reading c.loop-turn.serving.reader) (g.R.Read.remaining c.args.input.now)
    (g.R.Read.remaining c.loop-turn.input) (g.R.Read.remaining c.read.new.self) (g.W.Write.contents c.args.out.now) (g.W.Write.contents c.loop-turn.out) (g.W.Write.contents c.end.new.out)
    first.ensures.reached first.ensures.network took done step c.loop-turn.invariant)
    c.end.ensures
