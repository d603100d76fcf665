use Rattle.std.proofs.Common.{sym, refl, arith}
use Rattle.lines.specs.Boards.{tables}
use Rattle.lines.specs.Model.{start}
use Rattle.system.specs.Systems.{moment}
use Rattle.system.proofs.Start.{map-replicate, made_so, sizes, refused_21, refused_1, refused_22, begun}
use Rattle.system.proofs.system.System.start.Goals as goal

pub returns-then-self-ne0 : goal.returns-then-self-ne0
returns-then-self-ne0 g c =
    refused_21 g.N.Network c.args.self.now.network (moment g.N.Network c.args.self.now) refl c.args.sizes.nodes c.args.sizes.lines c.args.sizes.cells (omega arith)

pub returns-then-are_bad : goal.returns-then-are_bad
returns-then-are_bad g c =
    refused_1 g.N.Network c.args.self.now.network (moment g.N.Network c.args.self.now) refl c.args.sizes.nodes c.args.sizes.lines c.args.sizes.cells c.if-self-ne0.false
    (sym c.if-are_bad.ensures)

pub returns-then-unfit : goal.returns-then-unfit
returns-then-unfit g c =
    refused_22 g.N.Network c.args.self.now.network (moment g.N.Network c.args.self.now) refl c.args.sizes.nodes c.args.sizes.lines c.args.sizes.cells c.if-self-ne0.false
    (sym c.if-are_bad.ensures) (sym c.if-unfit.ensures)

pub returns : goal.returns
returns g c =
    let good = sym c.if-are_bad.ensures in
    let s = sizes c.args.sizes.nodes c.args.sizes.lines c.args.sizes.cells good in
    begun g.N.Network c.args.self.now.network (moment g.N.Network c.args.self.now) refl c.args.sizes.nodes c.args.sizes.lines c.args.sizes.cells _ _ c.if-self-ne0.false
    good (sym c.if-unfit.ensures)
    (map-replicate tables 16 c.unwrap-board.result (start c.args.sizes.lines) (made_so c.args.sizes.lines c.new.result c.unwrap-board.result s.1.0.0 s.1.0.1 c.new.ensures c.unwrap-board.ensures))
    c.undefined-self.ensures
