use Rattle.std.proofs.Common.{ap, ◌∙◌, arith}
use lib.Bits.{bit_or}
use Rattle.home.proofs.Sets.{gains}
use Rattle.home.proofs.set.NodeSet.insert.Goals as goal

pub returns : goal.returns
returns c =
    let mask = c.args.self.now.mask in
    record { after = c.union.ensures ∙ ap (bit_or mask) c.only.ensures.value; law = gains mask c.args.node.index (omega arith) }
