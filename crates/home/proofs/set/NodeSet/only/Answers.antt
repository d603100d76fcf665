use Rattle.std.proofs.Common.{◌≡◌, ◌*◌, ◌%◌, ◌^◌, ap, ◌∙◌, arith}
use Rattle.std.proofs.lemmas.Nat.{one_shl}
use Rattle.home.specs.Sets.{members}
use Rattle.home.proofs.Sets.{members_alone}
use Rattle.home.proofs.set.NodeSet.only.Goals as goal

pub returns : goal.returns
returns c =
    let node = c.args.node.index in
    let mask : 1 * 2 ^ c.index.result % 2 ^ 16 ≡ 2 ^ node = one_shl c.index.result 16 (omega arith) ∙ ap (λ k. 2 ^ k) c.index.ensures.value in
    record { value = mask; law = ap members mask ∙ members_alone node (omega arith) }
