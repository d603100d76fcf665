use Rattle.std.proofs.Common.{◌≡◌, length, ◌==◌, ◌∙◌, rules}
use borrow.Author.Tests.{tests}
use Rattle.std.proofs.lemmas.Iterator.{YieldsList-from_slice}
use Rattle.std.proofs.lemmas.Iterator.Search.{position_from_yields_List}
use Rattle.network.proofs.Oldest.{searched}
use Rattle.network.proofs.lanes.first_to.Goals as goal

pub returns : goal.returns
returns c =
    let ms = c.args.messages.now in
    let found = position_from_yields_List (λ m. m.to.index == c.args.lane) _ _ c.position.result c.position.ensures.ran (YieldsList-from_slice ms (search rules)) (λ x b q k. search (rules, tests)) in
    c.unwrap_or.ensures ∙ searched c.args.lane ms c.position.result found
