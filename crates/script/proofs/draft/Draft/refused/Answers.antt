use Rattle.script.proofs.Drafted.{then, refusal_all}
use Rattle.script.proofs.draft.Draft.refused.Goals as goal

pub returns : goal.returns
returns c =
    rw (← c.name.ensures.name)
    (refusal_all _ _ _ _ _ _ c.new-line.ensures
    (then _ _ _ _ _ c.text.ensures
    (then _ _ _ _ _ c.number.ensures.wrote
    (then _ _ _ _ _ c.push.ensures
    (then _ _ _ _ _ c.text-2.ensures
    (then _ _ _ _ _ c.optional.ensures.wrote
    (then _ _ _ _ _ c.optional-2.ensures.wrote c.push-2.ensures))))))
    c.number.ensures.short c.name.ensures.short c.optional.ensures.short c.optional-2.ensures.short)
