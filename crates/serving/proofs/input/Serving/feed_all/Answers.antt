use Rattle.std.proofs.Common.{◌+◌, ◌++◌, ◌∷◌, drop, drop-cons, get_or, subst, sym, ap, ◌∙◌, add-one}
use Rattle.script.specs.Readers.{told, reading}
use Rattle.serving.specs.declared.input.Serving.{Serving}
use Rattle.serving.specs.Served.{Going}
use Rattle.serving.proofs.Served.{fed_end, fed_on}
use Rattle.serving.proofs.input.Serving.feed_all.Goals as goal
use Rattle.serving.proofs.input.Serving.feed_all.Goals.{then-feed+in_ok-answer, else-feed}

pub loop-byte-preserved : goal.loop-byte-preserved
loop-byte-preserved g c first before all rest going =
    let at = c.loop-byte in
    let bytes = c.args.bytes.now in
    let byte = get_or bytes at.byte-index 0 in
    let others = drop (at.byte-index + 1) bytes ++ rest in
    let cut = drop-cons bytes at.byte-index 0 c.loop-byte-test.true ∙ ap (λ n. byte ∷ drop n bytes) (sym (add-one at.byte-index)) in
    let so_far = subst (λ l. Going g.N.Network first before all (l ++ rest) at.self.session (reading at.self.reader) (g.W.Write.contents at.out)) cut (at.invariant first before all rest going) in
    elim c.if-feed.branch [
      | then-feed+in_ok-answer w ↦
          subst (λ (t : Serving g.row.N.Denot × g.row.W.Denot). Going g.N.Network first before all others t.0.session (reading t.0.reader) (g.W.Write.contents t.1)) (λ i. (sym w.self-is i, sym w.out-is i))
          (fed_end g.N.Network first at.self.session w.answer.new.session all byte others (reading at.self.reader) (reading c.feed.new.self) (told w.line.result) before
          (g.W.Write.contents at.out) (g.W.Write.contents w.answer.new.out) c.feed.ensures.after (sym c.feed.ensures.answer ∙ w.if-feed.true) w.line.ensures w.in_ok-answer.ensures so_far)
      | else-feed w ↦
          subst (λ (t : Serving g.row.N.Denot × g.row.W.Denot). Going g.N.Network first before all others t.0.session (reading t.0.reader) (g.W.Write.contents t.1)) (λ i. (sym w.self-is i, sym w.out-is i))
          (fed_on g.N.Network first at.self.session all byte others (reading at.self.reader) (reading c.feed.new.self) before
          (g.W.Write.contents at.out) c.feed.ensures.after (sym c.feed.ensures.answer ∙ w.if-feed.false) so_far)
    ]
