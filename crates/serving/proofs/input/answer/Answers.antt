use Rattle.std.proofs.Common.{◌≡◌, ℕ, true, List, length, take, drop, Ok, Err, Result, sym, ap, ◌∙◌, subst, arith}
use Rattle.std.proofs.Math.Seq.{take-append_seam}
use Rattle.std.proofs.lemmas.Bool.{false≢true}
use Rattle.std.proofs.lemmas.Result.{on_ok_weaker}
use Rattle.std.specs.Io.KnownBytes.{Appends}
use Rattle.std.specs.Result.{MatchResult, is_ok}
use Rattle.script.specs.Drafts.{Printed}
use Rattle.serving.proofs.input.answer.Goals as goal

front : (text : List ℕ) (n : ℕ) (before after : List ℕ) → Printed text n before after → take n after ≡ text
front text n before after p = ap (λ k. take k after) p.count ∙ ap (take (length text)) p.is ∙ take-append_seam text (drop n before)

same_ok : {F : Type 0} (n x : ℕ) → ◌≡◌ {A = Result ℕ F} (Ok n) (Ok x) → n ≡ x
same_ok n x is = cc

-- what is known of a result in its arm of a `?`
at_ok : {E : Type 0} (F : Type 0) (r : Result ℕ E) (n : ℕ) (P : ℕ → Type 0) (Q R : E → Type 0) → MatchResult r (λ x. ◌≡◌ {A = Result ℕ F} (Ok n) (Ok x)) R → true ≡ is_ok r → MatchResult r P Q → P n
at_ok F (Ok x) n P Q R is ok known = subst P (sym (same_ok n x is)) known
at_ok F (Err e) n P Q R is ok known = absurd (false≢true (sym ok))

-- what came of the first n of a list came of its text
cut_at : (xs text : List ℕ) (n m : ℕ) (P : List ℕ → Type 0) → P (take n xs) → n ≡ m → take m xs ≡ text → P text
cut_at xs text n m P first same whole = subst P (ap (λ k. take k xs) same ∙ whole) first

pub returns : goal.returns
returns g c =
    let kept = c.in_ok-length.ensures in
    let whole = front _ _ _ _ (at_ok _ c.print_answer.result c.in_ok-length.length _ _ _ kept.cases kept.variant c.print_answer.ensures) in
    on_ok_weaker c.write_all.result
    (λ grown. record {
      answer = c.line-answer.result;
      answers = c.line-answer.ensures.answer;
      grows = cut_at _ _ _ _ (Appends (g.W.Write.contents c.args.out.now) (g.W.Write.contents c.write_all.new.self)) grown (omega arith) whole;
    })
    c.write_all.ensures.bytes
