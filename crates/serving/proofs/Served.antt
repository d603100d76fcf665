-- What is written grows line by line.
use Rattle.std.proofs.Common.{◌≡◌, ℕ, true, false, List, [], ◌∷◌, ◌++◌, Some, None, Option, cond, sym, ap, ◌∙◌, subst, append_assoc, append-nil, ◌==◌}
use Rattle.std.proofs.lemmas.Bool.{cond-true, cond-false}
use Rattle.std.specs.Option.{IfSome, IsSomeAnd}
use Rattle.std.specs.Io.KnownBytes.{Appends, Consumes, IsAtEnd}
use Rattle.network.specs.declared.network.Network.{Ghosts}
use Rattle.protocol.specs.Steps.{Reached}
use Rattle.system.specs.Systems.{moment}
use Rattle.script.specs.Inputs.{InputLine, lines_of, joined}
use Rattle.script.specs.Readers.{Reading, read_all, given, opened, grown, begun, fed, at_end, ReadsAll}
use Rattle.script.specs.Texts.{ended}
use Rattle.session.specs.declared.session.Session.{Session}
use Rattle.serving.specs.Served.{no_line, one_more, Adds, Written, Going, Feeds, Ends, Serves}

joined-snoc : (ts : List (List ℕ)) (t : List ℕ) → joined (ts ++ t ∷ []) ≡ joined ts ++ ended t
joined-snoc [] t = append-nil (ended t)
joined-snoc (x ∷ ts) t = ap (λ r. ended x ++ r) (joined-snoc ts t) ∙ sym (append_assoc (ended x) (joined ts) (ended t))

appends_both : (a b c : Option (List ℕ)) (xs ys : List ℕ) → Appends a b xs → Appends b c ys → Appends a c (xs ++ ys)
appends_both None b c xs ys p q = tt
appends_both (Some a) None c xs ys p q = absurd p
appends_both (Some a) (Some b) None xs ys p q = absurd q
appends_both (Some a) (Some b) (Some c) xs ys p q = q ∙ ap (λ r. r ++ ys) p ∙ append_assoc a xs ys

pub nothing : {N : Type 0} (net : Ghosts N) (s : Session N) (o : Option (List ℕ)) → Written net s [] s o o
nothing net s None = record { texts = []; served = no_line; grows = tt }
nothing net s (Some xs) = record { texts = []; served = no_line; grows = sym (append-nil xs) }

pub and_one : {N : Type 0} (net : Ghosts N) (s s₁ s₂ : Session N) (ls : List InputLine) (line : InputLine) (a b c : Option (List ℕ)) → Written net s ls s₁ a b → Adds net s₁ line s₂ b c → Written net s (ls ++ line ∷ []) s₂ a c
and_one net s s₁ s₂ ls line a b c w l = record {
  texts = _;
  served = one_more line l.answer w.served l.answers;
  grows = subst (Appends a c) (sym (joined-snoc w.texts _)) (appends_both a b c _ _ w.grows l.grows);
}

-- a byte that ends a line
pub fed_end : {N : Type 0} (net : Ghosts N) (s s₁ s₂ : Session N) (all : List InputLine) (byte : ℕ) (rest : List ℕ) (m m' : Reading) (line : InputLine) (a b c : Option (List ℕ)) → m' ≡ fed m byte → (byte == 10) ≡ true → line ≡ m'.line
    → Adds net s₁ line s₂ b c → Going net s a all (byte ∷ rest) s₁ m b → Going net s a all rest s₂ m' c
fed_end net s s₁ s₂ all byte rest m m' line a b c is feed told l g =
    let at : fed m byte ≡ record { line = (opened m).line; ended = true } = cond-true (byte == 10) _ _ feed in
    let ends : m'.ended ≡ true = ap (λ x. x.ended) (is ∙ at) in
    record {
      ran = g.ran ++ line ∷ [];
      written = and_one net s s₁ s₂ g.ran line a b c g.written l;
      others = g.others ∙ (λ i. g.ran ++ (given (sym is i) ++ read_all (sym is i) rest)) ∙ (λ i. g.ran ++ (cond (ends i) (sym told i ∷ []) [] ++ read_all m' rest)) ∙ sym (append_assoc g.ran (line ∷ []) (read_all m' rest));
    }

-- and one that does not
pub fed_on : {N : Type 0} (net : Ghosts N) (s s₁ : Session N) (all : List InputLine) (byte : ℕ) (rest : List ℕ) (m m' : Reading) (a b : Option (List ℕ)) → m' ≡ fed m byte → (byte == 10) ≡ false
    → Going net s a all (byte ∷ rest) s₁ m b → Going net s a all rest s₁ m' b
fed_on net s s₁ all byte rest m m' a b is on g =
    let at : fed m byte ≡ record { line = grown (opened m).line byte; ended = false } = cond-false (byte == 10) _ _ on in
    let ends : m'.ended ≡ false = ap (λ x. x.ended) (is ∙ at) in
    record {
      ran = g.ran;
      written = g.written;
      others = g.others ∙ (λ i. g.ran ++ (given (sym is i) ++ read_all (sym is i) rest)) ∙ (λ i. g.ran ++ (cond (ends i) (m'.line ∷ []) [] ++ read_all m' rest));
    }

-- the input ends
pub ended_on : {N : Type 0} (net : Ghosts N) (s s₁ : Session N) (all : List InputLine) (m : Reading) (a b : Option (List ℕ)) → [] ≡ at_end m → Going net s a all [] s₁ m b → Written net s all s₁ a b
ended_on net s s₁ all m a b none g = subst (λ ls. Written net s ls s₁ a b) (sym (g.others ∙ ap (λ ls. g.ran ++ ls) (sym none) ∙ append-nil g.ran)) g.written

pub ended_with : {N : Type 0} (net : Ghosts N) (s s₁ s₂ : Session N) (all : List InputLine) (m : Reading) (line : InputLine) (a b c : Option (List ℕ)) → line ∷ [] ≡ at_end m → Adds net s₁ line s₂ b c → Going net s a all [] s₁ m b
    → Written net s all s₂ a c
ended_with net s s₁ s₂ all m line a b c some l g =
    subst (λ ls. Written net s ls s₂ a c) (sym (g.others ∙ ap (λ ls. g.ran ++ ls) (sym some))) (and_one net s s₁ s₂ g.ran line a b c g.written l)

-- where the input's bytes are known: the lines of those that are taken are run
abbrev pub Follows : {N : Type 0} → Ghosts N → Session N → (o₀ o before : Option (List ℕ)) → Session N → Reading → Option (List ℕ) → Type 0
Follows net first o₀ o before s m after = IfSome o₀ (λ all. IsSomeAnd o (λ xs. Going net first before (lines_of all) xs s m after))

pub begins : {N : Type 0} (net : Ghosts N) (first : Session N) (m : Reading) (o before : Option (List ℕ)) → ReadsAll → m ≡ begun → Follows net first o o before first m before
begins net first m None before all is = tt
begins net first m (Some xs) before all is = record { ran = []; written = nothing net first before; others = sym (all xs) ∙ ap (λ x. read_all x xs) (sym is) }

pub goes_on : {N : Type 0} (net : Ghosts N) (first s s' : Session N) (m m' : Reading) (o₀ o o' before b c : Option (List ℕ)) (bs : List ℕ) → Consumes o o' bs
    → Feeds net bs s m b s' m' c → Follows net first o₀ o before s m b → Follows net first o₀ o' before s' m' c
goes_on net first s s' m m' None o o' before b c bs took step h = tt
goes_on net first s s' m m' (Some all) (Some xs) (Some ys) before b c bs took step h =
    step first before (lines_of all) ys (subst (λ x. Going net first before (lines_of all) x s m b) took h)
goes_on net first s s' m m' (Some all) (Some xs) None before b c bs took step h = absurd took
goes_on net first s s' m m' (Some all) None o' before b c bs took step h = absurd h

pub comes_to_end : {N : Type 0} (net : Ghosts N) (network : N) (first s s' : Session N) (m : Reading) (o₀ o o' before b c : Option (List ℕ)) → Reached [] (moment net first.system) → first.system.network ≡ network → Consumes o o' [] → IsAtEnd o'
    → Ends net s m b s' c → Follows net first o₀ o before s m b → IfSome o₀ (λ all. Serves net network (lines_of all) before c)
comes_to_end net network first s s' m None o o' before b c fresh over took done step h = tt
comes_to_end net network first s s' m (Some all) (Some xs) (Some ys) before b c fresh over took done step h =
    record { first = first; fresh = fresh; over = over; last = s'; written = step first before (lines_of all) (subst (λ x. Going net first before (lines_of all) x s m b) (took ∙ done) h) }
comes_to_end net network first s s' m (Some all) (Some xs) None before b c fresh over took done step h = absurd took
comes_to_end net network first s s' m (Some all) None o' before b c fresh over took done step h = absurd h
