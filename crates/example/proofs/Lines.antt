-- The lines of the example are its calls, and what they are told is computed.
use Rattle.std.proofs.Common.{◌≡◌, ℕ, zero, suc, ◌+◌, ◌<◌, List, [], ◌∷◌, map, reverse, length, get_or, take, set, sym, refl, ap, ◌∙◌, subst, add-one, arith, take-suc-set, Bor, rules}
use Rattle.std.specs.List.{AllByRecursion}
use Rattle.std.specs.Fmt.{digits}
use Rattle.std.proofs.lemmas.List.{length-map, get_or-map, take_all, reverse-append, reverse-reverse}
use Rattle.std.proofs.ByRecursion.{All-get_or}
use Rattle.bounded.specs.Listed.{listed}
use Rattle.network.specs.contracts.pool.PoolNetwork.TheImpl.{ghosts as over_pool}
use Rattle.network.specs.declared.pool.Pool.{Pool}
use Rattle.network.specs.Messages.{plain}
use Rattle.protocol.specs.Moments.{Moment, unused, Call, Event}
use Rattle.protocol.specs.Steps.{Reached, new, then}
use Rattle.protocol.specs.Edges.{pool_says, pool_leaves, pool_after, pool_history}
use Rattle.example.specs.Memory.{example, history}
use Rattle.example.proofs.Memory.{portal_run}
use Rattle.system.specs.Systems.{moment}
use Rattle.script.specs.declared.answer.Answer.{Answer}
use Rattle.script.specs.declared.call.Call as script
use Rattle.script.specs.declared.call.Call.TheVariants.{Start, Read, Write, Act, Deliver, Draw, Finish}
use Rattle.script.specs.Answers.{answer_text}
use Rattle.script.specs.Calls.{call_text, Fits, Writes}
use Rattle.script.specs.Inputs.{InputLine, text}
use Rattle.script.proofs.Called.{one_call}
use Rattle.session.specs.declared.session.Session.{Session}
use Rattle.session.specs.Sessions.{call_of, answer_of, Answered, Answers, made, none, Ran, no_line, one_more, EveryScript}
use Rattle.example.specs.Runs.{lines, answers, ExampleSession}
use Rattle.example.proofs.Exact.{exact}

-- what a line that writes a call is told, and what it leaves
abbrev Computed : Session Pool → Call → Answer → Session Pool → Type 0
Computed s c a s' = (a ≡ answer_of (pool_says (moment over_pool s.system) c)) × (moment over_pool s'.system ≡ pool_leaves (moment over_pool s.system) c)

answered : (s s' : Session Pool) (c : Call) (a : Answer) → Answered over_pool s.system c a s'.system → Computed s c a s'
answered s s' c a h = let (says, leaves) = exact s.system s'.system c h.event h.called in (h.tells ∙ ap answer_of says, leaves)

line : (s s' : Session Pool) (c : script.Call) (bytes : List ℕ) (a : Answer) → Writes c bytes → Answers over_pool s (text bytes) a s' → Computed s (call_of c) a s'
line s s' c bytes a w (made d v h) = subst (λ x. Computed s (call_of x) a s') (one_call d c bytes v w) (answered s s' (call_of d) a h)
line s s' c bytes a w (none nothing is same) = absurd (nothing c w)

abbrev calls : List script.Call
calls =
    Start 2 1 2 ∷ Read 0 2 7 1 ∷ Read 0 2 7 2 ∷ Act 0 0 ∷ Act 0 0 ∷ Write 1 2 40 ∷ Deliver 0 ∷ Act 1 0 ∷ Deliver 0 ∷ Deliver 0 ∷ Draw 0 ∷ Finish 0 0
    ∷ Write 0 2 41 ∷ Act 0 0 ∷ Deliver 0 ∷ []

spelled : lines ≡ map call_text calls
unfolding digits
spelled = refl

fit : AllByRecursion Fits calls
fit = search rules

abbrev call_at : ℕ → script.Call
call_at i = get_or calls i (Draw 0)

writes_at : (i : ℕ) → i < 15 → Writes (call_at i) (get_or lines i [])
writes_at i lt = record { is = ap (λ l. get_or l i []) spelled ∙ get_or-map call_text calls i (Draw 0) [] lt; fits = All-get_or Fits calls i (Draw 0) lt fit }

-- the lines as the code has them
pub record Said (items : List (Bor (List ℕ))) : Type 0 where
  pub is : map (λ x. x.now) items ≡ lines

pub said : (items : List (Bor (List ℕ))) (d : Bor (List ℕ)) (i : ℕ) → Said items → i < 15 → text (get_or items i d).now ≡ text (get_or lines i [])
said items d i all lt =
    let long : length items ≡ 15 = sym (length-map items (λ x. x.now)) ∙ ap length all.is in
    ap text (sym (get_or-map (λ x. x.now) items i d [] (omega arith)) ∙ ap (λ l. get_or l i []) all.is)

-- the first calls and lines, newest first
abbrev past : ℕ → List Call
past zero = []
past (suc i) = call_of (call_at i) ∷ past i

abbrev spoken : ℕ → List InputLine
spoken zero = []
spoken (suc i) = text (get_or lines i []) ∷ spoken i

-- after i lines
pub record Going (first : Session Pool) (i : ℕ) (s : Session Pool) (told : List Answer) : Type 0 where
  pub ran : Ran over_pool first (spoken i) s
  pub memory : moment over_pool s.system ≡ pool_after 64 (past i)
  pub tells : reverse (take i told) ≡ map answer_of (pool_history 64 (past i))

-- a memory with no history is unused
unused_yet : {h : List Event} {m : Moment} → Reached h m → h ≡ [] → m ≡ unused m.limit m.bag
unused_yet (new limit bag) e = refl
unused_yet (then c r s) e = absurd (let z : ◌≡◌ {A = ℕ} 0 1 = cc in omega arith)

pub fresh : (s : Session Pool) (p : Pool) → Reached [] (moment over_pool s.system) → s.system.network ≡ p → listed p.held ≡ [] → moment over_pool s.system ≡ unused 64 []
fresh s p r is empty = unused_yet r refl ∙ ap (λ bag. unused 64 (map plain bag)) (ap (λ n. listed n.held) is ∙ empty)

pub begins : (s : Session Pool) (told : List Answer) → moment over_pool s.system ≡ unused 64 [] → Going s 0 s told
begins s told e = record { ran = no_line; memory = e; tells = refl }

pub goes_on : (first s s' : Session Pool) (i : ℕ) (told : List Answer) (a : Answer) → i < 15 → i < length told → Going first i s told → Answers over_pool s (text (get_or lines i [])) a s'
    → Going first (i + 1) s' (set told i a)
goes_on first s s' i told a lt room g h =
    let (says, leaves) = line s s' (call_at i) (get_or lines i []) a (writes_at i lt) h in
    subst (λ n. Going first n s' (set told i a)) (sym (add-one i)) (record {
      ran = one_more (text (get_or lines i [])) a g.ran h;
      memory = leaves ∙ ap (λ m. pool_leaves m (call_of (call_at i))) g.memory;
      tells = ap reverse (take-suc-set told i a room) ∙ reverse-append (take i told) (a ∷ [])
          ∙ (λ k. (says ∙ ap (λ m. answer_of (pool_says m (call_of (call_at i)))) g.memory) k ∷ g.tells k);
    })

-- after all of them
told_all : (told : List Answer) → length told ≡ 15 → reverse (take 15 told) ≡ map answer_of (history example) → map answer_text told ≡ answers
unfolding digits
told_all told all e =
    ap (map answer_text) (sym (take_all 15 told (omega (arith, all))) ∙ sym (reverse-reverse (take 15 told)) ∙ ap reverse (e ∙ ap (map answer_of) portal_run.answers))

pub ends : (first s : Session Pool) (i : ℕ) (told : List Answer) → moment over_pool first.system ≡ unused 64 [] → EveryScript over_pool first → i ≡ 15 → length told ≡ 15 → Going first i s told → ExampleSession s told
ends first s i told begun laws e all g =
    let end = subst (λ n. Going first n s told) e g in
    record { first = first; fresh = begun; laws = laws; ran = end.ran; tells = told_all told all end.tells; leaves = end.memory }
