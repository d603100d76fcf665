-- Each call keeps a session's facts: a place is parked exactly when it is drawn, and only nodes at work have such places.
use Rattle.std.proofs.Common.{◌≡◌, ℕ, zero, suc, ◌<◌, Bool, true, false, cond, ltb, List, [], ◌∷◌, map, get_or, None, Ok, Err, Option, Result, sym, refl, ap, ◌∙◌, subst, arith, lit≤}
use Rattle.std.specs.Option.{option_map}
use Rattle.std.proofs.lemmas.Bool.{cond-true, lt-ltb, false≢true}
use Rattle.network.specs.declared.network.Network.{Ghosts}
use Rattle.network.specs.Messages.{Plain, plain}
use Rattle.lines.specs.declared.board.Board.{Board}
use Rattle.lines.specs.Boards.{tables}
use Rattle.lines.specs.Facts.{Facts}
use Rattle.lines.specs.Model as board
use Rattle.lines.proofs.Keeps.{start_facts}
use Rattle.lines.proofs.Kept.{facts_of}
use Rattle.protocol.specs.Moments.{Moment, is_started, Call, finish, put_back, Deed, drew, finished, returned, Event, at, refused, Refusal}
use Rattle.protocol.specs.Steps.{Outcome, refuse, does, Asks, Reached, new, then}
use Rattle.system.specs.declared.fault.SystemFault.{SystemFault}
use Rattle.system.specs.declared.system.System.{System}
use Rattle.system.specs.Faults.{refusal_of}
use Rattle.system.specs.Parked.{is_parked, parking}
use Rattle.system.specs.Systems.{moment, answered}
use Rattle.system.specs.Through.{Called, Takes}
use Rattle.system.proofs.Steps.{at_work, quiet}
use Rattle.script.specs.declared.answer.Answer.{Answer}
use Rattle.session.specs.Drawn.{drawn_at}
use Rattle.session.specs.Results.{Tells, of_memory}
use Rattle.session.proofs.Lists.{at_place, of_replicate}
use Rattle.session.proofs.Boards.{start_undrawn, drawn_in}
use Rattle.session.proofs.Drawn.{drawn_on, AtWork, marks, marks_deed, Keeping, silent, Shows, does_shows}
use Rattle.session.proofs.Parked.{parked_at, unparked}

all_facts : (bs : List Board) (n : ℕ) → Facts (get_or (map tables bs) n (board.start 1))
all_facts [] n = start_facts 1 (lit≤ tt) (lit≤ tt)
all_facts (b ∷ bs) zero = facts_of b
all_facts (b ∷ bs) (suc n) = all_facts bs n

-- what the ghost fields of a session say
abbrev pub Parks : {N : Type 0} → System N → List (List Bool) → Type 0
Parks s rows = record {
  parked : (n p : ℕ) → is_parked rows n p ≡ drawn_at s.boards n p;
  at_work : (n p : ℕ) → drawn_at s.boards n p ≡ true → n < s.nodes;
}

module _ {N : Type 0} (net : Ghosts N) (s s' : System N) (c : Call) (e : Event) (w : (n p : ℕ) → drawn_at s.boards n p ≡ true → n < s.nodes) (done : Called net s c e s') where
  shows : Shows (moment net s) (does (moment net s) c (option_map plain done.made.got))
  shows = does_shows (moment net s) (all_facts s.boards) w c (option_map plain done.made.got)

  drawn_next : (n p : ℕ) → drawn_at s'.boards n p ≡ marks e n p (drawn_at s.boards n p)
  drawn_next n p = ap (λ m. drawn_on m n p) done.made.leaves ∙ shows.drawn n p ∙ ap (λ x. marks x n p (drawn_at s.boards n p)) (sym done.made.says)

  work_next : (n p : ℕ) → drawn_at s'.boards n p ≡ true → n < s'.nodes
  work_next = subst AtWork (sym done.made.leaves) shows.within

  parks_next : (rows rows' : List (List Bool)) → ((n p : ℕ) → is_parked rows n p ≡ drawn_at s.boards n p) → ((n p : ℕ) → is_parked rows' n p ≡ marks e n p (is_parked rows n p)) → Parks s' rows'
  parks_next rows rows' was now = record { parked = λ n p. now n p ∙ ap (marks e n p) (was n p) ∙ sym (drawn_next n p); at_work = work_next }

-- a call that is refused
pub parks_refused : {N : Type 0} {net : Ghosts N} (s s' : System N) (rows : List (List Bool)) {c d : Call} {why : Refusal} → ((n p : ℕ) → is_parked rows n p ≡ drawn_at s.boards n p)
    → ((n p : ℕ) → drawn_at s.boards n p ≡ true → n < s.nodes) → Called net s c (refused d why) s' → Parks s' rows
parks_refused {net = net} s s' rows {c} {d} {why} was w done = parks_next net s s' c (refused d why) w done rows rows was (λ n p. refl)

-- a call that draws, finishes and puts back nothing
pub parks_kept : {N : Type 0} {net : Ghosts N} (s s' : System N) (rows : List (List Bool)) {c : Call} {e : Event} → Keeping c → ((n p : ℕ) → is_parked rows n p ≡ drawn_at s.boards n p)
    → ((n p : ℕ) → drawn_at s.boards n p ≡ true → n < s.nodes) → Called net s c e s' → Parks s' rows
parks_kept {net = net} s s' rows {c} {e} keeping was w done =
    let same : (n p : ℕ) (b : Bool) → marks e n p b ≡ b = λ n p b. ap (λ x. marks x n p b) done.made.says ∙ silent (moment net s) c (option_map plain done.made.got) keeping n p b in
    parks_next net s s' c e w done rows rows was (λ n p. sym (same n p (is_parked rows n p)))

-- a draw, whose place is parked
pub parks_drawn : {N : Type 0} (net : Ghosts N) (s s' : System N) (c : Call) (n k q p : ℕ) (read : board.Read) (word : ℕ) (rows rows' : List (List Bool)) → k ≡ n → q ≡ p
    → ((n p : ℕ) → is_parked rows n p ≡ drawn_at s.boards n p) → ((n p : ℕ) → drawn_at s.boards n p ≡ true → n < s.nodes)
    → Called net s c (at n (drew p read word)) s' → rows' ≡ parking rows k q true → is_parked rows' k q ≡ true → Parks s' rows'
parks_drawn net s s' c n k q p read word rows rows' kn qp was w done are there =
    parks_next net s s' c (at n (drew p read word)) w done rows rows' was
    (λ j x. ap (λ r. is_parked r j x) are ∙ parked_at rows k q true (sym (ap (λ r. is_parked r k q) are) ∙ there) j x ∙ (λ i. at_place (kn i) (qp i) j x true (is_parked rows j x)))

-- what a call at a node does, if the node is at work
at_one : (m : Moment) (n : ℕ) (x y z : Outcome) → n < m.nodes → cond (is_started m) (cond (ltb n m.nodes) x y) z ≡ x
at_one m n x y z lt =
    cond-true (is_started m) (cond (ltb n m.nodes) x y) z (at_work m (omega arith)) ∙ cond-true (ltb n m.nodes) x y (lt-ltb n m.nodes lt)

-- a drawn place is finished, or put back
abbrev Taken : (ℕ → ℕ → Call) → (ℕ → Deed) → Type 0
Taken call deed = (m : Moment) (n p : ℕ) (got : Option Plain) → n < m.nodes → drawn_on m n p ≡ true → (does m (call n p) got).event ≡ at n (deed p)

pub finish_taken : Taken finish finished
finish_taken m n p got lt e = ap (λ o. o.event) (at_one m n _ _ _ lt ∙ cond-true (drawn_on m n p) _ _ e)

pub put_back_taken : Taken put_back returned
put_back_taken m n p got lt e = ap (λ o. o.event) (at_one m n _ _ _ lt ∙ cond-true (drawn_on m n p) _ _ e)

never : {n : ℕ} {d : Deed} {c : Call} {why : _} → refused c why ≡ at n d → ⊥
never e = let z : ◌≡◌ {A = ℕ} 0 1 = cc in omega arith

-- its place is taken up before
pub parks_taken_up : {N : Type 0} (net : Ghosts N) (s s' : System N) (call : ℕ → ℕ → Call) (deed : ℕ → Deed) (n p k q : ℕ) (r : Result (Unit {0}) SystemFault) (rows rows' : List (List Bool)) → Taken call deed
    → ((i b : ℕ) → (j x : ℕ) (y : Bool) → marks_deed i (deed b) j x y ≡ at_place i b j x false y) → k ≡ n → q ≡ p
    → ((n p : ℕ) → is_parked rows n p ≡ drawn_at s.boards n p) → ((n p : ℕ) → drawn_at s.boards n p ≡ true → n < s.nodes) → true ≡ is_parked rows n p
    → Called net s (call k q) (answered (call k q) (λ _. at k (deed q)) r) s' → rows' ≡ parking rows n p false → Parks s' rows'
parks_taken_up net s s' call deed n p k q (Ok _) rows rows' taken event kn qp was w there done are =
    parks_next net s s' (call k q) (at k (deed q)) w done rows rows' was
    (λ j x. ap (λ r. is_parked r j x) are ∙ parked_at rows n p false (unparked rows n p) j x ∙ (λ i. at_place (sym kn i) (sym qp i) j x false (is_parked rows j x)) ∙ sym (event k q j x (is_parked rows j x)))
parks_taken_up net s s' call deed n p k q (Err fault) rows rows' taken event kn qp was w there done are =
    let drawn : drawn_at s.boards k q ≡ true = (λ i. drawn_at s.boards (kn i) (qp i)) ∙ sym (was n p) ∙ sym there in
    absurd (never (done.made.says ∙ taken (moment net s) k q (option_map plain done.made.got) (w k q drawn) drawn))

-- nothing is drawn at first
pub first_undrawn : {h : List Event} {m : Moment} → Reached h m → h ≡ [] → (n p : ℕ) → drawn_on m n p ≡ false
first_undrawn (new limit bag) e n p = of_replicate (λ t. drawn_in t p ≡ false) 16 (board.start 1) (board.start 1) n (start_undrawn 1 p) (start_undrawn 1 p)
first_undrawn (then c r s) e n p = absurd (let z : ◌≡◌ {A = ℕ} 0 1 = cc in let f : ⊥ = omega arith in f)

pub begins : {N : Type 0} (net : Ghosts N) (s : System N) (rows : List (List Bool)) → Reached [] (moment net s) → ((n p : ℕ) → is_parked rows n p ≡ false) → Parks s rows
begins net s rows first none =
    record { parked = λ n p. none n p ∙ sym (first_undrawn first refl n p); at_work = λ n p y. absurd (false≢true (sym (first_undrawn first refl n p) ∙ y)) }

-- a place that is not drawn: the call is refused, and all stays
pub stays : {N : Type 0} (net : Ghosts N) (s : System N) (c : Call) (why : Refusal) → Takes net (moment net s) c s.network None s.network → Asks (moment net s) c None (moment net s).bag
    → does (moment net s) c None ≡ refuse (moment net s) c why → Called net s c (refused c why) s
stays net s c why none asks is = quiet net c none asks is refl

-- what such a call is told
pub told_undrawn : {N : Type 0} (net : Ghosts N) (s : System N) (c : Call) (fault : SystemFault) (r : Result Answer SystemFault) → r ≡ Err fault → Takes net (moment net s) c s.network None s.network → Asks (moment net s) c None (moment net s).bag
    → does (moment net s) c None ≡ refuse (moment net s) c (refusal_of fault) → Tells net s c r s
told_undrawn net s c fault r is none asks all =
    record { event = refused c (refusal_of fault); called = stays net s c (refusal_of fault) none asks all; tells = ap of_memory is }
