-- A call on the board of a node.
use Rattle.std.proofs.Common.{◌≡◌, ℕ, ◌<◌, Bool, true, false, cond, List, map, length, get_or, set, is_ok, Some, None, Ok, Err, IsErrAnd, MatchResult, Result, sym, refl, ap, ◌∙◌, subst}
use Rattle.std.specs.Result.{result_ok}
use Rattle.std.proofs.lemmas.List.{map-set, get_or-map}
use Rattle.std.proofs.lemmas.Bool.{cond-true, cond-false}
use Rattle.network.specs.declared.network.Network.{Ghosts}
use Rattle.lines.specs.declared.board.Board.{Board}
use Rattle.lines.specs.Boards.{tables}
use Rattle.lines.specs.Model.{Tables, Read, start, is_drawn, free_place, given, place_at as drawn_at}
use Rattle.protocol.specs.Moments.{Moment, Call, Event, read, at, accepted, board_at, place_at, with_board}
use Rattle.protocol.specs.Moments as layer
use Rattle.protocol.specs.Steps.{Outcome, does, at_node, takes, refuse, refusal, reads, Asks}
use Rattle.network.specs.Messages.{plain}
use Rattle.system.specs.declared.fault.SystemFault.{SystemFault}
use Rattle.system.specs.declared.system.System.{System}
use Rattle.system.specs.Faults.{refusal_of}
use Rattle.system.specs.Systems.{moment, answered}
use Rattle.system.specs.Through.{Takes, Done}
use Rattle.system.proofs.Steps.{told, quiet_board, unmoved, with_boards}

-- the board at i of a list is as the tables there, and so is what is left of it
module _ (bs : List Board) {i n : ℕ} (same : i ≡ n) where
  pub there : (b : Board) → i < length bs → tables (get_or bs i b) ≡ get_or (map tables bs) n (start 1)
  there b lt = sym (get_or-map tables bs i b (start 1) lt) ∙ ap (λ k. get_or (map tables bs) k (start 1)) same

  pub left_there : (new : Board) {t : Tables} → tables new ≡ t → map tables (set bs i new) ≡ set (map tables bs) n t
  left_there new is = map-set tables bs i new ∙ (λ j. set (map tables bs) (same j) (is j))

-- what a board refuses is the call's fault
abbrev pub Refuses : {X E : Type 0} → Result X E → SystemFault → Result X SystemFault → Type 0
Refuses r fault r' = MatchResult r (λ x. r' ≡ Ok x) (λ _. IsErrAnd r' (λ y. y ≡ fault))

-- a board is as it was where it refuses, and else t, as the rules say
module _ {N : Type 0} (net : Ghosts N) (s : System N) (n : ℕ) (c : Call) (none : Takes net (moment net s) c s.network None s.network) (asks : Asks (moment net s) c None (map plain (net.bag s.network))) where
  pub kept : {X : Type 0} (fault : SystemFault) (r' : Result X SystemFault) (taken : X → Event) (bs : List Tables) (t : Tables) → IsErrAnd r' (λ y. y ≡ fault) → bs ≡ set (moment net s).boards n t
      → does (moment net s) c None ≡ refuse (moment net s) c (refusal_of fault) → t ≡ board_at (moment net s) n
      → Done net s.network (moment net s) c (answered c taken r') s.network (with_boards (moment net s) bs)
  kept fault r' taken bs t err left is stays =
      unmoved net {m = moment net s} c bs n t none asks left stays (is ∙ ap (λ e. takes e (moment net s)) (told c taken fault r' err)) refl

  pub tried : {X E : Type 0} (r : Result X E) (fault : SystemFault) (r' : Result X SystemFault) (taken : X → Event) (bs : List Tables) (t : Tables) → Refuses r fault r' → bs ≡ set (moment net s).boards n t
      → MatchResult r (λ x. does (moment net s) c None ≡ takes (taken x) (with_board (moment net s) n t)) (λ _. (does (moment net s) c None ≡ refuse (moment net s) c (refusal_of fault)) × (t ≡ board_at (moment net s) n))
      → Done net s.network (moment net s) c (answered c taken r') s.network (with_boards (moment net s) bs)
  tried (Ok x) fault r' taken bs t is left h =
      quiet_board net {m = moment net s} c bs n t none asks left (h ∙ ap (λ a. takes (answered c taken a) (with_board (moment net s) n t)) (sym is)) refl
  tried (Err e) fault r' taken bs t is left h = kept fault r' taken bs t is left h.0 h.1

  -- the same, where a test decides
  pub gated : {X E : Type 0} (r : Result X E) (fault : SystemFault) (r' : Result X SystemFault) (e : Event) (bs : List Tables) (t u : Tables) (b : Bool) → Refuses r fault r' → bs ≡ set (moment net s).boards n t
      → is_ok r ≡ b → does (moment net s) c None ≡ cond b (takes e (with_board (moment net s) n u)) (refuse (moment net s) c (refusal_of fault))
      → (b ≡ true → t ≡ u) → (b ≡ false → t ≡ board_at (moment net s) n)
      → Done net s.network (moment net s) c (answered c (λ _. e) r') s.network (with_boards (moment net s) bs)
  gated {X} {E} (Ok x) fault r' e bs t u b is left ok rule on off =
      tried {X = X} {E = E} (Ok x) fault r' (λ _. e) bs t is left (rule ∙ cond-true b _ _ (sym ok) ∙ ap (λ k. takes e (with_board (moment net s) n k)) (sym (on (sym ok))))
  gated {X} {E} (Err y) fault r' e bs t u b is left ok rule on off = tried {X = X} {E = E} (Err y) fault r' (λ _. e) bs t is left (rule ∙ cond-false b _ _ (sym ok), off (sym ok))

  -- a place that is drawn is ended, in one of its ways
  pub ends : {X E : Type 0} (step : Tables → ℕ → Tables) (e : Event) (p : ℕ) {i k : ℕ} → i ≡ n → (b new : Board) → i < length s.boards → (r : Result X E) (fault : SystemFault) (r' : Result X SystemFault) → Refuses r fault r'
      → tables new ≡ step (tables (get_or s.boards i b)) p → is_ok r ≡ is_drawn (drawn_at (tables (get_or s.boards i b)) p) → k ≡ n → ((o : Outcome) → at_node (moment net s) c k o ≡ o)
      → does (moment net s) c None ≡ at_node (moment net s) c n (cond (is_drawn (place_at (moment net s) n p)) (takes e (with_board (moment net s) n (step (board_at (moment net s) n) p))) (refuse (moment net s) c (refusal_of fault)))
      → (is_drawn (place_at (moment net s) n p) ≡ false → step (board_at (moment net s) n) p ≡ board_at (moment net s) n)
      → Done net s.network (moment net s) c (answered c (λ _. e) r') s.network (with_boards (moment net s) (map tables (set s.boards i new)))
  ends step e p same b new lt r fault r' is left ok there-k rule all off =
      let at-node = there s.boards same b lt in
      let o : Outcome = cond (is_drawn (place_at (moment net s) n p)) (takes e (with_board (moment net s) n (step (board_at (moment net s) n) p))) (refuse (moment net s) c (refusal_of fault)) in
      gated r fault r' e _ _ _ (is_drawn (place_at (moment net s) n p)) is
      (left_there s.boards same new (left ∙ ap (λ t. step t p) at-node))
      (ok ∙ ap (λ t. is_drawn (drawn_at t p)) at-node)
      (all ∙ subst (λ j. at_node (moment net s) c j o ≡ o) there-k (rule o)) (λ _. refl) off

-- a read is given out where a place is free
pub reads_so : {E : Type 0} (m : Moment) (n : ℕ) (q : Read) (r : Result ℕ E) → result_ok r ≡ free_place (board_at m n)
    → MatchResult r (λ p. reads m n q (free_place (board_at m n)) ≡ takes (at n (accepted q p)) (with_board m n (given (board_at m n) q (free_place (board_at m n)))))
    (λ _. (reads m n q (free_place (board_at m n)) ≡ refuse m (read n q) (refusal 23 layer.system (Some n) None)) × (given (board_at m n) q (free_place (board_at m n)) ≡ board_at m n))
reads_so m n q (Ok p) e = ap (reads m n q) (sym e) ∙ ap (λ o. takes (at n (accepted q p)) (with_board m n (given (board_at m n) q o))) e
reads_so m n q (Err y) e = (ap (reads m n q) (sym e), ap (given (board_at m n) q) (sym e))
