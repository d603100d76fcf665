-- A node acts: its board decides by the load, and what goes out is offered to the network.
use Rattle.std.proofs.Common.{◌≡◌, ℕ, ◌+◌, ◌-◌, ◌/◌, ◌%◌, ◌≤◌, min, cond, leb, List, [], ◌∷◌, map, length, set, Some, None, Ok, Err, sum_by, IsErrAnd, MatchResult, Option, Result, sym, refl, ap, ◌∙◌, subst, inl, inr, arith}
use Rattle.std.specs.List.{slice_get}
use Rattle.std.specs.Option.{option_map}
use Rattle.std.specs.Result.{result_map_both as both}
use Rattle.std.proofs.lemmas.List.{length-map}
use Rattle.std.proofs.lemmas.Bool.{cond-true, le-leb, cases_lt}
use Rattle.network.specs.declared.network.Network.{Ghosts}
use Rattle.network.specs.Bags.{Offered}
use Rattle.network.specs.Messages.{Plain, plain, reading, writing}
use Rattle.lines.specs.declared.types.Acted.{Acted}
use Rattle.lines.specs.declared.types.ActFault.{ActFault}
use Rattle.lines.specs.declared.types.ActFault.TheVariants as act_fault
use Rattle.lines.specs.declared.types.LineFault.TheVariants.{EveryLineWaits, WrittenTwice}
use Rattle.lines.specs.Model as board
use Rattle.lines.specs.Model.{Tables}
use Rattle.lines.specs.Plain.{plain_acted, plain_refusal, plain_outgoing}
use Rattle.protocol.specs.Moments.{Moment, is_started, board_at, waiters, load, with_board, with_bag, act, at, acted, refused}
use Rattle.protocol.specs.Steps.{Outcome, does, at_node, acts, goes_out, why_not, takes}
use Rattle.system.specs.declared.fault.SystemFault.{SystemFault}
use Rattle.system.specs.Faults.{refusal_of, whole_fault}
use Rattle.system.specs.Systems.{answered}
use Rattle.system.specs.Through.{Offers, Done}
use Rattle.system.proofs.Steps.{at_work, done, told, quiet_board, with_boards}

-- beyond the limit every load is the same to a board
module _ (n : ℕ) (t : Tables) (k l l' limit : ℕ) (full : limit ≤ l) (full' : limit ≤ l') where
  no_room : (x y : board.Step) → cond (leb limit l) x y ≡ cond (leb limit l') x y
  no_room x y = cond-true (leb limit l) x y (le-leb limit l full) ∙ sym (cond-true (leb limit l') x y (le-leb limit l' full'))

  no_two : (x y : board.Step) → cond (leb (limit - 1) l) x y ≡ cond (leb (limit - 1) l') x y
  no_two x y = cond-true (leb (limit - 1) l) x y (le-leb (limit - 1) l (omega arith)) ∙ sym (cond-true (leb (limit - 1) l') x y (le-leb (limit - 1) l' (omega arith)))

  claims : (p : ℕ) (q : board.Read) (o : Option ℕ) → board.read_claims n t k p q l limit o ≡ board.read_claims n t k p q l' limit o
  claims p q None = refl
  claims p q (Some i) = no_two _ _

  read_finds : (p : ℕ) (q : board.Read) (f : board.Found) → board.read_finds n t k p q l limit f ≡ board.read_finds n t k p q l' limit f
  read_finds p q board.absent = claims p q (board.claimed t)
  read_finds p q (board.waits_at i) = refl
  read_finds p q (board.holds v) = refl

  write_finds : (a v : ℕ) (f : board.Found) → board.write_finds n t k a v l limit f ≡ board.write_finds n t k a v l' limit f
  write_finds a v board.absent = no_room _ _
  write_finds a v (board.waits_at i) = no_room _ _
  write_finds a v (board.holds u) = refl

  act_on : (o : Option board.Command) → board.act_on n t k l limit o ≡ board.act_on n t k l' limit o
  act_on None = refl
  act_on (Some (board.reading p)) = read_finds p (board.read_of (board.place_at t p)) (board.found (board.read_of (board.place_at t p)).address 0 t.lines)
  act_on (Some (board.writing a v)) = write_finds a v (board.found a 0 t.lines)

  beyond : board.acted n t k l limit ≡ board.acted n t k l' limit
  beyond = act_on (slice_get t.commands k)

-- so a count that stops at the most that any limit allows decides as the whole count does
capped : (n : ℕ) (t : Tables) (k count w limit : ℕ) → limit ≤ 1024 → board.acted n t k (min count 1024 + w) limit ≡ board.acted n t k (count + w) limit
capped n t k count w limit small =
    elim (cases_lt 1024 count) [
      | inl more ↦ beyond n t k (min count 1024 + w) (count + w) limit (omega (arith, more)) (omega (arith, more))
      | inr fits ↦ let same : min count 1024 ≡ count = omega (arith, fits) in ap (λ c. board.acted n t k (c + w) limit) same
    ]

-- only the cells of each node decide where a message goes
pub goes_so : (m m' : Moment) (n : ℕ) (o : Option board.Outgoing) → m.cells ≡ m'.cells → goes_out m n o ≡ goes_out m' n o
goes_so m m' n None e = refl
goes_so m m' n (Some (board.asks a)) e = ap (λ c. reading (a / c % 16) a n ∷ []) e
goes_so m m' n (Some (board.gives a v)) e = ap (λ c. writing (a / c % 16) a n v ∷ []) e

refuses_so : (n : ℕ) (e : ActFault) → why_not n (plain_refusal e) ≡ refusal_of (whole_fault n e)
refuses_so n act_fault.NoSuchCommand = refl
refuses_so n (act_fault.NetworkFull a) = refl
refuses_so n (act_fault.Lines (EveryLineWaits k a)) = refl
refuses_so n (act_fault.Lines (WrittenTwice k a)) = refl

-- the board's answer, with the number of its node
abbrev pub Tells : ℕ → Result Acted ActFault → Result Acted SystemFault → Type 0
Tells n answer whole = MatchResult answer (λ x. whole ≡ Ok x) (λ e. IsErrAnd whole (λ y. y ≡ whole_fault n e))

module _ (m : Moment) (n k : ℕ) (s : board.Step) where
  -- it is the call's outcome
  acts_ok : (answer : Result Acted ActFault) (d : Acted) → both plain_acted plain_refusal answer ≡ s.answer → Tells n answer (Ok d)
      → acts m n k s.answer s.after ≡ record { event = at n (acted k d.readied); after = with_board m n s.after; sent = goes_out m n (option_map plain_outgoing d.sends) }
  acts_ok (Ok x) d said is =
      let same : x ≡ d = cc in
      ap (λ r. acts m n k r s.after) (sym said)
      ∙ ap (λ y. record { event = at n (acted k y.readied); after = with_board m n s.after; sent = goes_out m n (option_map plain_outgoing y.sends) }) same
  acts_ok (Err e) d said is = absurd is

  acts_err : (answer : Result Acted ActFault) (fault : SystemFault) → both plain_acted plain_refusal answer ≡ s.answer → Tells n answer (Err fault)
      → acts m n k s.answer s.after ≡ takes (refused (act n k) (refusal_of fault)) (with_board m n s.after)
  acts_err (Ok x) fault said is = cc
  acts_err (Err e) fault said is =
      ap (λ r. acts m n k r s.after) (sym said) ∙ ap (λ w. takes (refused (act n k) w) (with_board m n s.after)) (refuses_so n e ∙ ap refusal_of (sym is))

abbrev left_as : Moment → List Tables → ℕ → List Plain → Moment
left_as m bs limit bag = record { nodes = m.nodes; cells = m.cells; boards = bs; memory = m.memory; end = m.end; limit = limit; bag = bag }

module _ {N : Type 0} (net : Ghosts N) (at_first : N) (m : Moment) (bag : m.bag ≡ map plain (net.bag at_first)) (small : m.limit ≤ 1024) (n k : ℕ) (works : 1 ≤ m.nodes)
    (rule : (o : Outcome) → at_node m (act n k) n o ≡ o) (l : ℕ) (load_is : l ≡ min (length (net.bag at_first)) 1024 + sum_by waiters m.memory) (answer : Result Acted ActFault) (bs : List Tables)
    (said : both plain_acted plain_refusal answer ≡ (board.acted n (board_at m n) k l m.limit).answer)
    (boards : bs ≡ set m.boards n (board.acted n (board_at m n) k l m.limit).after) where
  loads : load m ≡ length (net.bag at_first) + sum_by waiters m.memory
  loads = ap (λ xs. length xs + sum_by waiters m.memory) (cond-true (is_started m) m.bag [] (at_work m works) ∙ bag) ∙ ap (λ c. c + sum_by waiters m.memory) (length-map (net.bag at_first) plain)

  same : board.acted n (board_at m n) k (load m) m.limit ≡ board.acted n (board_at m n) k l m.limit
  same =
      ap (λ x. board.acted n (board_at m n) k x m.limit) loads ∙ sym (capped n (board_at m n) k (length (net.bag at_first)) (sum_by waiters m.memory) m.limit small)
      ∙ ap (λ x. board.acted n (board_at m n) k x m.limit) (sym load_is)

  is : does m (act n k) None ≡ acts m n k (board.acted n (board_at m n) k l m.limit).answer (board.acted n (board_at m n) k l m.limit).after
  is = rule _ ∙ ap (λ s. acts m n k s.answer s.after) same

  pub acts_on : (d : Acted) (n' : N) → Tells n answer (Ok d) → Offers net at_first (goes_out m n (option_map plain_outgoing d.sends)) n'
      → Offered m.limit (map plain (net.bag at_first)) (goes_out m n (option_map plain_outgoing d.sends)) (map plain (net.bag n')) → net.bound n' ≡ m.limit
      → Done net at_first m (act n k) (at n (acted k d.readied)) n' (left_as m bs (net.bound n') (map plain (net.bag n')))
  acts_on d n' ok offers offered bound =
      let all = is ∙ acts_ok m n k (board.acted n (board_at m n) k l m.limit) answer d said ok in
      let sent = sym (ap (λ o. o.sent) all) in
      done net (record {
        got = None;
        rest = at_first;
        takes = (refl, refl);
        says = sym (ap (λ o. o.event) all);
        offers = subst (λ ms. Offers net at_first ms n') sent offers;
        leaves = (λ i. left_as m (boards i) (bound i) (map plain (net.bag n'))) ∙ sym (ap (λ o. with_bag o.after (map plain (net.bag n'))) all);
      }) (refl, sym bag) (subst (λ ms. Offered m.limit (map plain (net.bag at_first)) ms (map plain (net.bag n'))) sent offered)

  pub acts_not : (fault : SystemFault) (r : Result ℕ SystemFault) → Tells n answer (Err fault) → IsErrAnd r (λ y. y ≡ fault)
      → Done net at_first m (act n k) (answered (act n k) (λ count. at n (acted k count)) r) at_first (with_boards m bs)
  acts_not fault r err p =
      quiet_board net (act n k) bs n (board.acted n (board_at m n) k l m.limit).after (refl, refl) (refl, sym bag) boards
      (is ∙ acts_err m n k (board.acted n (board_at m n) k l m.limit) answer fault said err
      ∙ ap (λ e. takes e (with_board m n (board.acted n (board_at m n) k l m.limit).after)) (told (act n k) (λ count. at n (acted k count)) fault r p)) bag
