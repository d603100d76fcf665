-- What the whole memory keeps through a message at its home.
use Rattle.std.proofs.Common.{◌≡◌, ℕ, ◌+◌, ◌*◌, ◌/◌, ◌%◌, ◌^◌, ◌<◌, ◌≤◌, ◌⊎◌, List, [], ◌∷◌, length, Some, Ok, Err, sum_by, Result, sym, refl, ap, ◌∙◌, subst, inl, inr, arith}
use lib.Count.{ones}
use lib.ListN.{length-map}
use Rattle.std.specs.List.{AllByRecursion}
use Rattle.std.proofs.lemmas.Nat.{pow_below}
use Rattle.std.proofs.ByRecursion.{All-weaker, All-map}
use Rattle.std.proofs.lemmas.List.{length-set, get_or-set_same}
use Rattle.std.proofs.lemmas.List.Sums.{sum_by-cons, sum_by-set}
use Rattle.std.proofs.lemmas.Bool.{cases_eq}
use Rattle.network.specs.declared.message.Kind.{Kind}
use Rattle.network.specs.declared.message.Kind.TheVariants as kind
use Rattle.network.specs.Messages.{Plain, replying}
use Rattle.home.specs.declared.cell.Cell.{Cell}
use Rattle.home.specs.declared.cell.Cell.TheVariants.{Undefined, Waiting, Defined}
use Rattle.home.specs.Cells as home
use Rattle.home.specs.Pending.{replying_all}
use Rattle.home.specs.Sets.{members, alone, joined, Holds, Member}
use Rattle.home.proofs.Lowest.{members_count}
use Rattle.home.proofs.Sets.{listing, gains, members_alone}
use Rattle.protocol.specs.Moments.{Moment, board_at, cell_at, waiters, with_cell, with_bag, Call, deliver, Event, delivered, refused}
use Rattle.protocol.specs.Moments as layer
use Rattle.protocol.specs.Steps.{refusal}
use Rattle.protocol.specs.Counts.{same, sum_to, from_event, is_write, writes_accepted, is_writing, is_write_to, stored, told_twice, reported}
use Rattle.protocol.proofs.Count.{same_refl, same_apart, same_or, same_one, each_set}
use Rattle.protocol.proofs.Moves.{Moved, moved_sum, moved_le, moved_length, taken_all, next_all}
use Rattle.protocol.proofs.Inv.{asks, is_member, View, CellOk, MessageOk, EventOk, view, InvAt, Up, cell_up, message_up, given_up}
use Rattle.protocol.proofs.Boards.{Mute}
use Rattle.protocol.proofs.Steps.{board_up, writes_more, reported_more}

-- what the home of the address a did with the message x, in the call e: the cell was c and is d
pub record AtHome (v : View) (h : List Event) (a : ℕ) (c : Cell) (x : Plain) (e : Event) (d : Cell) (added : List Plain) : Type 0 where
  pub mute : (n : ℕ) → Mute n h e
  pub no_write : (b : ℕ) → sum_by (is_write b) (from_event e) ≡ 0
  pub sound : EventOk h e
  pub here : is_write_to a x + stored c ≡ stored d + told_twice a e
  pub told : 1 ≤ told_twice a e → stored d ≡ 1
  pub there : (b : ℕ) → (b ≡ a → ⊥) → (is_write_to b x ≡ 0) × (told_twice b e ≡ 0) × ((n : ℕ) → asks n b x ≡ 0)
  pub unwritten : (b : ℕ) → sum_by (is_write_to b) added ≡ 0
  pub asked : (n : ℕ) → 1 ≤ asks n a x + is_member n c → 1 ≤ sum_by (asks n a) added + is_member n d
  pub cell : CellOk v a d
  pub sends : (v' : View) → Up v v' → (stored d ≡ 1 → 1 ≤ v'.written a) → AllByRecursion (MessageOk v') added
  pub room : length added + waiters d ≤ 1 + waiters c

pub inv_home : (h : List Event) (m : Moment) (bag : List Plain) (a : ℕ) (x : Plain) (e : Event) (d : Cell) (added next : List Plain) → InvAt h m bag → 0 < m.nodes → a < 1024
    → AtHome (view h m bag) h a (cell_at m a) x e d added → Moved m.limit bag (Some x) added next → InvAt (e ∷ h) (with_bag (with_cell m a d) next) next
inv_home h m bag a x e d added next inv pos low did mv =
    let v = view h m bag in
    let v' = view (e ∷ h) (with_cell m a d) next in
    let inside : a < length m.memory = omega (arith, inv.deep) in
    let sums : (f : Plain → ℕ) → sum_by f next + f x ≡ sum_by f bag + sum_by f added = λ f. omega (arith, moved_sum m.limit bag (Some x) added next mv f, sum_by-cons f x []) in
    let le : (f : Plain → ℕ) → f x ≤ sum_by f bag = λ f. omega (arith, moved_le m.limit bag (Some x) added next mv f, sum_by-cons f x []) in
    let wrote : (b : ℕ) → sum_by (is_write_to b) next + is_write_to b x ≡ sum_by (is_write_to b) bag = λ b. omega (arith, sums (is_write_to b), did.unwritten b) in
    let written : (b : ℕ) → 1 ≤ v.written b → 1 ≤ v'.written b =
    each_set (λ b y. 1 ≤ v.written b → 1 ≤ sum_by (is_write_to b) next + stored y) m.memory a d Undefined inside
    (λ k. elim (cases_eq (told_twice a e) 0) [ inl z ↦ omega (arith, wrote a, did.here) | inr z ↦ omega (arith, did.told (omega arith)) ])
    (λ b ne k. omega (arith, wrote b, (did.there b ne).0)) in
    let pending : (n b : ℕ) → 1 ≤ v.pending n b → 1 ≤ v'.pending n b =
    λ n. each_set (λ b y. 1 ≤ v.pending n b → 1 ≤ sum_by (asks n b) next + is_member n y) m.memory a d Undefined inside
    (λ k. elim (cases_eq (asks n a x + is_member n (cell_at m a)) 0) [ inl z ↦ omega (arith, sums (asks n a)) | inr z ↦ omega (arith, sums (asks n a), le (asks n a), did.asked n (omega arith)) ])
    (λ b ne k. omega (arith, sums (asks n b), (did.there b ne).2 n)) in
    let up : Up v v' = record { low = λ b k. k; near = λ n k. k; home = λ b. refl; given = given_up h e; written = written } in
    let parts = taken_all m.limit bag (Some x) added next mv (MessageOk v) inv.in_bag in
    let now : stored (cell_at (with_cell m a d) a) ≡ stored d = ap stored (get_or-set_same m.memory a d Undefined inside) in
    record {
      few = inv.few;
      low = inv.low;
      all = inv.all;
      deep = length-set m.memory a d ∙ inv.deep;
      facts = inv.facts;
      boards = λ n. board_up v v' up n h e (board_at m n) (did.mute n) (pending n) (inv.boards n);
      memory = each_set (CellOk v') m.memory a d Undefined inside (cell_up v v' up a d did.cell) (λ b ne. cell_up v v' up b (cell_at m b) (inv.memory b));
      in_bag = next_all m.limit bag (Some x) added next mv (MessageOk v') (All-weaker (MessageOk v) (MessageOk v') (message_up v v' up) mv.rest parts.1) (did.sends v' up (λ k. omega arith));
      fits = omega (arith, inv.fits, did.room, moved_length m.limit bag (Some x) added next mv, sum_by-set waiters m.memory a d Undefined inside);
      reports = λ b k. elim (cases_eq (told_twice b e) 0) [
        | inl z ↦ written b (inv.reports b (omega (arith, reported_more b e h)))
        | inr z ↦ elim (cases_eq b a) [
          | inl same ↦ (let t = did.told (subst (λ y. 1 ≤ told_twice y e) same (omega arith)) in subst (λ y. 1 ≤ v'.written y) (sym same) (omega arith))
          | inr ne ↦ absurd (z (did.there b ne).1)
        ]
      ];
      writes = each_set (λ b y. writes_accepted b (e ∷ h) ≡ sum_to m.nodes (λ n. sum_by (is_writing b) (board_at m n).commands) + sum_by (is_write_to b) next + stored y + reported b (e ∷ h)) m.memory a d Undefined inside
          (omega (arith, inv.writes a, wrote a, did.here, did.no_write a, writes_more a e h, reported_more a e h))
          (λ b ne. omega (arith, inv.writes b, wrote b, (did.there b ne).0, (did.there b ne).1, did.no_write b, writes_more b e h, reported_more b e h));
      draws = (did.sound, inv.draws);
      idle = λ z. absurd (let f : ⊥ = omega arith in f);
    }

-- the members of a set, as a list and as counts
holds_count : (k : ℕ) (xs : List ℕ) → Holds xs k → 1 ≤ sum_by (same k) xs
unfolding Holds
holds_count k [] h = absurd h
holds_count k (x ∷ xs) (inl e) = omega (arith, sum_by-cons (same k) x xs, ap (same k) e, same_refl k)
holds_count k (x ∷ xs) (inr h) = omega (arith, sum_by-cons (same k) x xs, holds_count k xs h)

count_holds : (k : ℕ) (xs : List ℕ) → 1 ≤ sum_by (same k) xs → Holds xs k
unfolding Holds
count_holds k [] h = absurd (let f : ⊥ = omega arith in f)
count_holds k (x ∷ xs) h = elim (same_or k x) [ inl e ↦ inl (sym e.0) | inr e ↦ inr (count_holds k xs (omega (arith, sum_by-cons (same k) x xs, e.1))) ]

all_holds : (P : ℕ → Type 0) (xs : List ℕ) → ((k : ℕ) → Holds xs k → P k) → AllByRecursion P xs
unfolding Holds
all_holds P [] h = tt
all_holds P (x ∷ xs) h = (h x (inl refl), all_holds P xs (λ k i. h k (inr i)))

pub member_counts : (mask n : ℕ) → Member mask n → 1 ≤ sum_by (same n) (members mask)
member_counts mask n k = holds_count n (members mask) ((listing mask).every n k)

pub counts_member : (mask n : ℕ) → 1 ≤ sum_by (same n) (members mask) → Member mask n
counts_member mask n k = (listing mask).only n (count_holds n (members mask) k)

-- the set of one node
one_count : (n k : ℕ) → n < 16 → sum_by (same k) (members (alone n)) ≡ same k n
one_count n k lt = omega (arith, ap (sum_by (same k)) (members_alone n lt))

one_in_set : (n : ℕ) → n < 16 → ones (alone n) ≡ 1
one_in_set n lt = sym (members_count (2 ^ n) (pow_below n 16 lt)) ∙ ap length (members_alone n lt)

-- one more in a set is at most one more
joined_ones : (mask n : ℕ) → n < 16 → ones (joined mask n) ≤ ones mask + 1
joined_ones mask n lt = elim (cases_eq (mask / 2 ^ n % 2) 1) [ inl e ↦ omega (arith, (gains mask n lt).again (lt, e)) | inr ne ↦ omega (arith, (gains mask n lt).anew (λ k. ne k.1)) ]

-- the replies to those who wait
replies_asks : (n a b w : ℕ) (xs : List ℕ) → sum_by (asks n a) (replying_all xs a b w) ≡ sum_by (same n) xs
replies_asks n a b w [] = refl
replies_asks n a b w (x ∷ xs) = omega (
  arith,
  sum_by-cons (same n) x xs,
  sum_by-cons (asks n a) (replying x a b w) (replying_all xs a b w),
  replies_asks n a b w xs,
  ap (λ y. same n x * y) (same_refl a),
)

replies_unwritten : (c a b w : ℕ) (xs : List ℕ) → sum_by (is_write_to c) (replying_all xs a b w) ≡ 0
replies_unwritten c a b w [] = refl
replies_unwritten c a b w (x ∷ xs) = omega (arith, sum_by-cons (is_write_to c) (replying x a b w) (replying_all xs a b w), replies_unwritten c a b w xs)

-- calls that speak of no board
pub mute_delivered : (h : List Event) (k c n : ℕ) → Mute n h (delivered k c)
mute_delivered h k c n = record { reads = λ q. refl; latest = λ f p. refl; finished = λ f. refl }

pub mute_refused : (h : List Event) (c : Call) (why : layer.Refusal) (n : ℕ) → Mute n h (refused c why)
mute_refused h c why n = record { reads = λ q. refl; latest = λ f p. refl; finished = λ f. refl }

pub one_of_two : (number : ℕ) → (number ≡ 29) ⊎ (number ≡ 30) → same number 29 + same number 30 ≡ 1
unfolding same
one_of_two number (inl e) = ap (λ x. same x 29 + same x 30) e
one_of_two number (inr e) = ap (λ x. same x 29 + same x 30) e

-- a message of a given kind
abbrev pub of : Kind → Plain → Plain
of k x = record { kind = k; to = x.to; address = x.address; from = x.from; word = x.word }

-- what a home did, by its answer
abbrev pub HomeDid : View → List Event → ℕ → Cell → Plain → Cell → Result (List Plain) home.Twice → Type 0
HomeDid v h i c x d (Ok replies) = AtHome v h x.address c x (delivered i 0) d replies
HomeDid v h i c x d (Err e) = AtHome v h x.address c x (refused (deliver i) (refusal 30 layer.home (Some e.writer) (Some e.address))) d []

apart_asks : (n k b a : ℕ) → (b ≡ a → ⊥) → same n k * same b a ≡ 0
apart_asks n k b a ne = omega (arith, ap (λ y. same n k * y) (same_apart b a ne))

module _ (v : View) (h : List Event) (x : Plain) (i : ℕ) where
  abbrev a : ℕ
  a = x.address

  -- a READ that leaves the cell as much defined as it was
  read_at : (c d : Cell) (added : List Plain) → stored c ≡ stored d → ((b : ℕ) → sum_by (is_write_to b) added ≡ 0) → ((n : ℕ) → 1 ≤ same n x.from * same a a + is_member n c → 1 ≤ sum_by (asks n a) added + is_member n d)
      → CellOk v a d → ((v' : View) → Up v v' → (stored d ≡ 1 → 1 ≤ v'.written a) → AllByRecursion (MessageOk v') added) → length added + waiters d ≤ 1 + waiters c → AtHome v h a c (of kind.Read x) (delivered i 0) d added
  read_at c d added same-stored none asked cell sends room = record {
    mute = mute_delivered h i 0;
    no_write = λ b. refl;
    sound = tt;
    here = omega arith;
    told = λ k. absurd (let f : ⊥ = omega arith in f);
    there = λ b ne. (refl, refl, λ n. apart_asks n x.from b a ne);
    unwritten = none;
    asked = asked;
    cell = cell;
    sends = sends;
    room = room;
  }

  -- a WRITE that defines the cell
  write_at : (c d : Cell) (added : List Plain) → stored c ≡ 0 → stored d ≡ 1 → ((b : ℕ) → sum_by (is_write_to b) added ≡ 0) → ((n : ℕ) → 1 ≤ is_member n c → 1 ≤ sum_by (asks n a) added)
      → CellOk v a d → ((v' : View) → Up v v' → (stored d ≡ 1 → 1 ≤ v'.written a) → AllByRecursion (MessageOk v') added) → length added + waiters d ≤ 1 + waiters c → AtHome v h a c (of kind.Write x) (delivered i 0) d added
  write_at c d added was is none asked cell sends room = record {
    mute = mute_delivered h i 0;
    no_write = λ b. refl;
    sound = tt;
    here = omega (arith, same_refl a);
    told = λ k. is;
    there = λ b ne. (same_apart b a ne, refl, λ n. refl);
    unwritten = none;
    asked = λ n k. omega (arith, asked n (omega arith));
    cell = cell;
    sends = sends;
    room = room;
  }

  pub reads_home : (c : Cell) → v.nodes ≤ 16 → MessageOk v (of kind.Read x) → CellOk v a c → HomeDid v h i c (of kind.Read x) (home.after c (of kind.Read x)) (home.answer c (of kind.Read x))
  reads_home Undefined few ok was =
      let lt : x.from < 16 = omega (arith, ok.1.1) in
      read_at Undefined (home.waiting (alone x.from)) [] refl (λ b. refl)
      (λ n k. elim (same_or n x.from) [ inl e ↦ omega (arith, one_count x.from n lt, e.1) | inr e ↦ omega (arith, ap (λ y. y * same a a) e.1) ])
      (pow_below x.from 16 lt, λ n k. let e = same_one n x.from (omega (arith, member_counts (alone x.from) n k, one_count x.from n lt)) in omega (arith, ok.1.1))
      (λ v' up k. tt) (omega (arith, one_in_set x.from lt))
  reads_home (Waiting s) few ok was =
      let lt : x.from < 16 = omega (arith, ok.1.1) in
      let g = gains s.mask x.from lt in
      read_at (Waiting s) (home.waiting (joined s.mask x.from)) [] refl (λ b. refl)
      (λ n k. elim (same_or n x.from) [
        | inl e ↦ omega (arith, subst (λ y. 1 ≤ sum_by (same y) (members (joined s.mask x.from))) (sym e.0) (member_counts (joined s.mask x.from) x.from g.there))
        | inr e ↦ omega (arith, member_counts (joined s.mask x.from) n (g.kept n (counts_member s.mask n (omega (arith, ap (λ y. y * same a a) e.1)))))
      ])
      (g.fits was.0, λ n k. elim (g.only n k) [ inl old ↦ was.1 n old | inr e ↦ omega (arith, ok.1.1) ])
      (λ v' up k. tt) (omega (arith, joined_ones s.mask x.from lt))
  reads_home (Defined w) few ok was =
      read_at (Defined w) (Defined w) (replying x.from a x.to w ∷ []) refl (λ b. refl) (λ n k. omega arith) was
      (λ v' up k. ((up.low a ok.0, (up.near x.from ok.1.1, up.given a w was, k refl)), tt)) (omega arith)

  pub writes_home : (c : Cell) → MessageOk v (of kind.Write x) → CellOk v a c → HomeDid v h i c (of kind.Write x) (home.after c (of kind.Write x)) (home.answer c (of kind.Write x))
  writes_home Undefined ok was = write_at Undefined (Defined x.word) [] refl refl (λ b. refl) (λ n k. omega arith) ok.1.1 (λ v' up k. tt) (omega arith)
  writes_home (Waiting s) ok was =
      let ns = members s.mask in
      write_at (Waiting s) (Defined x.word) (replying_all ns a x.to x.word) refl refl (λ b. replies_unwritten b a x.to x.word ns)
      (λ n k. omega (arith, replies_asks n a x.to x.word ns)) ok.1.1
      (λ v' up k. All-map (MessageOk v') (λ n. replying n a x.to x.word) ns
      (all_holds (λ n. MessageOk v' (replying n a x.to x.word)) ns (λ n j. (up.low a ok.0, (up.near n (was.1 n ((listing s.mask).only n j)), up.given a x.word ok.1.1, k refl)))))
      (omega (arith, length-map ns (λ n. replying n a x.to x.word), members_count s.mask was.0))
  writes_home (Defined w) ok was =
      let told : (b : ℕ) → (same 30 29 + same 30 30) * same b a ≡ same b a = λ b. omega (arith, ap (λ y. y * same b a) (one_of_two 30 (inr refl))) in
      record {
        mute = mute_refused h (deliver i) (refusal 30 layer.home (Some x.from) (Some a));
        no_write = λ b. refl;
        sound = tt;
        here = omega (arith, told a);
        told = λ k. refl;
        there = λ b ne. (same_apart b a ne, told b ∙ same_apart b a ne, λ n. refl);
        unwritten = λ b. refl;
        asked = λ n k. omega arith;
        cell = was;
        sends = λ v' up k. tt;
        room = omega arith;
      }
