-- What the parts of a board keep as they change: its places, its commands, its lines.
use Rattle.std.proofs.Common.{◌≡◌, ℕ, ◌+◌, ◌*◌, ◌<◌, ◌≤◌, cond, eqb, List, ◌∷◌, length, get_or, set, sum_by, sym, refl, ap, ◌∙◌, subst, inl, inr, arith}
use Rattle.std.specs.List.{AllByRecursion}
use Rattle.std.proofs.ByRecursion.{All-get_or, All-set, All-weaker}
use Rattle.std.proofs.lemmas.List.Sums.{sum_by-set}
use Rattle.std.proofs.lemmas.Bool.{eq-eqb, ne_eqb, cond-true, cond-false}
use Rattle.lines.specs.Model.{Read, Place, free, held, deferred, ready, drawn, Line, empty, waiting}
use Rattle.protocol.specs.Moments.{Deed, nothing, accepted, wrote, acted, drew, finished, returned, Event, at}
use Rattle.protocol.specs.Counts.{same, same_read, from_event, is_read, deed_of, deeds, latest, finished_by}
use Rattle.protocol.proofs.Count.{same_refl, same_apart, same_or, sum_to_like, sum_to_set, each_set}
use Rattle.protocol.proofs.Inv.{in_place, awaits, View, PlaceOk, LineOk, PlacesOk, LinesOk, Up, place_up, line_up, accepted_more}

-- a call in which the node n accepted, drew and finished nothing
pub record Mute (n : ℕ) (h : List Event) (e : Event) : Type 0 where
  pub reads : (q : Read) → sum_by (is_read n q) (from_event e) ≡ 0
  pub latest : (f : Read → ℕ → ℕ) (p : ℕ) → latest f p (deeds n (e ∷ h)) ≡ latest f p (deeds n h)
  pub finished : (f : Read → ℕ → ℕ) → finished_by f (deeds n (e ∷ h)) ≡ finished_by f (deeds n h)

pub own_deed : (n : ℕ) (d : Deed) → deed_of n (at n d) ≡ d
own_deed n d = cond-true (eqb n n) d nothing (eq-eqb n n refl)

-- the other nodes
elsewhere : (n k : ℕ) (q : Read) (d : Deed) → (k ≡ n → ⊥) → sum_by (is_read k q) (from_event (at n d)) ≡ 0
elsewhere n k q nothing ne = refl
elsewhere n k q (accepted r p) ne = omega (arith, ap (λ x. x * same_read q r) (same_apart k n ne))
elsewhere n k q (wrote a w) ne = refl
elsewhere n k q (acted i c) ne = refl
elsewhere n k q (drew p r w) ne = refl
elsewhere n k q (finished p) ne = refl
elsewhere n k q (returned p) ne = refl

mute_by : (n : ℕ) (h : List Event) (e : Event) (d : Deed) → deed_of n e ≡ d → ((q : Read) → sum_by (is_read n q) (from_event e) ≡ 0) → ((f : Read → ℕ → ℕ) (p : ℕ) (ds : List Deed) → latest f p (d ∷ ds) ≡ latest f p ds)
    → ((f : Read → ℕ → ℕ) (ds : List Deed) → finished_by f (d ∷ ds) ≡ finished_by f ds) → Mute n h e
mute_by n h e d is none drawn-none finished_none = record {
  reads = none;
  latest = λ f p. ap (λ x. latest f p (x ∷ deeds n h)) is ∙ drawn-none f p (deeds n h);
  finished = λ f. ap (λ x. finished_by f (x ∷ deeds n h)) is ∙ finished_none f (deeds n h);
}

pub mute_others : (n : ℕ) (h : List Event) (d : Deed) (k : ℕ) → (k ≡ n → ⊥) → Mute k h (at n d)
mute_others n h d k ne = mute_by k h (at n d) nothing (cond-false (eqb k n) d nothing (ne_eqb k n ne)) (λ q. elsewhere n k q d ne) (λ f p ds. refl) (λ f ds. refl)

pub mute_wrote : (n : ℕ) (h : List Event) (a w : ℕ) → Mute n h (at n (wrote a w))
mute_wrote n h a w = mute_by n h (at n (wrote a w)) (wrote a w) (own_deed n (wrote a w)) (λ q. refl) (λ f p ds. refl) (λ f ds. refl)

pub mute_acted : (n : ℕ) (h : List Event) (i c : ℕ) → Mute n h (at n (acted i c))
mute_acted n h i c = mute_by n h (at n (acted i c)) (acted i c) (own_deed n (acted i c)) (λ q. refl) (λ f p ds. refl) (λ f ds. refl)

pub mute_returned : (n : ℕ) (h : List Event) (p : ℕ) → Mute n h (at n (returned p))
mute_returned n h p = mute_by n h (at n (returned p)) (returned p) (own_deed n (returned p)) (λ q. refl) (λ f j ds. refl) (λ f ds. refl)

-- what the word w for the address a may do to a place
pub data Woke (a w : ℕ) : Place → Place → Type 0 where
  kept : (x : Place) → Woke a w x x
  woken : (r : Read) → r.address ≡ a → Woke a w (deferred r) (ready r w)

woke_in : {a w : ℕ} {x y : Place} (q : Read) → Woke a w x y → in_place q y ≡ in_place q x
woke_in q (kept x) = refl
woke_in q (woken r e) = refl

-- the places of node n through the call e
module _ (v v' : View) (up : Up v v') (n : ℕ) (h : List Event) (e : Event) (ps : List Place) (inv : PlacesOk v n h ps) where
  pub places_kept : Mute n h e → PlacesOk v' n (e ∷ h) ps
  places_kept mute = record {
    balance = λ q. omega (arith, inv.balance q, accepted_more (is_read n q) e h, mute.reads q, mute.finished (λ r _. same_read q r));
    each = λ p. place_up v v' up (deeds n h) (deeds n (e ∷ h)) p (λ f. mute.latest f p) (get_or ps p free) (inv.each p);
  }

  each_but : (p : ℕ) (x : Place) → p < length ps → ((j : ℕ) → (j ≡ p → ⊥) → (f : Read → ℕ → ℕ) → latest f j (deeds n (e ∷ h)) ≡ latest f j (deeds n h)) → PlaceOk v' (deeds n (e ∷ h)) p x
      → (j : ℕ) → PlaceOk v' (deeds n (e ∷ h)) j (get_or (set ps p x) j free)
  each_but p x lt others here = each_set (PlaceOk v' (deeds n (e ∷ h))) ps p x free lt here (λ j ne. place_up v v' up (deeds n h) (deeds n (e ∷ h)) j (others j ne) (get_or ps j free) (inv.each j))

  -- the place p is in another state with the same read
  pub places_moved : Mute n h e → (p : ℕ) (x y : Place) → p < 32 → p < length ps → get_or ps p free ≡ x → ((q : Read) → in_place q y ≡ in_place q x) → PlaceOk v' (deeds n (e ∷ h)) p y → PlacesOk v' n (e ∷ h) (set ps p y)
  places_moved mute p x y few lt was same here = record {
    balance = λ q. omega (arith, inv.balance q, accepted_more (is_read n q) e h, mute.reads q, mute.finished (λ r _. same_read q r), sum_to_set (in_place q) ps p y free 32 few lt, ap (in_place q) was, same q);
    each = each_but p y lt (λ j ne f. mute.latest f j) here;
  }

  pub places_woken : Mute n h e → (a w : ℕ) (qs : List Place) → 1 ≤ v'.given a w → ((p : ℕ) → Woke a w (get_or ps p free) (get_or qs p free)) → PlacesOk v' n (e ∷ h) qs
  places_woken mute a w qs g woke = record {
    balance = λ q. omega (arith, inv.balance q, accepted_more (is_read n q) e h, mute.reads q, mute.finished (λ r _. same_read q r), sum_to_like 32 (λ p. in_place q (get_or qs p free)) (λ p. in_place q (get_or ps p free)) (λ p l. woke_in q (woke p)));
    each = λ p. go p (woke p) (inv.each p);
  }
    where
      go : (p : ℕ) {x y : Place} → Woke a w x y → PlaceOk v (deeds n h) p x → PlaceOk v' (deeds n (e ∷ h)) p y
      go p (kept x) k = place_up v v' up (deeds n h) (deeds n (e ∷ h)) p (λ f. mute.latest f p) x k
      go p (woken r is) k = (up.low r.address k, subst (λ b. 1 ≤ v'.given b w) (sym is) g)

-- and through the calls in which it does accept, draw or finish
module _ (v v' : View) (up : Up v v') (n : ℕ) (h : List Event) (ps : List Place) (inv : PlacesOk v n h ps) (p : ℕ) (few : p < 32) (lt : p < length ps) where
  pub places_accepted : (q : Read) → get_or ps p free ≡ free → q.address < v'.space → PlacesOk v' n (at n (accepted q p) ∷ h) (set ps p (held q))
  places_accepted q was low =
      let e = at n (accepted q p) in
      record {
        balance = λ r. omega (
          arith,
          inv.balance r,
          accepted_more (is_read n r) e h,
          ap (λ x. x * same_read r q) (same_refl n),
          ap (λ x. finished_by (λ s _. same_read r s) (x ∷ deeds n h)) (own_deed n (accepted q p)),
          sum_to_set (in_place r) ps p (held q) free 32 few lt,
          ap (in_place r) was,
        );
        each = each_but v v' up n h e ps inv p (held q) lt (λ j ne f. ap (λ x. latest f j (x ∷ deeds n h)) (own_deed n (accepted q p))) low;
      }

  pub places_drawn : (q : Read) (w : ℕ) → get_or ps p free ≡ ready q w → PlacesOk v' n (at n (drew p q w) ∷ h) (set ps p (drawn q w))
  places_drawn q w was =
      let e = at n (drew p q w) in
      let ok : PlaceOk v (deeds n h) p (ready q w) = subst (PlaceOk v (deeds n h) p) was (inv.each p) in
      let own : (f : Read → ℕ → ℕ) (j : ℕ) → latest f j (deeds n (e ∷ h)) ≡ cond (eqb j p) (f q w) (latest f j (deeds n h)) = λ f j. ap (λ x. latest f j (x ∷ deeds n h)) (own_deed n (drew p q w)) in
      record {
        balance = λ r. omega (
          arith,
          inv.balance r,
          accepted_more (is_read n r) e h,
          ap (λ x. finished_by (λ s _. same_read r s) (x ∷ deeds n h)) (own_deed n (drew p q w)),
          sum_to_set (in_place r) ps p (drawn q w) free 32 few lt,
          ap (in_place r) was,
        );
        each = each_but v v' up n h e ps inv p (drawn q w) lt
            (λ j ne f. own f j ∙ cond-false (eqb j p) (f q w) (latest f j (deeds n h)) (ne_eqb j p ne))
            (up.low q.address ok.0, up.given q.address w ok.1, λ f. own f p ∙ cond-true (eqb p p) (f q w) (latest f p (deeds n h)) (eq-eqb p p refl));
      }

  pub places_finished : (q : Read) (w : ℕ) → get_or ps p free ≡ drawn q w → PlacesOk v' n (at n (finished p) ∷ h) (set ps p free)
  places_finished q w was =
      let e = at n (finished p) in
      let ok : PlaceOk v (deeds n h) p (drawn q w) = subst (PlaceOk v (deeds n h) p) was (inv.each p) in
      record {
        balance = λ r. omega (
          arith,
          inv.balance r,
          accepted_more (is_read n r) e h,
          ap (λ x. finished_by (λ s _. same_read r s) (x ∷ deeds n h)) (own_deed n (finished p)),
          ok.2 (λ s _. same_read r s),
          sum_to_set (in_place r) ps p free free 32 few lt,
          ap (in_place r) was,
        );
        each = each_but v v' up n h e ps inv p free lt (λ j ne f. ap (λ x. latest f j (x ∷ deeds n h)) (own_deed n (finished p))) tt;
      }

-- the lines of node n
module _ (v v' : View) (up : Up v v') (n : ℕ) (ls : List Line) (inv : LinesOk v n ls) where
  pub each_line_kept : AllByRecursion (LineOk v') ls
  each_line_kept = All-weaker (LineOk v) (LineOk v') (line_up v v' up) ls inv.each

  pub line_ok : (i : ℕ) (x : Line) → i < length ls → get_or ls i empty ≡ x → LineOk v' x
  line_ok i x lt is = subst (LineOk v') is (All-get_or (LineOk v') ls i empty lt each_line_kept)

  pub lines_kept : ((a : ℕ) → 1 ≤ sum_by (awaits a) ls → 1 ≤ v.pending n a → 1 ≤ v'.pending n a) → LinesOk v' n ls
  lines_kept more = record { each = each_line_kept; asked = λ a k. more a k (inv.asked a k) }

  module _ (i : ℕ) (lt : i < length ls) where
    -- a line is set anew: it waits for nothing new
    pub lines_set : (y : Line) → LineOk v' y → ((a : ℕ) → awaits a y ≤ awaits a (get_or ls i empty)) → ((a : ℕ) → 1 ≤ sum_by (awaits a) (set ls i y) → 1 ≤ v.pending n a → 1 ≤ v'.pending n a) → LinesOk v' n (set ls i y)
    lines_set y ok less more = record {
      each = All-set (LineOk v') ls i y ok each_line_kept;
      asked = λ a k. more a k (inv.asked a (omega (arith, sum_by-set (awaits a) ls i y empty lt, less a)));
    }

    -- a line waits for b, which is now asked for
    pub lines_asking : (b : ℕ) (ws : List ℕ) → ((a : ℕ) → v'.pending n a ≡ v.pending n a + same n n * same a b) → LinesOk v' n (set ls i (waiting b ws))
    lines_asking b ws more = record {
      each = All-set (LineOk v') ls i (waiting b ws) tt each_line_kept;
      asked = λ a k. elim (same_or a b) [
        | inl e ↦ omega (arith, more a, ap (λ x. x * same a b) (same_refl n), e.1)
        | inr e ↦ omega (arith, more a, inv.asked a (omega (arith, e.1, sum_by-set (awaits a) ls i (waiting b ws) empty lt)))
      ];
    }
