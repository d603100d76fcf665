-- The first moment, and the start.
use Rattle.std.proofs.Common.{◌≡◌, ℕ, zero, suc, ◌≤◌, Bool, true, false, cond, ◌||◌, ltb, leb, List, [], ◌∷◌, map, length, replicate, Some, None, Option, sym, refl, ap, ◌∙◌, subst, arith}
use Rattle.std.specs.Option.{option_map}
use Rattle.std.proofs.lemmas.List.{length-map}
use Rattle.std.proofs.lemmas.Bool.{cond-true, cond-false, le-leb}
use Rattle.std.proofs.lemmas.Bool.Decides.{nat_tests}
use Rattle.network.specs.declared.network.Network.{Ghosts}
use Rattle.network.specs.Messages.{Plain, plain}
use Rattle.home.specs.declared.cell.Cell.{Cell}
use Rattle.home.specs.declared.cell.Cell.TheVariants.{Undefined}
use Rattle.lines.specs.declared.board.Board.{Board}
use Rattle.lines.specs.Boards.{tables}
use Rattle.lines.specs.Model.{Tables}
use Rattle.lines.specs.Model as board
use Rattle.protocol.specs.Moments.{Moment, is_started, start, started, refused}
use Rattle.protocol.specs.Moments as layer
use Rattle.protocol.specs.Steps.{Reached, new, outside, refusal, takes}
use Rattle.system.specs.Through.{Done}
use Rattle.system.proofs.Steps.{at_work, not_at_work, quiet}

pub map-replicate : {X Y : Type 0} (f : X → Y) (k : ℕ) (x : X) (y : Y) → f x ≡ y → map f (replicate k x) ≡ replicate k y
map-replicate f zero x y e = refl
map-replicate f (suc k) x y e = λ i. e i ∷ map-replicate f k x y e i

-- what a board of so many lines is, where it may have them
abbrev offered : ℕ → Option Tables
offered l = cond (leb 1 l) (cond (leb l 16) (Some (board.start l)) None) None

made : (l : ℕ) → 1 ≤ l → l ≤ 16 → offered l ≡ Some (board.start l)
made l some few = cond-true (leb 1 l) _ _ (le-leb 1 l some) ∙ cond-true (leb l 16) _ _ (le-leb l 16 few)

pub made_so : (l : ℕ) (o : Option Board) (b : Board) → 1 ≤ l → l ≤ 16 → option_map tables o ≡ offered l → o ≡ Some b → tables b ≡ board.start l
made_so l o b some few e is = let both : Some (tables b) ≡ Some (board.start l) = sym (ap (option_map tables) is) ∙ e ∙ made l some few in cc both

pub first : (limit : ℕ) (bag : List Plain) (bs : List Tables) (cs : List Cell) → bs ≡ replicate 16 (board.start 1) → cs ≡ replicate 1024 Undefined
    → Reached [] (record { nodes = 0; cells = 0; boards = bs; memory = cs; end = 0; limit = limit; bag = bag })
first limit bag bs cs e f =
    let P : Moment → Type 0 = Reached [] in
    subst P (λ i. record { nodes = 0; cells = 0; boards = sym e i; memory = sym f i; end = 0; limit = limit; bag = bag }) (new limit bag)

abbrev bad_sizes : ℕ → ℕ → ℕ → Bool
bad_sizes n l c = outside 16 n || (outside 16 l || outside 64 c)

pub sizes : (n l c : ℕ) → bad_sizes n l c ≡ false → ((1 ≤ n) × (n ≤ 16)) × (((1 ≤ l) × (l ≤ 16)) × ((1 ≤ c) × (c ≤ 64)))
sizes n l c good = ((grind (arith, nat_tests), grind (arith, nat_tests)), ((grind (arith, nat_tests), grind (arith, nat_tests)), (grind (arith, nat_tests), grind (arith, nat_tests))))

module _ {N : Type 0} (net : Ghosts N) (at : N) (m : Moment) (bag : m.bag ≡ map plain (net.bag at)) (n l c : ℕ) where
  abbrev unfit : Bool
  unfit = ltb 0 (length (net.bag at)) || ltb m.limit 2

  same : (ltb 0 (length m.bag) || ltb m.limit 2) ≡ unfit
  same = ap (λ k. ltb 0 k || ltb m.limit 2) (ap length bag ∙ length-map (net.bag at) plain)

  pub refused_21 : 1 ≤ m.nodes → Done net at m (start n l c) (refused (start n l c) (refusal 21 layer.system None None)) at m
  refused_21 works = quiet net (start n l c) (refl, refl) (refl, sym bag) (cond-true (is_started m) _ _ (at_work m works)) bag

  pub refused_1 : m.nodes ≡ 0 → bad_sizes n l c ≡ true → Done net at m (start n l c) (refused (start n l c) (refusal 1 layer.system None None)) at m
  refused_1 z b = quiet net (start n l c) (refl, refl) (refl, sym bag) (cond-false (is_started m) _ _ (not_at_work m z) ∙ cond-true (bad_sizes n l c) _ _ b) bag

  pub refused_22 : m.nodes ≡ 0 → bad_sizes n l c ≡ false → unfit ≡ true → Done net at m (start n l c) (refused (start n l c) (refusal 22 layer.system None None)) at m
  refused_22 z b h = quiet net (start n l c) (refl, refl) (refl, sym bag)
      (cond-false (is_started m) _ _ (not_at_work m z) ∙ cond-false (bad_sizes n l c) _ _ b ∙ cond-true (ltb 0 (length m.bag) || ltb m.limit 2) _ _ (same ∙ h)) bag

  pub begun : (bs : List Tables) (cs : List Cell) → m.nodes ≡ 0 → bad_sizes n l c ≡ false → unfit ≡ false → bs ≡ replicate 16 (board.start l) → cs ≡ replicate 1024 Undefined
      → Done net at m (start n l c) (started n l c) at (record { nodes = n; cells = c; boards = bs; memory = cs; end = 0; limit = m.limit; bag = m.bag })
  begun bs cs z b h e f = quiet net (start n l c) (refl, refl) (refl, sym bag)
      (cond-false (is_started m) _ _ (not_at_work m z) ∙ cond-false (bad_sizes n l c) _ _ b ∙ cond-false (ltb 0 (length m.bag) || ltb m.limit 2) _ _ (same ∙ h)
      ∙ (λ i. takes (started n l c) (record { nodes = n; cells = c; boards = sym e i; memory = sym f i; end = 0; limit = m.limit; bag = m.bag }))) bag
