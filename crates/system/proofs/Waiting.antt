-- How many nodes wait at cells.
use Rattle.std.proofs.Common.{ℕ, zero, suc, ◌*◌, ◌≤◌, List, [], ◌∷◌, length, get_or, replicate, sum_by, arith}
use Rattle.std.proofs.lemmas.List.Sums.{sum_by-cons}
use Rattle.home.specs.declared.cell.Cell.{Cell}
use Rattle.home.specs.declared.cell.Cell.TheVariants.{Undefined}
use Rattle.protocol.specs.Moments.{waiters}

-- no cell has more than the sixteen nodes
abbrev Few : List Cell → Type 0
Few cells = (a : ℕ) → waiters (get_or cells a Undefined) ≤ 16

pub few_undefined : (k : ℕ) → Few (replicate k Undefined)
few_undefined zero a = omega arith
few_undefined (suc k) zero = omega arith
few_undefined (suc k) (suc a) = few_undefined k a

pub few_in_all : (cells : List Cell) → Few cells → sum_by waiters cells ≤ 16 * length cells
few_in_all [] f = omega arith
few_in_all (x ∷ cells) f =
    let first : waiters x ≤ 16 = f zero in
    let others = few_in_all cells (λ a. f (suc a)) in
    omega (arith, first, others, sum_by-cons waiters x cells)
