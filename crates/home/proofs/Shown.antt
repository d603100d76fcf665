-- A list is written item by item.
use Rattle.std.proofs.Common.{◌≡◌, ℕ, List, [], ◌∷◌, ◌++◌, map, codes, decimal, sym, ap}
use Rattle.std.specs.declared.fmt.Formatter.{Formatter}
use Rattle.std.specs.List.{concat}
use Rattle.std.specs.Fmt.{IsPlainFormatter, HasWritten}
use Rattle.std.proofs.Output.{writes_in_calls_nil, has_written_append, has_written_of_eq}
use Rattle.home.specs.Shown.{with_commas}

-- numbers, each after a comma and a space
abbrev pub each : List ℕ → List ℕ
each ns = concat (map (λ k. codes ", " ++ decimal k) ns)

module _ {W : Type 0} (took : W → List ℕ → W → Type 0) where
  put_none : (f : Formatter W) → IsPlainFormatter f → HasWritten took f [] f
  put_none f p = record { wrote = writes_in_calls_nil took _; plain = p }

  pub none_left : (f : Formatter W) (all : List ℕ) → all ≡ [] → IsPlainFormatter f → HasWritten took f (each all) f
  none_left f all e p = has_written_of_eq took f _ _ f (ap each (sym e)) (put_none f p)

  pub from_first : (f g h : Formatter W) (n : ℕ) (ns all : List ℕ) → all ≡ n ∷ ns → HasWritten took f (decimal n) g → HasWritten took g (each ns) h → HasWritten took f (with_commas all) h
  from_first f g h n ns all e p q = has_written_of_eq took f _ _ h (ap with_commas (sym e)) (has_written_append took f _ g _ h p q)
