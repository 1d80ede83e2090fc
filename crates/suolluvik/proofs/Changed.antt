-- Laws of a list of measures that a rule changes. Assumes nothing.
use Prim.Native.Nat.{ℕ, ◌≤◌, ◌<◌}
use mathlib.Core.Path.{◌≡◌, refl, ap, ◌∙◌}
use mathlib.Core.Bool.{Bool}
use mathlib.Core.List.{List}
use native.Mathlib.Omega.{arith}
use borrow.Author.Tests.{eq-eqb, ne_eqb}
use lib.Ieee.{Float, nan}
use lib.ListN.{length, get_or}
use Rattle.readers.specs.Outcome.{number}
use Rattle.readers.proofs.Lent.{fill_length}
use Rattle.metrics.specs.Measures.{Metrics}
use Rattle.suolluvik.specs.Measures.{record_in, measures, size_in, put, changed}

-- While the measures are written, the list still has a place for each.
pub has_place : (m : Metrics) (l : List Float) (k : ℕ) → k < 13 → 13 ≤ length l → k < length (put m k l)
has_place m l k h room = omega (arith, fill_length (λ (i : ℕ). get_or (measures m) i nan) k l)

module _ (rule : Metrics → Metrics) (units_per_em : ℕ) (has_vertical_metrics : Bool) (l : List Float) where
  -- What is of another size than the record stays.
  pub other_size : (n : ℕ) → n ≡ 7 → (length l ≡ 13 → ⊥) → (n ≡ number (size_in l)) × (l ≡ changed rule units_per_em has_vertical_metrics l)
  unfolding changed
  other_size n p h = rw (ne_eqb (length l) 13 h) (p, refl)

  -- A record holds what the rule makes of it.
  pub all_changed : (given m : Metrics) (out : List Float) → length l ≡ 13 → given ≡ record_in units_per_em has_vertical_metrics l → m ≡ rule given → out ≡ put m 13 l → (0 ≡ number (size_in l)) × (out ≡ changed rule units_per_em has_vertical_metrics l)
  unfolding changed
  all_changed given m out h p q r = rw (eq-eqb (length l) 13 h) (refl, r ∙ ap (λ (n : Metrics). put n 13 l) (q ∙ ap rule p))
