-- A measure's delta in two steps: where it is, and the delta there. Assumes nothing.
use Prim.Native.Nat.{ℕ}
use mathlib.Core.Path.{◌≡◌, refl, ap, sym, ◌∙◌}
use mathlib.Core.List.{List}
use lib.IntN.{ℤ}
use Rattle.readers.specs.Outcome.{Outcome, value, refused, onward}
use Rattle.readers.specs.Reading.{Reading, answer, ◌>>=◌, run}
use Rattle.std.specs.Prelude.{Result, IsErr, IsErrAnd}
use Rattle.numbers.specs.declared.Fixed.{Fixed}
use Rattle.readers.specs.Answers.{refusal, outcome_fixed}
use Rattle.readers.specs.declared.Refusal.{Refusal}
use Rattle.readers.proofs.Reading.{run_bind, run_nested, handed_on}
use Rattle.opentype.specs.Item.{delta_in, item_delta}
use Rattle.opentype.specs.Metric.{Measure, store_of, delta_set_index_at, metric_delta}
use Rattle.store.specs.MetricAnswers.{Place, place_of, delta_from}

-- Whatever is read there.
module _ {A : Type 0} (font : List ℕ) (base : ℕ) (measure : Measure) (glyph : ℕ) (there : ℕ → ℕ → ℕ → Reading A) where
  -- With the store known: the index, as a place; then what is read.
  place_in : ℕ → Reading Place
  place_in store = delta_set_index_at base measure glyph >>= λ index. answer (record { store = store; outer = index.outer; inner = index.inner })

  read_in : ℕ → Reading A
  read_in store = delta_set_index_at base measure glyph >>= λ index. there store index.outer index.inner

  pub placed_then : onward (run font (place_of base measure glyph)) (λ p. run font (there p.store p.outer p.inner))
      ≡ run font (store_of base >>= λ store. delta_set_index_at base measure glyph >>= λ index. there store index.outer index.inner)
  unfolding place_of place_in read_in
  placed_then = rw (run_bind font (store_of base) place_in, run_bind font (store_of base) read_in) (go (run font (store_of base)))
    where
      at : Place → Reading A
      at p = there p.store p.outer p.inner

      go : (o : Outcome ℕ) → onward (onward o (λ s. run font (place_in s))) (λ p. run font (at p)) ≡ onward o (λ s. run font (read_in s))
      go (value s) = sym (run_bind font (place_in s) at) ∙ run_nested font (delta_set_index_at base measure glyph) (λ index. answer (record { store = s; outer = index.outer; inner = index.inner })) at
      go (refused n) = refl

pub placed : (font : List ℕ) (base : ℕ) (measure : Measure) (glyph : ℕ) (coords : List ℤ)
    → delta_from font coords (run font (place_of base measure glyph)) ≡ metric_delta font base measure glyph coords
unfolding metric_delta item_delta
placed font base measure glyph coords = placed_then font base measure glyph (delta_in coords)

-- The same of the code: where the place was found, the delta there; where it was not, that refusal.
module _ (font : List ℕ) (base : ℕ) (measure : Measure) (glyph : ℕ) (coords : List ℤ) where
  pub placed_delta : (p : Place) (w : Outcome ℤ) → value p ≡ run font (place_of base measure glyph) → w ≡ item_delta font p.store p.outer p.inner coords → w ≡ metric_delta font base measure glyph coords
  placed_delta p w found e = e ∙ ap (delta_from font coords) found ∙ placed font base measure glyph coords

  pub place_refused : (r : Result Fixed Refusal) (n : Refusal) → IsErr r × IsErrAnd r (λ e. e ≡ n) → refusal n ≡ run font (place_of base measure glyph) → outcome_fixed r ≡ metric_delta font base measure glyph coords
  place_refused r n h found = handed_on (λ x. x.0) r n h ∙ ap (delta_from font coords) found ∙ placed font base measure glyph coords
