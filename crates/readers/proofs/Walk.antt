-- Laws of a loop. Assumes nothing.
use Prim.Native.Nat.{ℕ, suc, ◌+◌, ◌-◌, ◌≤◌, ◌<◌}
use mathlib.Core.Path.{◌≡◌, ap, sym, ◌∙◌}
use mathlib.Core.List.{List}
use native.Mathlib.Omega.{arith}
use Rattle.readers.specs.Outcome.{Outcome}
use Rattle.readers.specs.Reading.{Reading, run}
use Rattle.readers.specs.Walk.{Turn, turns, walk}

module _ {A B : Type 0} (turn : Turn A B) (end : A → B) (n i : ℕ) (a : A) where
  pub walk_end : n ≤ i → walk turn end n i a ≡ end a
  unfolding walk turns
  walk_end h = let e : n - i ≡ 0 = omega arith in rw e

  pub walk_more : i < n → walk turn end n i a ≡ turn i a (walk turn end n (i + 1))
  unfolding walk turns
  walk_more h = let e : n - i ≡ suc (n - (i + 1)) = omega arith in rw e

-- What a loop's invariant says of the whole definition d, one turn on and at the end. Either fits every goal: name it, and list it in no ruleset.
module _ {A B : Type 0} (turn : Turn A B) (end : A → B) (n i : ℕ) (a : A) (w d : B) where
  pub turned : walk turn end n i a ≡ d → i < n → w ≡ turn i a (walk turn end n (i + 1)) → w ≡ d
  turned p h e = e ∙ sym (walk_more turn end n i a h) ∙ p

  pub ended : walk turn end n i a ≡ d → n ≤ i → w ≡ end a → w ≡ d
  ended p h e = e ∙ sym (walk_end turn end n i a h) ∙ p

-- The same of a loop that reads.
module _ {A C : Type 0} (font : List ℕ) (turn : Turn A (Reading C)) (end : A → Reading C) (n i : ℕ) (a : A) (w d : Outcome C) where
  pub run_turned : run font (walk turn end n i a) ≡ d → i < n → w ≡ run font (turn i a (walk turn end n (i + 1))) → w ≡ d
  run_turned p h e = e ∙ ap (run font) (sym (walk_more turn end n i a h)) ∙ p

  pub run_ended : run font (walk turn end n i a) ≡ d → n ≤ i → w ≡ run font (end a) → w ≡ d
  run_ended p h e = e ∙ ap (run font) (sym (walk_end turn end n i a h)) ∙ p
