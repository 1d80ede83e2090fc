-- Laws of outcomes. Assumes nothing.
-- A law that ends `_by` is over the map o of a call's answer to its outcome: from what the call ensures and the case that the answer was.
use Prim.Native.Nat.{ℕ}
use mathlib.Core.Path.{◌≡◌, refl}
use mathlib.Core.Bool.{Bool, true, false}
use Rattle.readers.specs.Outcome.{Outcome, value, refused, onward, unless}

module _ {R A : Type 0} (o : R → Outcome A) where
  -- A definition that goes on after a call that gave a value; after one that refused.
  pub onward_by : {C : Type 0} (d : Outcome A) (f : A → Outcome C) (w : Outcome C) {r v : R} {x : A} → o r ≡ d → r ≡ v → o v ≡ value x → w ≡ f x → w ≡ onward d f
  onward_by d f w p q e g = rw (← p, q, e) g

  pub halt_by : {C : Type 0} (d : Outcome A) (f : A → Outcome C) {r v : R} {n : ℕ} → o r ≡ d → r ≡ v → o v ≡ refused n → refused n ≡ onward d f
  halt_by d f p q e = rw (← p, q, e)

-- A test that holds, and one that fails.
module _ {A : Type 0} (t : Bool) (n : ℕ) (o : Outcome A) where
  pub unless_true : (w : Outcome A) → t ≡ true → w ≡ o → w ≡ unless t n o
  unless_true w p e = rw p e

  pub unless_false : t ≡ false → refused n ≡ unless t n o
  unless_false p = rw p

pub unless_onward : {A B : Type 0} (t : Bool) (n : ℕ) (o : Outcome A) (k : A → Outcome B) → unless t n (onward o k) ≡ onward (unless t n o) k
unless_onward true n o k = refl
unless_onward false n o k = refl
