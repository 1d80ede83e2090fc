-- A coordinate that a call answered, in a definition that goes on after it; a list of coordinates that are copied. Assumes nothing.
use Prim.Native.Nat.{ℕ, zero, suc, ◌≤◌, ◌<◌}
use mathlib.Core.Path.{◌≡◌, refl, ap, sym, ◌∙◌}
use mathlib.Core.List.{List, ◌++◌}
use native.Mathlib.Omega.{arith}
use borrow.Author.Tests.{le-leb, lt-leb}
use lib.IntN.{ℤ, pos}
use lib.ListN.{length, get_or, replicate, take, drop}
use Rattle.std.specs.Prelude.{Result, Ok, Err}
use Rattle.std.proofs.lemmas.List.{append_assoc, length-take-le, length-replicate}
use Rattle.std.proofs.Math.Seq.{take-suc, drop-cons, set-append_seam}
use Rattle.numbers.specs.declared.F2Dot14.{F2Dot14}
use Rattle.readers.specs.Outcome.{Outcome, value, refused, onward, value_or}
use Rattle.readers.specs.Lent.{fill}
use Rattle.readers.specs.Answers.{refusal, outcome_f2_dot14}
use Rattle.readers.specs.declared.Refusal.{Refusal}
use Rattle.readers.proofs.Outcome.{onward_by, halt_by, unless_true, unless_false}
use Rattle.readers.proofs.Lent.{fill_at, fill_length}
use Rattle.opentype.specs.Fvar.{Header, instance_values}
use Rattle.opentype.specs.Variation.{passed, counted, value_coord, instance_count}

module _ {C : Type 0} (d : Outcome ℤ) (f : ℤ → Outcome C) where
  pub onward_coord : (w : Outcome C) {r : Result F2Dot14 Refusal} {x : F2Dot14} → outcome_f2_dot14 r ≡ d → r ≡ Ok x → w ≡ f x.0 → w ≡ onward d f
  onward_coord w p q e = onward_by outcome_f2_dot14 d f w p q refl e

  pub halt_coord : {r : Result F2Dot14 Refusal} {n : Refusal} → outcome_f2_dot14 r ≡ d → r ≡ Err n → refusal n ≡ onward d f
  halt_coord p q = halt_by outcome_f2_dot14 d f p q refl

-- The value of such a coordinate.
pub coord_is : {d : Outcome ℤ} {r : Result F2Dot14 Refusal} {x : F2Dot14} → outcome_f2_dot14 r ≡ d → r ≡ Ok x → x.0 ≡ value_or (pos 0) d
coord_is p q = rw (← p, q)

-- A lent list that is too short, and one that is not.
module _ (coord : ℕ → Outcome ℤ) (n room : ℕ) where
  pub counted_short : room < n → refused 7 ≡ counted coord n room
  unfolding counted
  counted_short h = unless_false _ _ _ (lt-leb n room h)

  pub counted_all : (w : Outcome ℕ) → n ≤ room → w ≡ passed coord n → w ≡ counted coord n room
  unfolding counted
  counted_all w h e = unless_true _ _ _ w (le-leb n room h) e

-- The first n elements of one list, copied over those of another, are what they are by f.
copied_as : (f : ℕ → ℤ) (n : ℕ) (coords out : List ℤ) → n ≤ length coords → n ≤ length out → ((k : ℕ) → k < n → get_or coords k (pos 0) ≡ f k) → take n coords ++ drop n out ≡ fill f n out
unfolding fill
copied_as f zero coords out a b h = refl
copied_as f (suc n) coords out a b h =
    let ih = copied_as f n coords out (omega arith) (omega arith) (λ k l. h k (omega arith)) in
    let q : length (take n coords) ≡ n = length-take-le n coords (omega arith) in
    let seam = rw q at (set-append_seam (take n coords) (get_or out n (pos 0)) (drop (suc n) out) (f n)) in
    rw (take-suc coords n (pos 0) (omega arith), append_assoc, h n (omega arith), ← ih, drop-cons out n (pos 0) (omega arith)) (sym seam)

-- So are the first n of a list in which i coordinates waited.
pub copied : (f : ℕ → ℤ) (n i : ℕ) (coords out : List ℤ) → n ≤ 32 → n ≤ i → n ≤ length out → coords ≡ fill f i (replicate 32 (pos 0)) → take n coords ++ drop n out ≡ fill f n out
copied f n i coords out a b c e =
    let l : length coords ≡ 32 = ap length e ∙ fill_length f i (replicate 32 (pos 0)) ∙ length-replicate 32 (pos 0) in
    copied_as f n coords out (omega arith) c (λ k h. ap (λ (cs : List ℤ). get_or cs k (pos 0)) e ∙ fill_at f i (replicate 32 (pos 0)) k (pos 0) (omega arith) (omega (arith, length-replicate 32 (pos 0))))

-- The count of an instance's coordinates, from the outcome of its values.
module _ (table : List ℕ) (header : Header) (font : List ℕ) (avar j room : ℕ) where
  pub instance_refused : {n : ℕ} → refused n ≡ instance_values table header j → refused n ≡ instance_count table header font avar j room
  unfolding instance_count
  instance_refused p = rw (← p)

  pub instance_counted : {part : List ℕ} → value part ≡ instance_values table header j → counted (value_coord table header font avar part) header.axis_count room ≡ instance_count table header font avar j room
  unfolding instance_count
  instance_counted p = rw (← p)
