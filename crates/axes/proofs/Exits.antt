-- What a function answers where it leaves by `?`, by `unwrap_or` and by a part of what it read. Assumes nothing.
use Prim.Native.Nat.{ℕ, ◌+◌}
use mathlib.Core.Path.{◌≡◌, refl, ap, ◌∙◌}
use mathlib.Core.Bool.{Bool, true, false}
use mathlib.Core.List.{List}
use lib.Dec.{leb}
use lib.ListN.{length}
use Rattle.std.specs.Prelude.{Result, Ok, Err, Some, None}
use Rattle.std.specs.Result.{IsErrAnd, result_ok, result_unwrap_or}
use Rattle.readers.specs.Outcome.{Outcome, value, onward, unless, value_or}
use Rattle.readers.specs.Reading.{read_at, big_endian, run}
use Rattle.readers.specs.Answers.{outcome_as, outcome}
use Rattle.readers.specs.declared.Refusal.{Refusal}

-- The callee's refusal.
pub exited : {T : Type 0} (r : Result T Refusal) {n : Refusal} → IsErrAnd r (λ m. m ≡ n) → r ≡ Err n
exited (Ok x) h = absurd h
exited (Err m) e = ap Err e

-- What `ok` says of a result.
pub some_ok : {T : Type 0} (r : Result T Refusal) {x : T} → result_ok r ≡ Some x → r ≡ Ok x
some_ok (Ok y) e = let f : y ≡ _ = cc in ap Ok f
some_ok (Err n) e = cc

pub none_err : {T : Type 0} (r : Result T Refusal) → result_ok r ≡ None → (n : Refusal) × (r ≡ Err n)
none_err (Ok y) e = cc
none_err (Err n) e = (n, refl)

module _ {R A : Type 0} (seen : R → A) where
  pub or_value : (r : Result R Refusal) (z : R) → seen (result_unwrap_or r z) ≡ value_or (seen z) (outcome_as seen r)
  or_value (Ok x) z = refl
  or_value (Err n) z = refl

  seen_later : (r : Result R Refusal) → outcome_as seen r ≡ onward (outcome r) (λ x. value (seen x))
  seen_later (Ok x) = refl
  seen_later (Err n) = refl

  -- A read of a number, as what its bytes stand for.
  pub seen_read : (n : ℕ) (number : ℕ → R) (font : List ℕ) (p : ℕ) (r : Result R Refusal) → outcome r ≡ run font (read_at n number p) → outcome_as seen r ≡ run font (read_at n (λ x. seen (number x)) p)
  unfolding run
  seen_read n number font p r e = seen_later r ∙ ap (λ (o : Outcome R). onward o (λ x. value (seen x))) e ∙ go (leb (p + n) (length font)) (number (big_endian n font p))
    where
      go : (t : Bool) (x : R) → onward (unless t 2 (value x)) (λ x. value (seen x)) ≡ unless t 2 (value (seen x))
      go true x = refl
      go false x = refl
