-- `store::metric::store_of` meets its contract. Assumes nothing.
use borrow.Author.Tests.{lt-ltb, le-ltb, ne_eqb}
use Rattle.readers.proofs.Reading.{went_on, passed, failed, answered, exits, tests, comparisons}
use Rattle.opentype.specs.Metric.{store_of}
use native.Mathlib.Omega.{arith}
use Rattle.std.specs.Prelude.{ℕ, ◌^◌, ◌<◌, List, Option, Some, None, ltb, ◌≡◌}
use Rattle.std.specs.Option.{SomeIff, ok_or}
use Rattle.readers.specs.Answers.{outcome}
use Rattle.readers.specs.Reading.{run, check, answer, ◌>>◌}
use Rattle.readers.specs.declared.Refusal.TheVariants.{Arithmetic}
use Rattle.store.proofs.metric.store_of.Goals as goal

pub returns-then-base-eq0 : goal.returns-then-base-eq0
unfolding store_of
returns-then-base-eq0 c = search (tests, comparisons) depth 6

pub returns-in_err-offset : goal.returns-in_err-offset
unfolding store_of
returns-in_err-offset c = search (exits, tests, comparisons, c.in_err-offset.ensures) depth 12

pub returns-then-offset-eq0 : goal.returns-then-offset-eq0
unfolding store_of
returns-then-offset-eq0 c = search (exits, tests, comparisons, c.in_ok-offset.ensures) depth 12

-- a sum that fits 32 bits, or the refusal
sum_or : (font : List ℕ) (n : ℕ) (o : Option ℕ) → SomeIff o (n < 4294967296) n → outcome (ok_or o Arithmetic) ≡ run font (check (ltb n (2 ^ 32)) 5 >> answer n)
sum_or font n None e = failed _ _ _ _ (le-ltb _ _ (omega (arith, e)))
sum_or font n (Some x) e = passed _ _ _ _ _ (lt-ltb _ _ e.0) (rw e.1 (answered _ _))

pub returns : goal.returns
unfolding store_of
returns c =
    rw c.ok_or.ensures.value
    (passed _ _ _ _ _ (rw (ne_eqb _ _ c.if-base-eq0.false))
    (went_on _ _ _ _ _ c.in_ok-offset.ensures
    (passed _ _ _ _ _ (rw (ne_eqb _ _ c.if-offset-eq0.false))
    (sum_or _ _ _ c.checked_add.ensures))))
