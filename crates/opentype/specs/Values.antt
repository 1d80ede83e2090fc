-- An instance's values as floats, in a lent list (document 01, "fvar and normalising", "What must change shape").
use Rattle.std.specs.Prelude.{ℕ, List, [], leb, ℤ, pos, Float, length}
use Rattle.numbers.specs.Floats.{to_float}
use Rattle.readers.specs.Outcome.{Outcome, value, onward, unless, value_or}
use Rattle.readers.specs.Reading.{run}
use Rattle.readers.specs.Lent.{fill, written}
use Rattle.opentype.specs.Fvar.{Header, instance_values, instance_value}

-- Value i of an instance's part; 0 past its end.
unfoldable pub value_in : List ℕ → ℕ → ℤ
value_in part i = value_or (pos 0) (run part (instance_value i))

-- The instance's refusal, then 7 where the list is too short; else the count.
unfoldable pub float_count : List ℕ → Header → ℕ → ℕ → Outcome ℕ
float_count table header j room =
    onward (instance_values table header j) (λ part. unless (leb header.axis_count room) 7 (value header.axis_count))

-- What the lent list then holds: the values, and beyond them what it held; on a refusal all that it held.
unfoldable pub floats_in : List ℕ → Header → ℕ → List Float → List Float
floats_in table header j out =
    written (float_count table header j (length out)) (fill (λ i. to_float (value_in (value_or [] (instance_values table header j)) i))) out
