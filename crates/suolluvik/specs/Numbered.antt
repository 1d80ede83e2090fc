-- "A refusal answers its number with value 0" (document 01, "The seven refusals"): the number, 0 for none, and the value beside it.
use Rattle.std.specs.Prelude.{ℕ, ℤ, Float}
use Rattle.readers.specs.Outcome.{Outcome, number, value_or}
use Rattle.opentype.specs.Metric.{float_of}

abbrev pub numbered : {A : Type 0} → A → Outcome A → ℕ × A
numbered zero o = (number o, value_or zero o)

-- A delta's float beside its number.
abbrev pub numbered_float : Outcome ℤ → ℕ × Float
numbered_float delta = (number delta, float_of delta)
