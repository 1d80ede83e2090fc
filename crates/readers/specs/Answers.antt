-- The number and the value that each answer of the code has: an `Err` is a refusal, by its number.
use Rattle.std.specs.Prelude.{ℕ, ℤ, Result, Ok, Err}
use Rattle.numbers.specs.declared.Fixed.{Fixed}
use Rattle.numbers.specs.declared.F2Dot14.{F2Dot14}
use Rattle.readers.specs.Outcome.{Outcome, value, refused}
use Rattle.readers.specs.declared.Refusal.{Refusal}
use Rattle.readers.specs.declared.Refusal.TheVariants.{Absent, Short, Index, Tag, Arithmetic, Lengths, Room}

-- Document 01, "The seven refusals".
abbrev pub number_of : Refusal → ℕ
number_of Absent = 1
number_of Short = 2
number_of Index = 3
number_of Tag = 4
number_of Arithmetic = 5
number_of Lengths = 6
number_of Room = 7

-- A refusal, of whatever kind the value would have been.
abbrev pub refusal : {A : Type 0} → Refusal → Outcome A
refusal n = refused (number_of n)

-- An answer whose value is read as `seen` has it.
abbrev pub outcome_as : {R A : Type 0} → (R → A) → Result R Refusal → Outcome A
outcome_as seen (Ok x) = value (seen x)
outcome_as seen (Err n) = refusal n

-- One whose value is read as it is.
abbrev pub outcome : {A : Type 0} → Result A Refusal → Outcome A
outcome r = outcome_as (λ x. x) r

-- A 2.14 and a 16.16 number by the whole number that its bits make.
abbrev pub outcome_f2_dot14 : Result F2Dot14 Refusal → Outcome ℤ
outcome_f2_dot14 r = outcome_as (λ x. x.0) r

abbrev pub outcome_fixed : Result Fixed Refusal → Outcome ℤ
outcome_fixed r = outcome_as (λ x. x.0) r
