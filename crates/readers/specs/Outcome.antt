-- What a call answers: a value, or a refusal by document 01's number.
use Rattle.std.specs.Prelude.{ℕ, Bool, true, false}

pub data Outcome (A : Type 0) : Type 0 where
  value : A → Outcome A
  refused : ℕ → Outcome A

-- "A refusal answers its number with value 0": the number, 0 where there is a value; and the value, zero on a refusal.
abbrev pub number : {A : Type 0} → Outcome A → ℕ
number (value a) = 0
number (refused n) = n

abbrev pub value_or : {A : Type 0} → A → Outcome A → A
value_or zero (value a) = a
value_or zero (refused n) = zero

-- Go on with a value; the first refusal met is given.
abbrev pub onward : {A B : Type 0} → Outcome A → (A → Outcome B) → Outcome B
onward (value a) f = f a
onward (refused n) f = refused n

-- Go on where the test holds; refuse by n where it fails.
abbrev pub unless : {A : Type 0} → Bool → ℕ → Outcome A → Outcome A
unless true n o = o
unless false n o = refused n
