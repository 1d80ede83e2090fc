-- `suolluvik::deltas::float_value` meets its contract. Assumes nothing.
use mathlib.Core.Path.{◌≡◌, refl, ap, ◌∙◌}
use lib.IntN.{pos}
use lib.Ieee.{Float, binary32, of_bits, div, of_int}
use Rattle.std.specs.Prelude.{Result, Ok, Err, IsOkAnd, MatchResult}
use Rattle.numbers.specs.Floats.{to_float}
use Rattle.numbers.specs.declared.Fixed.{Fixed}
use Rattle.readers.specs.Answers.{outcome, outcome_fixed}
use Rattle.readers.specs.declared.Refusal.{Refusal}
use Rattle.suolluvik.specs.Numbered.{numbered, numbered_float}
use Rattle.suolluvik.proofs.deltas.float_value.Goals as goal

zero_float : of_bits binary32 0 ≡ to_float (pos 0)
unfolding to_float of_bits div of_int
zero_float = refl

-- The floats of the answers, the zero that stands for a refusal's being that of 0.
floats : (d : Result Fixed Refusal) (r : Result Float Refusal) → MatchResult d (λ x. IsOkAnd r (λ y. y ≡ to_float x.0)) (λ e. r ≡ Err e) → numbered (of_bits binary32 0) (outcome r) ≡ numbered_float (outcome_fixed d)
floats (Ok x) (Ok y) h = ap (λ (z : Float). (0, z)) h
floats (Ok x) (Err e) h = absurd h
floats (Err n) r h = rw (h, zero_float)

pub returns : goal.returns
returns c = c.answered.ensures ∙ floats c.args.delta c.map.result c.map.ensures.cases
