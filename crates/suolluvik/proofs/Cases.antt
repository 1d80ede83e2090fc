-- A measure in a vertical case: the case as the code has it, and what is answered. Assumes nothing.
use mathlib.Core.Path.{◌≡◌, ap, ◌∙◌}
use lib.Ieee.{Float}
use Rattle.std.specs.Prelude.{Result, Ok, Err, IsOkAnd, MatchResult}
use Rattle.readers.specs.Outcome.{Outcome, value}
use Rattle.readers.specs.Answers.{outcome}
use Rattle.readers.specs.declared.Refusal.{Refusal}
use Rattle.metrics.specs.Scale.{zero}
use Rattle.metrics.specs.Structs.{vertical_of}
use Rattle.metrics.specs.Vertical as Vertically
use Rattle.metrics.specs.declared.vertical.Vertical.{Vertical}
use Rattle.suolluvik.specs.Numbered.{numbered}
use Rattle.suolluvik.specs.Glyph.{in_case}
use Rattle.suolluvik.specs.GlyphAnswers.{vertical_outcome}

module _ (measure : Vertically.Vertical → Float) (case : Outcome Vertically.Vertical) (P : Vertical → Float → Type 0) (made : (v : Vertical) (x : Float) → P v x → x ≡ measure (vertical_of v)) where
  measured : (r : Result Vertical Refusal) (s : Result Float Refusal) → MatchResult r (λ v. IsOkAnd s (P v)) (λ e. s ≡ Err e) → outcome s ≡ in_case (vertical_outcome r) measure
  measured (Ok v) (Ok x) h = ap value (made v x h)
  measured (Ok v) (Err e) h = absurd h
  measured (Err n) s h = rw h

  -- What `map` makes of a case, by what it is called with.
  pub by_case : (r : Result Vertical Refusal) (s : Result Float Refusal) → vertical_outcome r ≡ case → MatchResult r (λ v. IsOkAnd s (P v)) (λ e. s ≡ Err e) → numbered zero (outcome s) ≡ numbered zero (in_case case measure)
  by_case r s given h = ap (numbered zero) (measured r s h) ∙ ap (λ o. numbered zero (in_case o measure)) given
