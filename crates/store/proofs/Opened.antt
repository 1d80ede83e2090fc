-- What opening an MVAR answers, and what is asked of it then. Assumes nothing.
use Prim.Native.Nat.{ℕ}
use mathlib.Core.Path.{◌≡◌, refl, ap, sym, ◌∙◌}
use mathlib.Core.Bool.{false≢true}
use mathlib.Core.List.{List}
use lib.ListN.{drop}
use lib.IntN.{ℤ}
use Rattle.std.specs.Prelude.{Result, Ok, Err, IsErr, IfOk}
use Rattle.readers.specs.Outcome.{Outcome, value, refused, value_or, onward}
use Rattle.readers.specs.Reading.{run}
use Rattle.readers.proofs.Reading.{run_bind}
use Rattle.opentype.specs.Mvar.{Header, Opened, header_at, tag_delta, mvar_delta, opened, no_mvar, opened_delta}

-- What a header opens.
abbrev pub opens_as : List ℕ → ℕ → List ℤ → Header → Outcome Opened
opens_as font start coords header = value (record { table = drop start font; coords = coords; header = header })

-- An answer that is a refusal says nothing of where parts lie.
pub not_opened : {A E : Type 0} (r : Result A E) (P : A → Type 0) → IsErr r → IfOk r P
not_opened (Ok x) P e = absurd (false≢true e)
not_opened (Err e) P h = tt

module _ (font : List ℕ) (start : ℕ) (coords : List ℤ) (tag : ℕ) where
  -- Opened and then asked, a tag has the delta that the plain function answers, refusals included.
  pub opened_then : onward (opened font start coords) (λ mvar. opened_delta mvar tag) ≡ mvar_delta font start tag coords
  unfolding opened opened_delta mvar_delta
  opened_then = sym (run_bind (drop start font) header_at (λ header. tag_delta header coords tag) ∙ go (run (drop start font) header_at))
    where
      go : (o : Outcome Header) → onward o (λ header. run (drop start font) (tag_delta header coords tag)) ≡ onward (onward o (opens_as font start coords)) (λ mvar. opened_delta mvar tag)
      go (value h) = refl
      go (refused n) = refl

  -- The same of an opened one; and of whatever stands for a header that is read.
  pub asked_opened : (mvar : Opened) → value mvar ≡ opened font start coords → opened_delta mvar tag ≡ mvar_delta font start tag coords
  asked_opened mvar e = ap (λ o. onward o (λ m. opened_delta m tag)) e ∙ opened_then

  pub opened_answers : (h : Header) → run (drop start font) header_at ≡ value h → opened_delta (value_or no_mvar (opened font start coords)) tag ≡ mvar_delta font start tag coords
  unfolding opened
  opened_answers h e = rw e (asked_opened (record { table = drop start font; coords = coords; header = h }) (rw e))
