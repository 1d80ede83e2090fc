-- Where an MVAR opens, it shifts by the deltas that it is asked for; elsewhere nothing is shifted. Assumes nothing.
use Prim.Native.Nat.{ℕ}
use mathlib.Core.Path.{◌≡◌, refl, ap, ap₂, sym, ◌∙◌, fun_ext}
use mathlib.Core.Logic.{◌≢◌}
use mathlib.Core.Bool.{Bool, true, false, not, ◌&&◌, and-false}
use mathlib.Core.List.{List}
use lib.Dec.{eqb}
use lib.ListN.{length, drop}
use lib.IntN.{ℤ}
use lib.Ieee.{Float}
use borrow.Author.Tests.{eq-eqb, ne_eqb}
use Rattle.readers.specs.Outcome.{Outcome, value, refused, onward}
use Rattle.readers.specs.Reading.{run}
use Rattle.opentype.specs.Metric.{float_of}
use Rattle.opentype.specs.Mvar.{Header, Opened, header_at, opened, opened_float}
use Rattle.opentype.specs.MvarDeltas.{deltas_by}
use Rattle.store.proofs.Opened.{opens_as, asked_opened}
use Rattle.metrics.specs.Measures.{Metrics, each, shift, shifted, opens, varies, measure_delta}
use Rattle.metrics.specs.Structs.{tagged}

module _ (font : List ℕ) (mvar : ℕ) (coords : List ℤ) where
  abbrev test : Bool → Bool → Outcome Header → Bool
  test absent empty o = not absent && (opens o && not empty)

  -- Where there is no MVAR, where there are no coordinates, and where it does not open, nothing is shifted.
  pub no_mvar_lem : mvar ≡ 0 → varies font mvar coords ≡ false
  unfolding varies
  no_mvar_lem e = ap (λ absent. test absent (eqb (length coords) 0) (run (drop mvar font) header_at)) (eq-eqb mvar 0 e)

  pub no_coordinates : true ≡ eqb (length coords) 0 → varies font mvar coords ≡ false
  unfolding varies
  no_coordinates e = ap (λ empty. test (eqb mvar 0) empty (run (drop mvar font) header_at)) (sym e) ∙ none (eqb mvar 0) (opens (run (drop mvar font) header_at))
    where
      none : (a o : Bool) → (not a && (o && false)) ≡ false
      none true o = refl
      none false true = refl
      none false false = refl

  module _ {A : Type 0} (asked : (ℕ → Float) → A) where
    pub not_opened : (n : ℕ) → refused n ≡ onward (opened font mvar coords) (λ m. value (asked (opened_float m))) → varies font mvar coords ≡ false
    unfolding opened varies
    not_opened n e = go (run (drop mvar font) header_at) e
      where
        go : (o : Outcome Header) → refused n ≡ onward (onward o (opens_as font mvar coords)) (λ m. value (asked (opened_float m))) → test (eqb mvar 0) (eqb (length coords) 0) o ≡ false
        go (value h) e = cc
        go (refused k) e = and-false (not (eqb mvar 0))

    -- Elsewhere what is asked of an opened MVAR is asked of the deltas that shift.
    pub shifts : (d : A) → value d ≡ onward (opened font mvar coords) (λ m. value (asked (opened_float m))) → mvar ≢ 0 → false ≡ eqb (length coords) 0
        → (varies font mvar coords ≡ true) × (d ≡ asked (measure_delta font mvar coords))
    unfolding opened varies
    shifts d e there some = go (run (drop mvar font) header_at) refl e
      where
        go : (o : Outcome Header) → run (drop mvar font) header_at ≡ o → value d ≡ onward (onward o (opens_as font mvar coords)) (λ m. value (asked (opened_float m)))
            → (varies font mvar coords ≡ true) × (d ≡ asked (measure_delta font mvar coords))
        go (value h) r e =
            let m : Opened = record { table = drop mvar font; coords = coords; header = h } in
            let taken : d ≡ asked (opened_float m) = cc in
            let shown : opened_float m ≡ measure_delta font mvar coords = fun_ext (λ tag. ap float_of (asked_opened font mvar coords tag m (rw r refl))) in (
              ap₂ (λ absent empty. test absent empty (run (drop mvar font) header_at)) (ne_eqb mvar 0 there) (sym some) ∙ ap (test false false) r,
              taken ∙ ap asked shown,
            )
        go (refused k) r e = cc

-- The deltas that are asked for are all that shift the measures.
module _ (delta : ℕ → Float) (m : Metrics) where
  by_flag : (vertical : Bool) → each (shift vertical (tagged (deltas_by true vertical delta))) m ≡ each (shift vertical delta) m
  by_flag true = refl
  by_flag false = refl

  pub all_asked : (others vertical : Bool) → others ≡ true → vertical ≡ m.has_vertical_metrics → shifted (tagged (deltas_by others vertical delta)) m ≡ shifted delta m
  all_asked others vertical e f = ap₂ (λ h v. shifted (tagged (deltas_by h v delta)) m) e f ∙ by_flag m.has_vertical_metrics
