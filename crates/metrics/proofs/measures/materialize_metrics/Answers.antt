-- `metrics::measures::materialize_metrics` meets its contract. Assumes nothing.
use mathlib.Core.Path.{refl, ap, ◌∙◌}
use Rattle.opentype.specs.MvarDeltas.{Deltas}
use Rattle.store.specs.MvarDeltasAnswers.{deltas_of, wants_others, wants_vertical, wanted_by}
use Rattle.metrics.specs.Measures.{shifted, measure_delta}
use Rattle.metrics.specs.Structs.{metrics_of, tagged}
use Rattle.metrics.proofs.Varying.{no_mvar_lem, no_coordinates, not_opened, all_asked, shifts}
use Rattle.metrics.proofs.measures.materialize_metrics.Goals as goal
use Rattle.metrics.proofs.measures.materialize_metrics.Goals.{then-mvar-eq0-via-then-mvar-eq0, then-mvar-eq0-via-else-mvar-eq0+then-is_empty}

pub returns-then-mvar-eq0 : goal.returns-then-mvar-eq0
returns-then-mvar-eq0 c =
    let a = c.args in
    elim c.then-mvar-eq0.branch [
      | then-mvar-eq0-via-then-mvar-eq0 w ↦ rw (no_mvar_lem a.font.now a.mvar a.coords.now w.if-mvar-eq0.true) refl
      | then-mvar-eq0-via-else-mvar-eq0+then-is_empty w ↦ rw (no_coordinates a.font.now a.mvar a.coords.now w.if-is_empty.ensures) refl
    ]

pub returns-in_default : goal.returns-in_default
returns-in_default c =
    let a = c.args in
    rw (not_opened a.font.now a.mvar a.coords.now (wanted_by c.wanted.result) _ c.in_default.ensures) refl

pub returns : goal.returns
returns c =
    let a = c.args in
    let asked = c.wanted in
    let moved = shifts a.font.now a.mvar a.coords.now (wanted_by asked.result) (deltas_of c.in-Ok.d) c.in-Ok.ensures c.if-mvar-eq0.false c.if-is_empty.ensures in
    rw (moved.0)
    (c.shifted.ensures
    ∙ ap (λ (d : Deltas). shifted (tagged d) (metrics_of a.unvaried)) moved.1
    ∙ all_asked (measure_delta a.font.now a.mvar a.coords.now) (metrics_of a.unvaried) (wants_others asked.result) (wants_vertical asked.result) asked.ensures.0 asked.ensures.1)
