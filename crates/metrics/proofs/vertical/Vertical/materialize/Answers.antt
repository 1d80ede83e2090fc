-- `metrics::vertical::Vertical::materialize` meets its contract. Assumes nothing.
use mathlib.Core.Path.{refl, ap}
use Rattle.opentype.specs.MvarDeltas.{Deltas}
use Rattle.store.specs.MvarDeltasAnswers.{deltas_of, wanted_by}
use Rattle.store.specs.declared.mvar_deltas.Wanted.TheVariants.{Ascents}
use Rattle.metrics.specs.Scale.{plus}
use Rattle.metrics.specs.Vertical.{synthesized}
use Rattle.metrics.proofs.Varying.{no_mvar_lem, no_coordinates, not_opened, shifts}
use Rattle.metrics.proofs.vertical.Vertical.materialize.Goals as goal
use Rattle.metrics.proofs.vertical.Vertical.materialize.Goals.{then-mvar-eq0-via-then-mvar-eq0, then-mvar-eq0-via-else-mvar-eq0+then-is_empty}

pub returns-then-mvar-eq0 : goal.returns-then-mvar-eq0
returns-then-mvar-eq0 c =
    let a = c.args in
    let s = c.in-Synthesized in
    elim c.then-mvar-eq0.branch [
      | then-mvar-eq0-via-then-mvar-eq0 w ↦ rw (s.is, no_mvar_lem a.font.now s.mvar a.coords.now w.if-mvar-eq0.true) refl
      | then-mvar-eq0-via-else-mvar-eq0+then-is_empty w ↦ rw (s.is, no_coordinates a.font.now s.mvar a.coords.now w.if-is_empty.ensures) refl
    ]

pub returns-in_default-opened_deltas : goal.returns-in_default-opened_deltas
returns-in_default-opened_deltas c =
    let a = c.args in
    let s = c.in-Synthesized in
    rw (s.is, not_opened a.font.now s.mvar a.coords.now (wanted_by Ascents) _ c.in_default-opened_deltas.ensures) refl

pub returns : goal.returns
returns c =
    let a = c.args in
    let s = c.in-Synthesized in
    let moved = shifts a.font.now s.mvar a.coords.now (wanted_by Ascents) (deltas_of c.in-Ok.d) c.in-Ok.ensures c.if-mvar-eq0.false c.if-is_empty.ensures in
    rw (s.is, moved.0) (ap (λ (d : Deltas). synthesized s.mvar (plus s.advance (plus d.hasc d.hdsc)) (plus s.origin d.hasc)) moved.1)
