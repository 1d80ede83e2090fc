-- `axes::variation::instance_coords` meets its contract. Assumes nothing.
use mathlib.Core.Path.{refl, ◌∙◌}
use borrow.Author.Rules.{rules}
use lib.ListN.{length}
use native.Mathlib.Omega.{arith}
use Rattle.opentype.specs.Variation.{coords_in, value_coord, instance_coords}
use Rattle.axes.specs.FvarAnswers.{header}
use Rattle.axes.proofs.Coords.{counted_short, counted_all, instance_refused, instance_counted}
use Rattle.axes.proofs.Exits.{exited}
use Rattle.axes.proofs.variation.instance_coords.Goals as goal

pub returns-in_err-part : goal.returns-in_err-part
unfolding instance_coords coords_in
returns-in_err-part c =
    let e = instance_refused _ _ _ _ _ _ c.in_err-part.ensures.part in
    rw (exited _ c.from_residual.ensures.1) (record { count = e; list = rw (← e) })

pub returns-then-out-from : goal.returns-then-out-from
unfolding instance_coords coords_in
returns-then-out-from c =
    let e = counted_short _ _ _ (omega arith) ∙ instance_counted _ _ _ _ _ _ c.in_ok-part.ensures.part in
    record { count = e; list = rw (← e) }

pub returns-then-count-le32 : goal.returns-then-count-le32
unfolding instance_coords
returns-then-count-le32 c =
    let a = c.args in
    let part = c.in_ok-part.ensures.part in
    let of = value_coord a.table.now (header a.fvar) a.font.now a.avar c.in_ok-part.part.now in
    let few = c.few_coords.ensures in
    let e = counted_all of a.fvar.axis_count (length a.out.now) _ (omega arith) refl ∙ instance_counted _ _ _ _ _ _ part in
    record {
      count = few.count of (λ i r p. search rules) ∙ e;
      list = rw (← e, ← part) (few.list of (λ i r p. search rules));
    }

pub returns-else-count-le32 : goal.returns-else-count-le32
unfolding instance_coords
returns-else-count-le32 c =
    let a = c.args in
    let part = c.in_ok-part.ensures.part in
    let of = value_coord a.table.now (header a.fvar) a.font.now a.avar c.in_ok-part.part.now in
    let many = c.many_coords.ensures in
    let e = counted_all of a.fvar.axis_count (length a.out.now) _ (omega arith) refl ∙ instance_counted _ _ _ _ _ _ part in
    record {
      count = many.count of (λ i r p. search rules) ∙ e;
      list = rw (← e, ← part) (many.list of (λ i r p. search rules));
    }
