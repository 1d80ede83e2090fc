-- `axes::variation::normalized_coords` meets its contract. Assumes nothing.
use Prim.Native.Nat.{ℕ}
use mathlib.Core.Path.{◌≡◌, ap, ◌∙◌}
use lib.ListN.{length}
use native.Mathlib.Omega.{arith}
use borrow.Author.Rules.{rules}
use borrow.Author.Tests.{eq-eqb, ne_eqb}
use Rattle.readers.specs.Outcome.{Outcome}
use Rattle.readers.proofs.Outcome.{unless_true, unless_false}
use Rattle.opentype.specs.Variation.{passed, coords_in, setting_coord, settings_count, settings_coords}
use Rattle.axes.specs.FvarAnswers.{header}
use Rattle.axes.proofs.Coords.{counted_short, counted_all}
use Rattle.axes.proofs.variation.normalized_coords.Goals as goal

pub returns-then-tags-values-clause-count : goal.returns-then-tags-values-clause-count
unfolding settings_count
returns-then-tags-values-clause-count c = unless_false _ _ _ (ne_eqb _ _ c.if-tags-values.true)

pub returns-then-tags-values-clause-list : goal.returns-then-tags-values-clause-list
unfolding settings_coords coords_in
returns-then-tags-values-clause-list c = rw (← returns-then-tags-values-clause-count c)

pub returns-then-out-from-clause-count : goal.returns-then-out-from-clause-count
unfolding settings_count
returns-then-out-from-clause-count c = unless_true _ _ _ _ (eq-eqb _ _ c.if-tags-values.false) (counted_short _ _ _ (omega arith))

pub returns-then-out-from-clause-list : goal.returns-then-out-from-clause-list
unfolding settings_coords coords_in
returns-then-out-from-clause-list c = rw (← returns-then-out-from-clause-count c)

pub returns : goal.returns
unfolding settings_count settings_coords
returns c =
    let a = c.args in
    let of = setting_coord a.table.now (header a.fvar) a.font.now a.avar a.tags.now a.values.now in
    let few = c.few_coords.ensures in
    let e : passed of c.min-count.result ≡ settings_count a.table.now (header a.fvar) a.font.now a.avar a.tags.now a.values.now (length a.out.now) =
    unless_true _ _ _ _ (eq-eqb _ _ c.if-tags-values.false) (counted_all _ _ _ _ (omega arith) (ap (passed of) c.min-count.ensures)) in
    record {
      count = few.count of (λ i r p. search rules) ∙ e;
      list = few.list of (λ i r p. search rules) ∙ ap (λ (o : Outcome ℕ). coords_in of o a.out.now) e;
    }
