-- `widths::vorg::origin` meets its contract. Assumes nothing.
use Prim.Native.Nat.{ℕ, ◌+◌, ◌*◌}
use mathlib.Core.Path.{◌≡◌, ap, ◌∙◌}
use mathlib.Core.List.{List}
use native.Mathlib.Nat.{mul_comm}
use native.Mathlib.Omega.{arith}
use borrow.Author.Tests.{eq-eqb, ne_eqb}
use lib.IntN.{ℤ}
use mir.Syntax.{w16}
use mir.Val.{to_z}
use mir.ValLaws.{to_z-of_z}
use Rattle.std.proofs.Common.{Option}
use Rattle.readers.specs.Outcome.{Outcome, value, onward}
use Rattle.readers.specs.Reading.{read_at, unsigned_at, signed_at, run}
use Rattle.readers.proofs.Reading.{went_on, stopped, went_on_signed, stopped_signed, handed_on, passed, failed, answered}
use Rattle.opentype.specs.Search.{Records, searched}
use Rattle.opentype.specs.Vorg.{vert_origin_y_metrics, vert_origin_y, origin_at}
use Rattle.store.specs.KeyedAnswers.{place}
use Rattle.store.proofs.Keys.{sought_at, searched_there, found_place}
use Rattle.widths.proofs.vorg.origin.Goals as goal

-- The records as the code has them.
abbrev records : ℕ → Records
records vorg = record { key_size = 2; start = λ i. vorg + 8 + i * 4 }

same_records : (vorg : ℕ) → records vorg ≡ vert_origin_y_metrics vorg
same_records vorg j = record { key_size = 2; start = λ i. vorg + 8 + mul_comm i 4 j }

-- A signed number that is read, by its definition.
signed : (font : List ℕ) (p : ℕ) (o : Outcome ℤ) → o ≡ run font (read_at 2 (to_z w16) p) → o ≡ run font (signed_at w16 p)
unfolding signed_at unsigned_at
signed font p o e = e

-- From the place of a glyph's record, or that there is none, to its origin.
from_place : (font : List ℕ) (vorg glyph count : ℕ) (default : ℤ) (o : Outcome (Option ℕ)) (w : Outcome ℤ)
    → o ≡ run font (searched (records vorg) place glyph count) → w ≡ onward o (λ p. run font (sought_at (vert_origin_y default) p))
    → w ≡ run font (searched (vert_origin_y_metrics vorg) (vert_origin_y default) glyph count)
from_place font vorg glyph count default o w found told =
    told
    ∙ ap (λ o. onward o (λ p. run font (sought_at (vert_origin_y default) p))) found
    ∙ searched_there font (records vorg) (vert_origin_y default) glyph count
    ∙ ap (λ r. run font (searched r (vert_origin_y default) glyph count)) (same_records vorg)

pub returns-then-vorg-eq0 : goal.returns-then-vorg-eq0
unfolding origin_at
returns-then-vorg-eq0 c = failed _ _ _ _ (rw (eq-eqb _ 0 c.if-vorg-eq0.true))

pub returns-in_err-default : goal.returns-in_err-default
unfolding origin_at
returns-in_err-default c = passed _ _ _ _ _ (rw (ne_eqb _ 0 c.if-vorg-eq0.false)) (stopped_signed _ w16 _ _ _ _ _ c.from_residual.ensures c.in_err-default.ensures)

pub returns-in_err-read : goal.returns-in_err-read
unfolding origin_at
returns-in_err-read c =
    passed _ _ _ _ _ (rw (ne_eqb _ 0 c.if-vorg-eq0.false))
    (went_on_signed _ w16 _ _ _ c.in_ok-default.ensures
    (stopped _ _ _ _ _ _ _ c.from_residual-in_err-read.ensures c.in_err-read.ensures))

pub returns-in_err-at : goal.returns-in_err-at
unfolding origin_at
returns-in_err-at c =
    passed _ _ _ _ _ (rw (ne_eqb _ 0 c.if-vorg-eq0.false))
    (went_on_signed _ w16 _ _ _ c.in_ok-default.ensures
    (went_on _ _ _ _ _ c.in_ok-read.ensures
    (from_place _ _ _ _ _ _ _ c.in_err-at.ensures (handed_on (λ (y : ℤ). y) _ _ c.from_residual-in_err-at.ensures))))

pub overflow_add-at : goal.overflow_add-at
overflow_add-at c =
    let (i, low, start) = found_place c.args.font.now (records c.args.vorg) c.args.glyph_id c.in_ok-read.field-0 c.in-Some.at (rw c.in-Some.is at c.in_ok-at.ensures) in
    omega arith

pub returns-in-Some : goal.returns-in-Some
unfolding origin_at
returns-in-Some c =
    passed _ _ _ _ _ (rw (ne_eqb _ 0 c.if-vorg-eq0.false))
    (went_on_signed _ w16 _ _ _ c.in_ok-default.ensures
    (went_on _ _ _ _ _ c.in_ok-read.ensures
    (from_place _ _ _ _ _ _ _ (rw c.in-Some.is at c.in_ok-at.ensures) (signed _ _ _ c.read-in-Some.ensures))))

pub returns-in-None : goal.returns-in-None
unfolding origin_at
returns-in-None c =
    passed _ _ _ _ _ (rw (ne_eqb _ 0 c.if-vorg-eq0.false))
    (went_on_signed _ w16 _ _ _ c.in_ok-default.ensures
    (went_on _ _ _ _ _ c.in_ok-read.ensures
    (from_place _ _ _ _ _ _ _ (rw c.in-None.is at c.in_ok-at.ensures)
    (ap value (to_z-of_z w16 c.in_ok-default.default (record { sfits = omega arith })) ∙ answered _ _))))
