-- `suolluvik::fvar::suolluvik_axis_by_tag` meets its contract. Assumes nothing.
use mathlib.Core.Path.{◌≡◌, refl, ap, ◌∙◌}
use Rattle.readers.specs.Outcome.{value_or}
use Rattle.opentype.specs.Axis.{Axis, no_axis}
use Rattle.axes.specs.AxisAnswers.{axis_of}
use Rattle.suolluvik.specs.Fvar.{tagged_in}
use Rattle.suolluvik.proofs.Seen.{value_seen}
use Rattle.suolluvik.proofs.fvar.suolluvik_axis_by_tag.Goals as goal

seen : (c : goal.After-put_axis) → axis_of c.answered-number.new.value ≡ value_or no_axis (tagged_in c.args.fvar.now c.args.tag)
unfolding no_axis
seen c = value_seen axis_of c.get_axis_by_tag.result _ _ no_axis refl (ap (λ p. p.1) c.answered-number.ensures) ∙ ap (value_or no_axis) (rw c.new.ensures at c.get_axis_by_tag.ensures)

pub returns-clause-index : goal.returns-clause-index
returns-clause-index c = ap (λ (a : Axis). a.index) (seen c)

pub returns-clause-min : goal.returns-clause-min
returns-clause-min c = c.put_axis.ensures.min ∙ ap (λ (a : Axis). a.min_value) (seen c)

pub returns-clause-default : goal.returns-clause-default
returns-clause-default c = c.put_axis.ensures.default ∙ ap (λ (a : Axis). a.default_value) (seen c)

pub returns-clause-max : goal.returns-clause-max
returns-clause-max c = c.put_axis.ensures.max ∙ ap (λ (a : Axis). a.max_value) (seen c)

pub returns-clause-flags : goal.returns-clause-flags
returns-clause-flags c = c.put_axis.ensures.flags ∙ ap (λ (a : Axis). a.flags) (seen c)

pub returns-clause-name : goal.returns-clause-name
returns-clause-name c = c.put_axis.ensures.name ∙ ap (λ (a : Axis). a.axis_name_id) (seen c)
