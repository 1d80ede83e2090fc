-- `suolluvik::fvar::suolluvik_instance` meets its contract. Assumes nothing.
use Prim.Native.Nat.{ℕ}
use mathlib.Core.Path.{◌≡◌, refl, ap, ◌∙◌}
use Rattle.std.specs.Prelude.{is_some}
use Rattle.std.specs.Option.{unwrap_or}
use Rattle.std.specs.Int.{from_bool}
use Rattle.std.proofs.Common.{Option, Some, None}
use Rattle.readers.specs.Outcome.{value_or}
use Rattle.opentype.specs.Fvar.{Instance}
use Rattle.axes.specs.FvarAnswers.{instance_of, name_of}
use Rattle.suolluvik.specs.Fvar.{instance_in, no_instance, is_named, name_or_zero}
use Rattle.suolluvik.proofs.Seen.{value_seen}
use Rattle.suolluvik.proofs.fvar.suolluvik_instance.Goals as goal

named : (id : Option ℕ) → (from_bool (is_some id) ≡ is_named (name_of id)) × (unwrap_or id 0 ≡ name_or_zero (name_of id))
named (Some id) = (refl, refl)
named None = (refl, refl)

seen : (c : goal.After-unwrap_or) → instance_of c.answered-number.new.value ≡ value_or no_instance (instance_in c.args.fvar.now c.args.index)
unfolding no_instance
seen c =
    value_seen instance_of c.get_instance.result _ _ no_instance refl (ap (λ p. p.1) c.answered-number.ensures)
    ∙ ap (value_or no_instance) (rw c.new.ensures at c.get_instance.ensures)

pub returns-clause-name : goal.returns-clause-name
returns-clause-name c = ap (λ (i : Instance). i.subfamily_name_id) (seen c)

pub returns-clause-has : goal.returns-clause-has
returns-clause-has c =
    c.from.ensures ∙ ap from_bool c.is_some.ensures ∙ (named c.answered-number.new.value.postscript_name_id).0 ∙ ap (λ (i : Instance). is_named i.post_script_name_id) (seen c)

pub returns-clause-postscript : goal.returns-clause-postscript
returns-clause-postscript c =
    c.unwrap_or.ensures ∙ (named c.answered-number.new.value.postscript_name_id).1 ∙ ap (λ (i : Instance). name_or_zero i.post_script_name_id) (seen c)
