-- The header, and the number and the value that each answer of `fvar` has.
use Rattle.std.specs.Prelude.{ℕ, Option, Some, None, Result}
use Rattle.readers.specs.Outcome.{Outcome}
use Rattle.readers.specs.Answers.{outcome_as}
use Rattle.readers.specs.declared.Refusal.{Refusal}
use Rattle.opentype.specs.Axis.{Axis}
use Rattle.axes.specs.AxisAnswers.{axis_of}
use Rattle.opentype.specs.Fvar.{Header, InstanceRecord, NameID, absent, named, Instance}
use Rattle.axes.specs.declared.axis.VarAxis.{VarAxis}
use Rattle.axes.specs.declared.fvar.Fvar.{Fvar}
use Rattle.axes.specs.declared.fvar.VarInstance.{VarInstance}
use Rattle.axes.specs.declared.fvar.Record.{Record}

abbrev pub header : Fvar → Header
header f = record {
  axes_array_offset = f.axis_offset;
  axis_count = f.axis_count;
  axis_size = f.axis_size;
  instance_count = f.inst_count;
  instance_size = f.inst_size;
}

abbrev pub axis_outcome : Result VarAxis Refusal → Outcome Axis
axis_outcome r = outcome_as axis_of r

abbrev pub name_of : Option ℕ → NameID
name_of None = absent
name_of (Some id) = named id

abbrev pub instance_of : VarInstance → Instance
instance_of v = record { index = v.index; subfamily_name_id = v.name_id; post_script_name_id = name_of v.postscript_name_id }

abbrev pub instance_outcome : Result VarInstance Refusal → Outcome Instance
instance_outcome r = outcome_as instance_of r

abbrev pub record_of : Record → InstanceRecord
record_of r = record { subfamily_name_id = r.name_id; coordinates = r.coordinates }

abbrev pub record_outcome : Result Record Refusal → Outcome InstanceRecord
record_outcome r = outcome_as record_of r
