-- No second answer: for each public function of `fvar`, two answers that its contract allows are the same, and so is what it leaves in a lent list. Assumes nothing.
use Prim.Native.Nat.{ℕ}
use mathlib.Core.Path.{◌≡◌, refl, ap, sym, ◌∙◌}
use mathlib.Core.List.{List}
use Rattle.std.specs.Prelude.{Result, Ok, Err, Option, Some, None, IfOk}
use denote.Ref.{Bor}
use Rattle.numbers.specs.One.{One, OneSeen, ◌and◌}
use Rattle.readers.specs.Outcome.{Outcome, value, refused}
use Rattle.readers.specs.Answers.{number_of, outcome_as}
use Rattle.readers.specs.declared.Refusal.{Refusal}
use Rattle.readers.proofs.One.{one_as, one_plain, one_fixed}
use Rattle.opentype.specs.Axis.{Axis}
use Rattle.opentype.specs.Fvar.{Header, NameID, absent, named, Instance}
use Rattle.axes.specs.AxisAnswers.{axis_of}
use Rattle.axes.specs.FvarAnswers.{header, axis_outcome, name_of, instance_of, instance_outcome}
use Rattle.axes.specs.declared.axis.VarAxis.{VarAxis}
use Rattle.axes.specs.declared.fvar.Fvar.{Fvar}
use Rattle.axes.specs.declared.fvar.VarInstance.{VarInstance}
use Rattle.axes.proofs.fvar.Fvar.new.Reads as new
use Rattle.axes.proofs.fvar.Fvar.get_axis.Reads as get-axis
use Rattle.axes.proofs.fvar.Fvar.get_axis_by_tag.Reads as get-axis-by-tag
use Rattle.axes.proofs.fvar.Fvar.find_by_tag.Reads as find-by-tag
use Rattle.axes.proofs.fvar.Fvar.get_instance.Reads as get-instance
use Rattle.axes.proofs.fvar.Fvar.instance_values.Reads as instance-values
use Rattle.axes.proofs.fvar.Fvar.instance_floats.Reads as instance-floats
use Rattle.axes.proofs.fvar.instance_value.Reads as instance-value

-- Each of the code's types from what it stands for.
fvar_of : Header → Fvar
fvar_of h = record {
  axis_offset = h.axes_array_offset;
  axis_count = h.axis_count;
  axis_size = h.axis_size;
  inst_count = h.instance_count;
  inst_size = h.instance_size;
}

pub one_header : {h : Header} {f f' : Fvar} → header f ≡ h → header f' ≡ h → f ≡ f'
unfolding fvar_of
one_header p q = ap fvar_of (p ∙ sym q)

abbrev var_axis : Axis → VarAxis
var_axis a = record {
  index = a.index;
  tag = a.axis_tag;
  name_id = a.axis_name_id;
  flags = a.flags;
  min = record { 0 = a.min_value };
  default = record { 0 = a.default_value };
  max = record { 0 = a.max_value };
}

pub one_axis : {d : Outcome Axis} {r r' : Result VarAxis Refusal} → axis_outcome r ≡ d → axis_outcome r' ≡ d → r ≡ r'
one_axis p q = one_as axis_of var_axis (λ a. refl) p q

abbrev name_id : NameID → Option ℕ
name_id absent = None
name_id (named id) = Some id

name_back : (n : Option ℕ) → name_id (name_of n) ≡ n
name_back None = refl
name_back (Some id) = refl

abbrev var_instance : Instance → VarInstance
var_instance v = record { index = v.index; name_id = v.subfamily_name_id; postscript_name_id = name_id v.post_script_name_id }

back_instance : (v : VarInstance) → var_instance (instance_of v) ≡ v
back_instance v = ap (λ (n : Option ℕ). record { index = v.index; name_id = v.name_id; postscript_name_id = n }) (name_back v.postscript_name_id)

pub one_instance : {d : Outcome Instance} {r r' : Result VarInstance Refusal} → instance_outcome r ≡ d → instance_outcome r' ≡ d → r ≡ r'
one_instance p q = one_as instance_of var_instance back_instance p q

pub new_one : One new.Post
new_one κs a r r' s s' p q = one_header p q

pub get_axis_one : One get-axis.Post
get_axis_one κs a r r' s s' p q = one_axis p q

pub get_axis_by_tag_one : One get-axis-by-tag.Post
get_axis_by_tag_one κs a r r' s s' p q = one_axis p q

pub find_by_tag_one : One find-by-tag.Post
find_by_tag_one κs a r r' s s' p q = one_axis p q

pub get_instance_one : One get-instance.Post
get_instance_one κs a r r' s s' p q = one_instance p q

pub instance_value_one : One instance-value.Post
instance_value_one κs a r r' s s' p q = one_fixed p q

-- Of a part: what it holds and where it lies; of a refusal, which it is.
same_part : {d : Outcome (List ℕ)} (b n : ℕ) (r r' : Result (Bor (List ℕ)) Refusal) → outcome_as (λ v. v.now) r ≡ d → outcome_as (λ v. v.now) r' ≡ d
    → IfOk r (λ v. (v.ref_ptr.0 ≡ b) × (v.ref_ptr.1 ≡ n)) → IfOk r' (λ v. (v.ref_ptr.0 ≡ b) × (v.ref_ptr.1 ≡ n))
    → outcome_as (λ v. v.now and v.ref_ptr) r ≡ outcome_as (λ v. v.now and v.ref_ptr) r'
same_part b n (Ok v) (Ok w) p q h k =
    let same : v.now ≡ w.now = cc in
    λ i. value (same i and ((h.0 ∙ sym k.0) i, (h.1 ∙ sym k.1) i))
same_part b n (Ok v) (Err m) p q h k = cc
same_part b n (Err m) (Ok w) p q h k = cc
same_part b n (Err m) (Err m') p q h k = let same : number_of m ≡ number_of m' = cc in ap refused same

pub instance_values_one : OneSeen instance-values.Post (λ r s. outcome_as (λ v. v.now and v.ref_ptr) r)
instance_values_one κs a r r' s s' p q = same_part _ _ r r' p.0 q.0 p.1 q.1

pub instance_floats_one : OneSeen instance-floats.Post (λ r s. r and s.1.1.1.0.now)
instance_floats_one κs a r r' s s' p q = let same : r ≡ r' = one_plain p.0 q.0 in cc
