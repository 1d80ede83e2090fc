-- Instances: what the record's outcome says of the values, and what the values' outcome says of their count, from what the call ensures and the case that its answer was. Assumes nothing.
use Prim.Native.Nat.{ℕ, ◌+◌, ◌-◌, ◌*◌, ◌≤◌, ◌<◌}
use mathlib.Core.Path.{◌≡◌, refl, ap, sym, ◌∙◌}
use mathlib.Core.List.{List}
use native.Mathlib.Nat.{add-sub_cancel_left}
use borrow.Author.Tests.{le-leb, lt-leb}
use lib.Dec.{leb, ltb}
use lib.ListN.{length, take, drop}
use Rattle.std.specs.Prelude.{Result, Ok, Err}
use Rattle.readers.specs.Outcome.{value, refused}
use Rattle.readers.specs.Reading.{big_endian, unsigned_at, run}
use Rattle.readers.specs.Answers.{refusal}
use Rattle.readers.specs.declared.Refusal.{Refusal}
use Rattle.readers.proofs.Outcome.{halt_by}
use Rattle.readers.proofs.Reading.{answered}
use Rattle.readers.proofs.Passed.{test_held, bytes_there}
use Rattle.opentype.specs.Fvar.{Header, InstanceRecord, instance_start, instance_record, instance_values}
use Rattle.opentype.specs.Values.{float_count}
use Rattle.axes.specs.FvarAnswers.{record_of, record_outcome}
use Rattle.axes.specs.declared.fvar.Record.{Record}

module _ (table : List ℕ) (header : Header) (j : ℕ) {a : Result Record Refusal} (p : record_outcome a ≡ run table (instance_record header j)) where
  module _ {r : Record} (q : a ≡ Ok r) where
    held : run table (instance_record header j) ≡ value (record_of r)
    held = sym p ∙ ap record_outcome q

    -- The values lie in the table, from the record's start + 4 on.
    pub values_there : (r.coordinates ≡ instance_start header j + 4) × (instance_start header j + 4 + 4 * header.axis_count ≤ length table)
    unfolding instance_record unsigned_at
    values_there =
        let start = instance_start header j in
        let named = (bytes_there table 2 start _ (record_of r) (test_held table (ltb j header.instance_count) 3 _ (record_of r) held).1).1 in
        let valued = bytes_there table (4 * header.axis_count) (start + 4) _ (record_of r) (bytes_there table 1 (start + 4) _ (record_of r) named).1 in
        let whole : value (record { subfamily_name_id = big_endian 2 table start; coordinates = start + 4 }) ≡ value (record_of r) =
        answered table _ ∙ (test_held table (leb 2 header.instance_size) 5 _ (record_of r) valued.1).1 in
        let same : record_of r ≡ record { subfamily_name_id = big_endian 2 table start; coordinates = start + 4 } = cc in
        (ap (λ (x : InstanceRecord). x.coordinates) same, valued.0)

    -- As the code cuts them: from `coordinates` to `coordinates` + 4 · axis count.
    pub values_part : value (take (r.coordinates + 4 * header.axis_count - r.coordinates) (drop r.coordinates table)) ≡ instance_values table header j
    unfolding instance_values
    values_part = rw (held, add-sub_cancel_left r.coordinates (4 * header.axis_count))

  pub values_refused : {n : Refusal} → a ≡ Err n → refusal n ≡ instance_values table header j
  unfolding instance_values
  values_refused q = halt_by record_outcome _ _ p q refl

module _ (table : List ℕ) (header : Header) (j : ℕ) (room : ℕ) {part : List ℕ} (p : value part ≡ instance_values table header j) where
  pub floats_counted : header.axis_count ≤ room → value header.axis_count ≡ float_count table header j room
  unfolding float_count
  floats_counted h = rw (← p, le-leb header.axis_count room h)

  pub floats_short : room < header.axis_count → refused 7 ≡ float_count table header j room
  unfolding float_count
  floats_short h = rw (← p, lt-leb header.axis_count room h)

pub floats_refused : (table : List ℕ) (header : Header) (j room : ℕ) {n : ℕ} → refused n ≡ instance_values table header j → refused n ≡ float_count table header j room
unfolding float_count
floats_refused table header j room p = rw (← p)
