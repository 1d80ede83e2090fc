-- What the structs and answers of `mvar` stand for.
use Rattle.std.specs.Prelude.{ℕ, ◌+◌, ◌<◌, ◌≡◌, List, ℤ, length, Result, IfOk}
use Rattle.std.specs.Borrow.{Bor}
use Rattle.readers.specs.Outcome.{Outcome}
use Rattle.readers.specs.Answers.{outcome_as}
use Rattle.readers.specs.declared.Refusal.{Refusal}
use Rattle.opentype.specs.Mvar as Mvar
use Rattle.opentype.specs.Mvar.{Opened, opened}
use Rattle.store.specs.declared.mvar.Header.{Header}
use Rattle.store.specs.declared.mvar.Mvar.{Mvar}

abbrev pub header_of : ℕ → ℕ → ℕ → Mvar.Header
header_of size count store = record { value_record_size = size; value_record_count = count; item_variation_store_offset = store }

abbrev pub numbers_of : Header → Mvar.Header
numbers_of h = header_of h.rec_size h.rec_count h.store

abbrev pub header_outcome : Result Header Refusal → Outcome Mvar.Header
header_outcome r = outcome_as numbers_of r

-- What an opened MVAR holds, by its parts.
abbrev pub opened_as : List ℕ → List ℤ → ℕ → ℕ → ℕ → Opened
opened_as table coords size count store = record { table = table; coords = coords; header = header_of size count store }

abbrev pub opened_of : Mvar → Opened
opened_of m = opened_as m.«data».now m.coords.now m.rec_size m.rec_count m.store

-- A part lies in the whole, n elements from its start; where an empty one lies is not said.
abbrev pub lies_at : {A : Type 0} → Bor (List A) → Bor (List A) → ℕ → Type 0
lies_at part whole n = 0 < length part.now → (part.ref_ptr.0 ≡ whole.ref_ptr.0) × (part.ref_ptr.1 ≡ whole.ref_ptr.1 + n)

-- What opening promises of the MVAR that it answers: what it holds, or the refusal; and where its two parts lie.
abbrev pub Opens : Bor (List ℕ) → ℕ → Bor (List ℤ) → Result Mvar Refusal → Type 0
Opens font start coords answer =
    (outcome_as opened_of answer ≡ opened font.now start coords.now)
    × IfOk answer (λ mvar. lies_at mvar.«data» font start × lies_at mvar.coords coords 0)
