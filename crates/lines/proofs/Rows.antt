-- One region of a row, with the scalar from a list, by which of its bytes are there. Assumes nothing.
use Prim.Native.Nat.{ℕ, zero, suc, ◌+◌, ◌*◌, ◌≤◌, ◌<◌}
use mathlib.Core.Path.{◌≡◌, refl, ap, sym, ◌∙◌}
use mathlib.Core.Bool.{Bool, true, false, cond}
use mathlib.Core.List.{List, []}
use native.Mathlib.Omega.{arith}
use borrow.Author.Tests.{lt-ltb, le-ltb, ltb-true}
use Rattle.std.proofs.lemmas.List.{get_or_default}
use lib.Dec.{ltb}
use lib.IntN.{ℤ, pos, negsuc, ◌+ℤ◌, ◌*ℤ◌}
use lib.ListN.{length, get_or, take}
use lib.Seq.{get_or-take}
use mir.Syntax.{w8, w16, w32}
use mir.Val.{SFits, to_z, of_z}
use mir.ValLaws.{to_z-of_z}
use Rattle.numbers.specs.Numbers.{wrap32}
use Rattle.readers.specs.Outcome.{Outcome, value, refused}
use Rattle.readers.specs.Reading.{Reading, answer, refuse, ◌>>=◌, unsigned_at, signed_at, big_endian, run}
use Rattle.readers.proofs.Bytes.{present, missing}
use Rattle.readers.proofs.Passed.{bytes_there, test_held, answer_is}
use Rattle.store.proofs.SameParts.{Alike, Same, row_same}
use Rattle.std.specs.Prelude.{Result, IsErr, IsErrAnd}
use Rattle.numbers.specs.declared.Fixed.{Fixed}
use Rattle.readers.specs.Answers.{refusal, outcome_fixed}
use Rattle.readers.specs.declared.Refusal.{Refusal}
use Rattle.readers.proofs.Reading.{run_nested, went_on_call, stopped_call, passed, failed, answered, declined}
use Rattle.opentype.specs.Item.{Row, Item, region_index_at, delta_at, row_turn, row_sum}
use Rattle.opentype.specs.Footprint.{Part}
use Rattle.opentype.specs.Lines.{known, scalar_from}
use Rattle.lines.specs.declared.item.Row as Code
use Rattle.lines.specs.LinesAnswers.{row_from, named_scalar, entry_end}

-- The row that the code's has.
abbrev pub row_of : Code.Row → Row
row_of r = row_from r.indexes r.count r.word_count r.start

-- ---- an entry

module _ (font : List ℕ) (words p k : ℕ) where
  pub word_there : k < words → p + 2 * k + 2 ≤ length font → value (to_z w16 (big_endian 2 font (p + 2 * k))) ≡ run font (delta_at words p k)
  unfolding delta_at signed_at unsigned_at
  word_there h there = rw (lt-ltb k words h) (present 2 font (p + 2 * k) _ _ there (answered font _))

  pub byte_there : words ≤ k → p + (words + k) + 1 ≤ length font → value (to_z w8 (big_endian 1 font (p + (words + k)))) ≡ run font (delta_at words p k)
  unfolding delta_at signed_at unsigned_at
  byte_there h there = rw (le-ltb k words h) (present 1 font (p + (words + k)) _ _ there (answered font _))

  pub entry_missing : {A : Type 0} (f : ℤ → Reading A) → length font < entry_end words p k → refused 2 ≡ run font (delta_at words p k >>= f)
  unfolding delta_at signed_at unsigned_at
  entry_missing f h = go (ltb k words) refl
    where
      go : (t : Bool) → ltb k words ≡ t → refused 2 ≡ run font (delta_at words p k >>= f)
      go true e = let short = rw e at h in rw e (missing 2 font (p + 2 * k) _ (omega arith))
      go false e = let short = rw e at h in rw e (missing 1 font (p + (words + k)) _ (omega arith))

  -- The end of a row is the end of each entry at the latest.
  pub entry_before : (count : ℕ) → k < count → words ≤ count → entry_end words p k ≤ p + (count + words)
  entry_before count h l = go (ltb k words) refl
    where
      go : (t : Bool) → ltb k words ≡ t → p + cond t (2 * k + 2) (words + k + 1) ≤ p + (count + words)
      go true e = omega (arith, ltb-true k words e)
      go false e = omega arith

-- ---- a number of the list

module _ (z : ℤ) (fits : SFits w32 z) where
  pub mark_refused : of_z w32 z ≡ 4294967295 → known z ≡ refuse 2
  mark_refused e = let m : z ≡ negsuc 0 = sym (to_z-of_z w32 z fits) ∙ ap (to_z w32) e in rw m

pub no_mark : (z : ℤ) → (of_z w32 z ≡ 4294967295 → ⊥) → known z ≡ answer z
no_mark (pos n) h = refl
no_mark (negsuc zero) h = absurd (h refl)
no_mark (negsuc (suc n)) h = refl

-- ---- the scalar that a region index names

module _ (font : List ℕ) (scalars : List ℤ) (p region : ℕ) (there : p + 2 ≤ length font) (is : region ≡ big_endian 2 font p) where
  pub index_large : length scalars ≤ region → refused 3 ≡ run font (named_scalar scalars p)
  unfolding region_index_at unsigned_at
  index_large h = present 2 font p _ _ there (rw (← is) (failed font _ 3 _ (le-ltb region (length scalars) h)))

  module _ (below : region < length scalars) (z : ℤ) (kept : z ≡ get_or scalars region z) where
    named : (w : Outcome ℤ) → w ≡ run font (known z) → w ≡ run font (named_scalar scalars p)
    unfolding region_index_at unsigned_at
    named w e = present 2 font p _ _ there (rw (← is) (passed font _ 3 _ _ (lt-ltb region (length scalars) below) (rw (← (kept ∙ get_or_default scalars region z (pos 0) below)) e)))

    pub marked : SFits w32 z → of_z w32 z ≡ 4294967295 → refused 2 ≡ run font (named_scalar scalars p)
    marked fits e = named _ (rw (mark_refused z fits e) (declined font 2))

    pub found : (of_z w32 z ≡ 4294967295 → ⊥) → value z ≡ run font (named_scalar scalars p)
    found h = named _ (rw (no_mark z h) (answered font z))

-- ---- one region of a row

module _ (font : List ℕ) (scalars : List ℤ) (row : Row) (k : ℕ) (sum : ℤ) (onward : ℤ → Reading ℤ) where
  abbrev at : ℕ
  at = row.region_indexes + 2 * k

  abbrev turn : Reading ℤ
  turn = row_turn (scalar_from scalars) (length scalars) row k sum onward

  -- What is left once the scalar is known.
  abbrev entered : ℤ → Reading ℤ
  entered scalar = delta_at row.word_delta_count row.start k >>= λ delta. onward (wrap32 (sum +ℤ scalar *ℤ delta))

  pub index_cut : length font < at + 2 → refused 2 ≡ run font turn
  unfolding row_turn region_index_at unsigned_at
  index_cut h = missing 2 font at _ h

  pub scalar_stops : (r : Result Fixed Refusal) (n : Refusal) → IsErr r × IsErrAnd r (λ e. e ≡ n) → refusal n ≡ run font (named_scalar scalars at) → outcome_fixed r ≡ run font turn
  unfolding row_turn
  scalar_stops r n h e = stopped_call font (named_scalar scalars at) entered (λ x. x.0) r n h e ∙ run_nested font (region_index_at (length scalars) at) (scalar_from scalars) entered

  module _ (scalar : ℤ) (named : value scalar ≡ run font (named_scalar scalars at)) where
    took : (w : Outcome ℤ) → w ≡ run font (entered scalar) → w ≡ run font turn
    unfolding row_turn
    took w e = went_on_call font (named_scalar scalars at) entered w named e ∙ run_nested font (region_index_at (length scalars) at) (scalar_from scalars) entered

    pub entry_cut : length font < entry_end row.word_delta_count row.start k → refused 2 ≡ run font turn
    entry_cut h = took _ (entry_missing font row.word_delta_count row.start k (λ delta. onward (wrap32 (sum +ℤ scalar *ℤ delta))) h)

    pub turned : (delta : ℤ) (w : Outcome ℤ) → value delta ≡ run font (delta_at row.word_delta_count row.start k) → w ≡ run font (onward (wrap32 (sum +ℤ scalar *ℤ delta))) → w ≡ run font turn
    turned delta w d e = took w (went_on_call font (delta_at row.word_delta_count row.start k) (λ delta. onward (wrap32 (sum +ℤ scalar *ℤ delta))) w d e)

-- ---- a row with the list cut to a number for each region

-- A region index that was answered is below the count.
pub index_below : (font : List ℕ) (count p region : ℕ) → run font (region_index_at count p) ≡ value region → region < count
unfolding region_index_at unsigned_at
index_below font count p region e =
    let read = (bytes_there font 2 p _ region e).1 in
    let held = test_held font _ _ _ region read in
    let same : big_endian 2 font p ≡ region = answer_is font _ region held.1 in
    rw same at (ltb-true (big_endian 2 font p) count held.0)

-- A font and coordinates are alike with themselves.
pub itself : (font : List ℕ) (coords : List ℤ) (parts : List Part) → Alike font font coords coords parts
itself font coords parts = record { over = λ j e. refl; on = λ axis e. refl }

pub cut_list : (font : List ℕ) (scalars : List ℤ) (n : ℕ) (row : Row) → run font (row_sum (scalar_from (take n scalars)) n row) ≡ run font (row_sum (scalar_from scalars) n row)
unfolding Same
cut_list font scalars n row =
    let item : Item = record { regions = record { start = 0; axis_count = 0; region_count = n }; row = row } in
    let same = row_same font font [] [] refl item (scalar_from (take n scalars)) (scalar_from scalars)
    (λ region k rest names _. ap (λ (z : ℤ). run font (known z)) (get_or-take n scalars region (pos 0) (index_below font _ _ region names))) (itself font [] _) in
    same.0
