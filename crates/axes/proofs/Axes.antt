-- Axes: whole or cut by their position alone, and the tag search over them. Assumes nothing.
use Prim.Native.Nat.{ℕ, zero, suc, ◌+◌, ◌-◌, ◌*◌, ◌≤◌, ◌<◌}
use mathlib.Core.Path.{◌≡◌, refl, ap, sym, ◌∙◌}
use mathlib.Core.Bool.{Bool, true, false, ◌&&◌, true≢false}
use mathlib.Core.Logic.{◌≢◌}
use mathlib.Core.List.{List}
use native.Mathlib.Nat.{mul-le-mul_right}
use native.Mathlib.Omega.{arith}
use borrow.Author.Tests.{lt-leb, lt-ltb, eq-eqb, ne_eqb, eqb-true, eqb-false, ltb-true, leb-true, leb-false}
use lib.Dec.{eqb, leb, ltb}
use lib.ListN.{length}
use mir.Syntax.{w32}
use mir.Val.{to_z}
use Rattle.std.specs.Prelude.{Result, Ok, Err}
use Rattle.std.specs.Result.{result_eq, result_or}
use Rattle.readers.specs.Answers.{number_of, outcome}
use Rattle.readers.specs.declared.Refusal.{Refusal}
use Rattle.readers.specs.declared.Refusal.TheVariants.{Tag}
use Rattle.readers.specs.Outcome.{Outcome, value, refused, unless}
use Rattle.readers.specs.Reading.{Done, done, big_endian, unsigned_at, signed_at, run}
use Rattle.readers.specs.Walk.{turns, walk}
use Rattle.readers.proofs.Bytes.{present, missing, whole}
use Rattle.readers.proofs.Reading.{answered}
use Rattle.opentype.specs.Axis.{Axis}
use Rattle.axes.specs.AxisAnswers.{axis_of}
use Rattle.axes.specs.FvarAnswers.{axis_outcome}
use Rattle.axes.specs.declared.axis.VarAxis.{VarAxis}
use Rattle.opentype.specs.Fvar.{Header, axis_record, axis, matches, tag_turn}
use Rattle.readers.proofs.Passed.{cut_later, test_held}
use Rattle.readers.proofs.Walk.{walk_more}

-- Whether an outcome is a value.
abbrev pub readable : {A : Type 0} → Outcome A → Bool
readable (value a) = true
readable (refused n) = false

pub unreadable_misses : (tag : ℕ) (o : Outcome Axis) → readable o ≡ false → matches o tag ≡ false
unfolding matches
unreadable_misses tag (value a) e = absurd (true≢false e)
unreadable_misses tag (refused n) e = refl

module _ (table : List ℕ) (i p : ℕ) where
  -- What the twenty bytes at p make.
  abbrev pub axis_in : Axis
  axis_in = record {
    index = i;
    axis_tag = big_endian 4 table p;
    min_value = to_z w32 (big_endian 4 table (p + 4));
    default_value = to_z w32 (big_endian 4 table (p + 8));
    max_value = to_z w32 (big_endian 4 table (p + 12));
    flags = big_endian 2 table (p + 16);
    axis_name_id = big_endian 2 table (p + 18);
  }

  -- An axis is there where its last byte is, and refused by 2 where that is not.
  pub axis_whole : p + 20 ≤ length table → value axis_in ≡ run table (axis_record i p)
  unfolding axis_record unsigned_at signed_at
  axis_whole h =
      present 4 table p _ _ (omega arith)
      (present 4 table (p + 4) _ _ (omega arith)
      (present 4 table (p + 8) _ _ (omega arith)
      (present 4 table (p + 12) _ _ (omega arith)
      (present 2 table (p + 16) _ _ (omega arith)
      (present 2 table (p + 18) _ _ (omega arith) (answered _ _))))))

  pub axis_cut : length table < p + 20 → run table (axis_record i p) ≡ refused 2
  unfolding axis_record unsigned_at signed_at
  axis_cut h =
      cut_later table 4 p _ λ tag.
      cut_later table 4 (p + 4) _ λ min.
      cut_later table 4 (p + 8) _ λ default.
      cut_later table 4 (p + 12) _ λ max.
      cut_later table 2 (p + 16) _ λ flags.
      sym (missing 2 table (p + 18) _ (omega arith))

  record_readable : readable (run table (axis_record i p)) ≡ leb (p + 20) (length table)
  record_readable = go (leb (p + 20) (length table)) refl
    where
      go : (t : Bool) → leb (p + 20) (length table) ≡ t → readable (run table (axis_record i p)) ≡ t
      go true e = ap readable (sym (axis_whole (leb-true (p + 20) (length table) e)))
      go false e = ap readable (axis_cut (leb-false (p + 20) (length table) e))

  -- The tag of an axis that is there is what its first four bytes make.
  record_tag : (a : Axis) → run table (axis_record i p) ≡ value a → run table (unsigned_at 4 p) ≡ value a.axis_tag
  record_tag a e = go (leb (p + 20) (length table)) refl
    where
      go : (t : Bool) → leb (p + 20) (length table) ≡ t → run table (unsigned_at 4 p) ≡ value a.axis_tag
      go true h =
          let b = leb-true (p + 20) (length table) h in
          let e' = axis_whole b ∙ e in
          let same : axis_in ≡ a = cc in
          rw (← same) (sym (whole 4 table p _ (omega arith) refl))
      go false h = let clash = sym (axis_cut (leb-false (p + 20) (length table) h)) ∙ e in cc

module _ (table : List ℕ) (header : Header) where
  abbrev pub axis_start : ℕ → ℕ
  axis_start i = header.axes_array_offset + i * header.axis_size

  axis_readable : (i : ℕ) → readable (run table (axis header i)) ≡ ltb i header.axis_count && leb (axis_start i + 20) (length table)
  unfolding axis run
  axis_readable i = go (ltb i header.axis_count)
    where
      go : (t : Bool) → readable (unless t 3 (run table (axis_record i (axis_start i)))) ≡ t && leb (axis_start i + 20) (length table)
      go true = record_readable table i (axis_start i)
      go false = refl

  -- No holes: an axis that cannot be read has no readable axis after it, since positions never fall.
  pub no_holes : (i j : ℕ) → i ≤ j → readable (run table (axis header i)) ≡ false → readable (run table (axis header j)) ≡ false
  no_holes i j h e = axis_readable j ∙ go (ltb j header.axis_count) refl (sym (axis_readable i) ∙ e)
    where
      go : (t : Bool) → ltb j header.axis_count ≡ t → ltb i header.axis_count && leb (axis_start i + 20) (length table) ≡ false
          → t && leb (axis_start j + 20) (length table) ≡ false
      go true b f =
          let below : j < header.axis_count = ltb-true j header.axis_count b in
          let cut : leb (axis_start i + 20) (length table) ≡ false = rw (lt-ltb i header.axis_count (omega arith)) at f in
          lt-leb (axis_start j + 20) (length table) (omega (arith, leb-false (axis_start i + 20) (length table) cut, mul-le-mul_right header.axis_size h))
      go false b f = refl

  axis_tag_read : (i : ℕ) (a : Axis) → run table (axis header i) ≡ value a → run table (unsigned_at 4 (axis_start i)) ≡ value a.axis_tag
  unfolding axis
  axis_tag_read i a e = record_tag table i (axis_start i) a (test_held table (ltb i header.axis_count) 3 (axis_record i (axis_start i)) a e).1

  pub axis_tag_lem : (i : ℕ) (a : Axis) (t : ℕ) → run table (axis header i) ≡ value a → value t ≡ run table (unsigned_at 4 (axis_start i)) → a.axis_tag ≡ t
  axis_tag_lem i a t e h = let same = h ∙ axis_tag_read i a e in cc

  module _ (tag i : ℕ) where
    -- One turn of the search: at an axis that matches it ends, past another it goes on.
    pub tag_hit : (d : Done) (next : Done → Outcome Axis) (a : Axis) → run table (axis header i) ≡ value a → a.axis_tag ≡ tag → value a ≡ tag_turn table header tag i d next
    unfolding tag_turn matches
    tag_hit d next a e h = rw (e, eq-eqb a.axis_tag tag h)

    pub tag_miss : (d : Done) (next : Done → Outcome Axis) → matches (run table (axis header i)) tag ≡ false → next d ≡ tag_turn table header tag i d next
    unfolding tag_turn
    tag_miss d next e = rw e

    pub other_misses : (a : Axis) → run table (axis header i) ≡ value a → a.axis_tag ≢ tag → matches (run table (axis header i)) tag ≡ false
    unfolding matches
    other_misses a e h = rw (e, ne_eqb a.axis_tag tag h)

    no_match : (r : Outcome Axis) → ((a : Axis) → r ≡ value a → a.axis_tag ≢ tag) → matches r tag ≡ false
    unfolding matches
    no_match (value a) h = ne_eqb a.axis_tag tag (h a refl)
    no_match (refused n) h = refl

    -- From a read of the tag's four bytes alone: another tag, or none.
    pub tag_other : (t : ℕ) → value t ≡ run table (unsigned_at 4 (axis_start i)) → t ≢ tag → matches (run table (axis header i)) tag ≡ false
    tag_other t e h = no_match (run table (axis header i)) (λ a q s. h (sym (axis_tag_lem i a t q e) ∙ s))

    pub tag_gone : (n : ℕ) → refused n ≡ run table (unsigned_at 4 (axis_start i)) → matches (run table (axis header i)) tag ≡ false
    tag_gone n e = no_match (run table (axis header i)) (λ a q s. true≢false (ap readable (sym (axis_tag_read i a q) ∙ sym e)))

    -- The same of the code's test of what it read.
    pub tag_same : (e : Refusal → Refusal → Bool) (r : Result ℕ Refusal) → outcome r ≡ run table (unsigned_at 4 (axis_start i)) → result_eq eqb e r (Ok tag) ≡ true → value tag ≡ run table (unsigned_at 4 (axis_start i))
    tag_same e (Ok t) p q = rw (← eqb-true t tag q) p
    tag_same e (Err n) p q = absurd (true≢false (sym q))

    pub tag_differs : (e : Refusal → Refusal → Bool) (r : Result ℕ Refusal) → outcome r ≡ run table (unsigned_at 4 (axis_start i)) → result_eq eqb e r (Ok tag) ≡ false → matches (run table (axis header i)) tag ≡ false
    tag_differs e (Ok t) p q = tag_other t p (eqb-false t tag q)
    tag_differs e (Err n) p q = tag_gone (number_of n) p

  -- Where the axis at i is cut, the search from i on finds nothing.
  none_after : (tag k i : ℕ) (d : Done) → readable (run table (axis header i)) ≡ false → turns (tag_turn table header tag) (λ d. refused 4) k i d ≡ refused 4
  unfolding turns
  none_after tag zero i d e = refl
  none_after tag (suc k) i d e = sym (tag_miss tag i d _ (unreadable_misses tag (run table (axis header i)) e)) ∙ none_after tag k (i + 1) d (no_holes i (i + 1) (omega arith) e)

  pub search_ends : (tag i : ℕ) (d : Done) → readable (run table (axis header i)) ≡ false → walk (tag_turn table header tag) (λ d. refused 4) header.axis_count i d ≡ refused 4
  unfolding walk
  search_ends tag i d e = none_after tag (header.axis_count - i) i d e

  -- What the code answers at an axis whose four bytes match: the axis, or 4 where the rest of it is cut.
  pub found_or : (tag i : ℕ) → i < header.axis_count → (r : Result VarAxis Refusal) → axis_outcome r ≡ run table (axis header i) → value tag ≡ run table (unsigned_at 4 (axis_start i))
      → axis_outcome (result_or r (Err Tag)) ≡ walk (tag_turn table header tag) (λ d. refused 4) header.axis_count i done
  found_or tag i b (Ok a) p same = tag_hit tag i done _ (axis_of a) (sym p) (axis_tag_lem i (axis_of a) tag (sym p) same) ∙ sym (walk_more _ _ _ _ _ b)
  found_or tag i b (Err n) p same = sym (search_ends tag i done (ap readable (sym p)))
