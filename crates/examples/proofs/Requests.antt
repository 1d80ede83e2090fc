-- The numbers of the change requests of document 02: one table under one proof, a field for each request, computed by the definitions that the contracts cite. Assumes nothing.
use mathlib.Core.Path.{◌≡◌, refl}
use mathlib.Core.List.{List, [], ◌∷◌, ◌++◌}
use Prim.Native.Nat.{ℕ}
use lib.ListN.{take}
use lib.IntN.{ℤ, pos, negsuc}
use lib.Ieee.{Float}
use Rattle.numbers.specs.Numbers.{wrap32, over, times_over}
use Rattle.readers.specs.Outcome.{value, refused}
use Rattle.readers.specs.Reading.{run, unsigned_at}
use Rattle.opentype.specs.Fvar.{absent, named}
use Rattle.opentype.specs.Item.{item_delta}
use Rattle.opentype.specs.Metric.{advance, bearing, metric_delta, float_of}
use Rattle.opentype.specs.Mvar.{mvar_delta}
use Rattle.opentype.specs.MvarTags.{hasc, hdsc}
use Rattle.opentype.specs.Lines.{fill_count, filled, item_delta_with, metric_delta_with, mvar_store, mvar_delta_with}
use Rattle.opentype.specs.Xmtx.{advance_at, sb_at}
use Rattle.opentype.specs.Vorg.{origin_at}
use Rattle.opentype.specs.Footprint.{bytes, metric_footprint}
use Rattle.opentype.proofs.ItemCount.{uncounted_row, uncounted_item, uncounted_delta}
use Rattle.opentype.proofs.DeltaTable.{s5_font, with_byte, two_maps, one_row, two_words}
use Rattle.opentype.proofs.MvarTable.{sorted}
use Rattle.opentype.proofs.FootprintTable.{footing}
use Rattle.opentype.proofs.LinesTable.{lining, ending, left_outside, run_out, mvar_list}
use Rattle.opentype.proofs.XmtxTable.{origins}
use Rattle.opentype.proofs.InstanceTable.{computing_instances, no_axes, one_axis_of, one_axis, asked, names}
use Rattle.metrics.proofs.MeasuresTable.{computing_measures}
use Rattle.widths.specs.Adjusted.{adjusted_at, adjusted_footprint}
use Rattle.widths.proofs.Table.{reading, s1_hmtx}
use Rattle.examples.proofs.Written.{negative, float}
use Rattle.examples.proofs.Table.{delta}

-- H1's font with a map for bearings, whose one entry leads to row 2. Its subtable, at 44, says that it has two rows of its three.
abbrev two_of_three : List ℕ
two_of_three = with_byte 45 2 two_maps

-- An MVAR at 2; its first subtable, at 56, says that it has one row of its two.
abbrev one_of_two : List ℕ
one_of_two = with_byte 57 1 sorted

-- 2.0
abbrev two : Float
two = float 0x4000_0000

-- Three places that hold 7.
abbrev sevens : List ℤ
sevens = pos 7 ∷ pos 7 ∷ pos 7 ∷ []

-- -2^31.
abbrev least : ℤ
least = negative 2147483648

pub record Requests : Type 0 where
  -- A row outside the item count is an index that is too large: refusal 3, after 5.
  pub W-201 :
      (coords : List ℤ)
      -- One row and a byte behind it, 52 bytes: glyph 1 had that byte, 5, as its delta; glyph 0 has the row, as before.
      → (run one_row (uncounted_delta coords 20 0 1) ≡ value (pos 327680))
      × (delta one_row 1 coords ≡ refused 3)
      × (delta one_row 65535 coords ≡ refused 3)
      × (delta one_row 0 coords ≡ value (pos 6553600))
      -- The same by its store, and as a float.
      × (item_delta one_row 20 0 1 coords ≡ refused 3)
      × (float_of (delta one_row 1 coords) ≡ float 0)
      -- A word count that is too large comes first.
      × (delta two_words 1 coords ≡ refused 5)
      -- No regions, so that a row has no bytes: there are no more rows for that.
      × (delta s5_font 1 coords ≡ refused 3)
      -- No rows.
      × (delta (with_byte 43 0 one_row) 0 coords ≡ refused 3)
      -- Through a map, for an advance and for a bearing.
      × (delta two_of_three 1 coords ≡ value (pos 720896))
      × (delta two_of_three 2 coords ≡ refused 3)
      × (metric_delta two_of_three 4 bearing 0 coords ≡ refused 3)
      -- By an MVAR's record: inner 1 of the first subtable; inner 0 of the second, as long as that has a row.
      × (mvar_delta one_of_two 2 hasc coords ≡ refused 3)
      × (mvar_delta one_of_two 2 hdsc (pos 16384 ∷ []) ≡ value (negative 6553600))
      × (mvar_delta (with_byte 67 0 sorted) 2 hdsc coords ≡ refused 3)
  -- Widths from the font: hmtx or vmtx, VORG, and the adjusted width from one call. s1_hmtx is S1's font, with HVAR at 4, and behind it, at 51, an hmtx: two long records, 500 with -10 and 65535 with 20, then the bearings 30 and
  -- -40. origins has a VORG at 2: the default 880, and records of the glyphs 5, 7 and 9.
  pub W-202 :
      -- "A glyph past the long records has the last advance"; the bearings alone begin with the first such glyph.
      (run s1_hmtx (advance_at 51 2 0) ≡ value 500)
      × (run s1_hmtx (advance_at 51 2 1) ≡ value 65535)
      × (run s1_hmtx (advance_at 51 2 2) ≡ value 65535)
      × (run s1_hmtx (sb_at 51 2 1) ≡ value (pos 20))
      × (run s1_hmtx (sb_at 51 2 2) ≡ value (pos 30))
      × (run s1_hmtx (sb_at 51 2 3) ≡ value (negative 40))
      -- "5 for no long records .., first; 1 for an offset of 0; then 2."
      × (run s1_hmtx (advance_at 0 0 0) ≡ refused 5)
      × (run s1_hmtx (sb_at 0 0 0) ≡ refused 5)
      × (run s1_hmtx (advance_at 0 2 0) ≡ refused 1)
      × (run s1_hmtx (sb_at 51 2 4) ≡ refused 2)
      -- VORG: found, not found, cut; no table.
      × (run origins (origin_at 2 5) ≡ value (pos 10))
      × (run origins (origin_at 2 6) ≡ value (pos 880))
      × (run (take 18 origins) (origin_at 2 9) ≡ refused 2)
      × (run origins (origin_at 0 5) ≡ refused 1)
      -- "The adjusted width then comes from one call": S1 half way up, (500 + 50)·2; at the default 500·2; glyph 1, whose delta is refused, 65535·2; no HVAR. The refusals are the advance's.
      × (adjusted_at s1_hmtx advance 51 2 4 0 (pos 8192 ∷ []) two ≡ value (float 0x4489_8000))
      × (adjusted_at s1_hmtx advance 51 2 4 0 [] two ≡ value (float 0x447a_0000))
      × (adjusted_at s1_hmtx advance 51 2 4 1 (pos 8192 ∷ []) two ≡ value (float 0x47ff_ff00))
      × (adjusted_at s1_hmtx advance 51 2 0 0 (pos 8192 ∷ []) two ≡ value (float 0x447a_0000))
      × (adjusted_at s1_hmtx advance 0 0 4 0 (pos 8192 ∷ []) two ≡ refused 5)
      × (adjusted_at s1_hmtx advance 0 2 4 0 (pos 8192 ∷ []) two ≡ refused 1)
      × (adjusted_at (take 52 s1_hmtx) advance 51 2 4 0 (pos 8192 ∷ []) two ≡ refused 2)
      -- "Its footprint being the delta's and the two bytes of the advance used."
      × (adjusted_footprint s1_hmtx advance 51 2 4 0 ≡ metric_footprint s1_hmtx 4 advance 0 ++ bytes 51 2 ∷ [])
  -- The PostScript name id of an instance. no_axes has one instance, whose name id is 257; its size is given, and what stands behind its first four bytes, at 20. one_axis has two, of ten bytes, at 36 and 46, with the ids 258 and 260; of one_axis_of the last id is given.
  pub W-203 :
      -- "The Rust reads it from the start of the table": 22 bytes, of which those at 4 are the axis offset, 16, that was answered. "OpenType puts it at the end of the instance's own record": 258.
      (run (no_axes 6 (1 ∷ 2 ∷ [])) (unsigned_at 2 4) ≡ value 16)
      × (asked (no_axes 6 (1 ∷ 2 ∷ [])) 0 ≡ names 0 257 (named 258))
      × (asked one_axis 0 ≡ names 0 257 (named 258))
      × (asked one_axis 1 ≡ names 1 259 (named 260))
      -- "0xFFFF says there is none."
      × (asked (no_axes 6 (0xff ∷ 0xff ∷ [])) 0 ≡ names 0 257 absent)
      × (asked (one_axis_of 10 (0xff ∷ 0xff ∷ [])) 1 ≡ names 1 259 absent)
      -- Cut behind the values: the instance answers, without an id.
      × (asked (one_axis_of 10 []) 1 ≡ names 1 259 absent)
      -- Sizes that fit neither form.
      × (asked (no_axes 5 (1 ∷ 2 ∷ [])) 0 ≡ names 0 257 absent)
      × (asked (no_axes 8 (1 ∷ 2 ∷ 3 ∷ 4 ∷ [])) 0 ≡ names 0 257 absent)
      -- "Refusals: none new": 3; 2, also where there are no axes and just four bytes; 5.
      × (asked one_axis 2 ≡ refused 3)
      × (asked (no_axes 6 []) 0 ≡ refused 2)
      × (asked (no_axes 1 (1 ∷ 2 ∷ [])) 0 ≡ refused 5)
  -- A list of scalars, filled once; the deltas that are read with it.
  pub W-204 :
      -- "One 32-bit number per region in a lent list, filled once, with −1 for a region whose record runs out before its scalar is known": below 0 region 1 is left outside in its first triple, and is known.
      (filled ending 20 (negsuc 0 ∷ []) sevens ≡ pos 65536 ∷ pos 0 ∷ pos 7 ∷ [])
      × (filled ending 20 [] sevens ≡ pos 65536 ∷ negsuc 0 ∷ pos 7 ∷ [])
      × (fill_count ending 20 3 ≡ value 2)
      -- "Deltas read from that list must equal those of the present walk for the same font and coordinates, refusals and their order too."
      × (item_delta_with ending 20 1 0 left_outside ≡ item_delta ending 20 1 0 (negsuc 0 ∷ []))
      × (item_delta_with ending 20 1 0 run_out ≡ item_delta ending 20 1 0 [])
      × (item_delta ending 20 1 0 [] ≡ refused 2)
      -- "An unreadable region that no row names must harm nobody."
      × (metric_delta_with ending 4 advance 1 run_out ≡ value (pos 1310720))
      × (metric_delta ending 4 advance 1 [] ≡ value (pos 1310720))
      -- "At filling, 1 for store offset 0, 2 for the region list's offset and its two counts as they are read, then 7 if the list is shorter than the region count; no number is written then."
      × (fill_count ending 0 3 ≡ refused 1)
      × (fill_count (take 25 ending) 20 3 ≡ refused 2)
      × (fill_count (take 95 ending) 20 3 ≡ refused 2)
      × (fill_count (take 97 ending) 20 0 ≡ refused 2)
      × (fill_count ending 20 1 ≡ refused 7)
      × (filled ending 20 [] (pos 7 ∷ []) ≡ pos 7 ∷ [])
      -- "A delta read gives 7 for such a list just before the first region index, even where the subtable names no region": after 5 and inner's 3.
      × (item_delta_with ending 20 2 0 (pos 7 ∷ []) ≡ refused 7)
      × (item_delta_with ending 20 4 0 (pos 7 ∷ []) ≡ refused 7)
      × (item_delta_with ending 20 3 0 [] ≡ refused 5)
      × (item_delta_with ending 20 2 1 [] ≡ refused 3)
      -- Only −1 is a mark; any other number multiplies, modulo 2^32.
      × (item_delta_with ending 20 0 0 (negsuc 0 ∷ pos 0 ∷ []) ≡ refused 2)
      × (item_delta_with ending 20 0 0 (negsuc 1 ∷ negsuc 0 ∷ []) ≡ value (negsuc 19))
      × (item_delta_with ending 20 0 0 (pos 2147483647 ∷ pos 0 ∷ []) ≡ value (negsuc 9))
      -- A tag, with the list of its own store, which counts from the MVAR's start.
      × (mvar_store sorted 2 ≡ value 28)
      × (mvar_delta_with sorted 2 hasc mvar_list ≡ mvar_delta sorted 2 hasc (pos 0x2000 ∷ []))
      × (mvar_delta sorted 2 hasc (pos 0x2000 ∷ []) ≡ value (pos 655360))
  -- Division by shifting and subtracting: "Nothing that anyone can see may change." What a routine of 32 steps, or without the first bit, would change.
  pub W-205 :
      -- A quotient of 48 bits, of 47, of 32 and of 33, of which the low 32 are kept.
      (over least (pos 1) ≡ pos 0)
      × (over (pos 2147483647) (pos 1) ≡ negative 65536)
      × (over (pos 32768) (pos 1) ≡ least)
      × (over (pos 65536) (pos 1) ≡ pos 0)
      -- 17 bits, of which the first alone is 1; the same by the largest divisor; none.
      × (over (pos 3) (pos 3) ≡ pos 65536)
      × (over least least ≡ pos 65536)
      × (over (pos 1) least ≡ pos 0)
      -- 65536 over 131071, 131072 and 131073: more than a half, a half, less.
      × (over (pos 1) (pos 131071) ≡ pos 1)
      × (over (pos 1) (pos 131072) ≡ pos 1)
      × (over (pos 1) (pos 131073) ≡ pos 0)
      -- The largest numerator, 2^62, by 1, by 3, by 2^31 - 1 and by 2^31.
      × (times_over least least (pos 1) ≡ pos 0)
      × (times_over least least (pos 3) ≡ pos 1431655765)
      × (times_over least least (pos 2147483647) ≡ negative 2147483647)
      × (times_over least least least ≡ least)
      -- By 0, which is tested first.
      × (over (pos 0) (pos 0) ≡ pos 2147483647)
      × (over least (pos 0) ≡ negative 2147483647)
      × (times_over least least (pos 0) ≡ pos 2147483647)

pub requests : Requests
unfolding computing_measures s5_font item_delta uncounted_row uncounted_item uncounted_delta reading footing adjusted_footprint computing_instances lining over times_over wrap32
requests = record {
  W-201 = λ coords. (refl, refl, refl, refl, refl, refl, refl, refl, refl, refl, refl, refl, refl, refl, refl);
  W-202 = (refl, refl, refl, refl, refl, refl, refl, refl, refl, refl, refl, refl, refl, refl, refl, refl, refl, refl, refl, refl, refl, refl);
  W-203 = (refl, refl, refl, refl, refl, refl, refl, refl, refl, refl, refl, refl);
  W-204 = (refl, refl, refl, refl, refl, refl, refl, refl, refl, refl, refl, refl, refl, refl, refl, refl, refl, refl, refl, refl, refl, refl, refl, refl);
  W-205 = (refl, refl, refl, refl, refl, refl, refl, refl, refl, refl, refl, refl, refl, refl, refl, refl, refl);
}
