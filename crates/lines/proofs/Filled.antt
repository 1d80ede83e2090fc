-- A list that keeps the scalars of a store's regions gives, for every delta-set index, glyph and tag, the delta of the walk over the regions' triples at those coordinates, refusals and their order included,
-- in a font of bytes; and what filling leaves keeps them, in a list of any length that has room, whole or cut to the count. Assumes nothing.
use Prim.Native.Nat.{ℕ, zero, suc, ◌+◌, ◌-◌, ◌*◌, ◌<◌, ◌≤◌}
use mathlib.Core.Path.{◌≡◌, refl, ap, sym, ◌∙◌}
use mathlib.Core.Bool.{Bool, true, false}
use mathlib.Core.List.{List}
use native.Mathlib.Omega.{arith}
use borrow.Author.Tests.{le-leb, leb-true, leb-false}
use lib.Dec.{leb}
use lib.IntN.{ℤ, pos, negsuc}
use lib.ListN.{length, get_or, take, drop}
use lib.Seq.{get_or-drop, get_or-take, length-take-le}
use Rattle.readers.specs.Outcome.{Outcome, value, refused, value_or, onward}
use Rattle.readers.specs.Reading.{Reading, answer, ◌>>=◌, unsigned_at, signed_at, run}
use Rattle.readers.specs.Walk.{turns, walk}
use Rattle.readers.proofs.Reading.{run_bind, passed}
use Rattle.readers.proofs.Passed.{bytes_there, test_held, answer_is}
use Rattle.readers.proofs.TwoFonts.{then_same}
use Rattle.readers.proofs.Lent.{fill_at, fill_length}
use Rattle.opentype.specs.Region.{coordinate, triple_at, Tent, next, outside, tent, tent_at, under, axis_turn, region_scalar}
use Rattle.opentype.specs.Item.{Regions, region_list, region_start, Item, row_at, item_at, item_sum, delta_in, item_delta}
use Rattle.opentype.specs.Metric.{Measure, store_of, delta_set_index_at, metric_delta}
use Rattle.opentype.specs.Mvar.{Header, header_at, find, index_in, tag_delta, mvar_delta}
use Rattle.opentype.specs.Lines.{kept_scalar, room_for, fill_count, filled, known, scalar_from, item_sum_with, delta_with, item_delta_with, metric_delta_with, mvar_store, mvar_delta_with}
use Rattle.store.proofs.Triples.{triple_in, triple_there, triple_cut}
use Rattle.store.proofs.Scalars.{scalar_range}
use Rattle.store.proofs.SameParts.{Same, row_same}
use Rattle.lines.proofs.Rows.{index_below, itself}

-- A reading of two that gave a value: the first gave one, and so did the second.
bound : {A B : Type 0} (font : List ℕ) (d : Reading A) (k : A → Reading B) (b : B) → run font (d >>= k) ≡ value b → (a : A) × (run font d ≡ value a) × (run font (k a) ≡ value b)
bound {A} {B} font d k b e = go (run font d) refl (sym (run_bind font d k) ∙ e)
  where
    go : (o : Outcome A) → run font d ≡ o → onward o (λ a. run font (k a)) ≡ value b → (a : A) × (run font d ≡ value a) × (run font (k a) ≡ value b)
    go (value a) p q = (a, p, q)
    go (refused n) p q = let z : ◌≡◌ {A = ℕ} 0 1 = cc in absurd (omega arith)

module _ (font : List ℕ) where
  -- ---- a scalar is refused by 2 alone, and is never −1

  under_short : (t : Tent) (onward : ℤ → Reading ℤ) → ((s : ℤ) (n : ℕ) → run font (onward s) ≡ refused n → n ≡ 2) → (n : ℕ) → run font (under t onward) ≡ refused n → n ≡ 2
  unfolding run
  under_short (next s) onward h n e = h s n e
  under_short outside onward h n e = cc

  axes_short : (coords : List ℤ) (p k axis : ℕ) (s : ℤ) (n : ℕ) → run font (turns (axis_turn coords p) answer k axis s) ≡ refused n → n ≡ 2
  unfolding turns axis_turn tent_at triple_at signed_at unsigned_at run
  axes_short coords p zero axis s n e = cc
  axes_short coords p (suc k) axis s n e = go (leb (p + 6 * axis + 6) (length font)) refl (axes_short coords p k (axis + 1))
    where
      onward : ℤ → Reading ℤ
      onward = turns (axis_turn coords p) answer k (axis + 1)

      go : (b : Bool) → leb (p + 6 * axis + 6) (length font) ≡ b → ((s : ℤ) (n : ℕ) → run font (onward s) ≡ refused n → n ≡ 2) → n ≡ 2
      go true b ih =
          let whole : run font (under (tent (triple_in font (p + 6 * axis)) (coordinate coords axis) s) onward) ≡ refused n =
          triple_there font (p + 6 * axis) (λ t. under (tent t (coordinate coords axis) s) onward) _ (leb-true _ _ b) refl ∙ e in
          under_short (tent (triple_in font (p + 6 * axis)) (coordinate coords axis) s) onward ih n whole
      go false b ih =
          let cut : refused 2 ≡ refused n = triple_cut font (p + 6 * axis) (λ t. under (tent t (coordinate coords axis) s) onward) (leb-false _ _ b) ∙ e in
          cc

  pub scalar_short : (coords : List ℤ) (axis_count p n : ℕ) → run font (region_scalar coords axis_count p) ≡ refused n → n ≡ 2
  unfolding region_scalar walk
  scalar_short coords axis_count p n e = axes_short coords p (axis_count - 0) 0 (pos 65536) n e

  -- So what is kept of a scalar says all of it.
  kept_known : (o : Outcome ℤ) → ((s : ℤ) → o ≡ value s → (n : ℕ) × (s ≡ pos n) × (n ≤ 65536)) → ((n : ℕ) → o ≡ refused n → n ≡ 2) → run font (known (value_or (negsuc 0) o)) ≡ o
  unfolding run
  kept_known (value s) range short = let (n, e, l) = range s refl in rw e
  kept_known (refused n) range short = rw (short n refl)

  -- ---- the regions are those of the item

  room_regions : (store places : ℕ) (regions : Regions) → run font (room_for store places) ≡ value regions → (run font (region_list store) ≡ value regions) × (regions.region_count ≤ places)
  unfolding room_for
  room_regions store places regions e =
      let there = (test_held font _ _ _ regions e).1 in
      let (r, p, q) = bound font (region_list store) _ regions there in
      let held = test_held font _ _ _ regions q in
      let same : r ≡ regions = answer_is font r regions held.1 in
      (rw same at p, rw same at (leb-true r.region_count places held.0))

  item_regions : (store outer inner : ℕ) (item : Item) → run font (item_at store outer inner) ≡ value item → run font (region_list store) ≡ value item.regions
  unfolding item_at unsigned_at
  item_regions store outer inner item e =
      let count = (test_held font _ _ _ item e).1 in
      let read = (bytes_there font 2 (store + 6) _ item count).1 in
      let within = (test_held font _ _ _ item read).1 in
      let (r, p, q) = bound font (region_list store) _ item within in
      let (row, p2, q2) = bound font (row_at store outer inner) (λ row. answer (record { regions = r; row = row })) item q in
      let same : record { regions = r; row = row } ≡ item = answer_is font _ item q2 in
      rw (ap (λ (i : Item). i.regions) same) at p

-- ---- any list that keeps the numbers

-- A list keeps the scalars of a store's regions at some coordinates: it has a place for each region, with the number that filling puts there. What stands behind them is not said.
abbrev pub Keeps : List ℕ → ℕ → List ℤ → List ℤ → Type 0
Keeps font store coords list =
    (regions : Regions) × (run font (region_list store) ≡ value regions)
    × (regions.region_count ≤ length list)
    × ((region : ℕ) → region < regions.region_count → get_or list region (pos 0) ≡ kept_scalar font coords regions region)

module _ (font : List ℕ) (octets : (j : ℕ) → get_or font j 0 < 256) (store : ℕ) (coords list : List ℤ) (keeps : Keeps font store coords list) where
  abbrev regions : Regions
  regions = keeps.0

  scalar_kept : (region : ℕ) → region < regions.region_count → run font (scalar_from list region) ≡ run font (region_scalar coords regions.axis_count (region_start regions region))
  unfolding kept_scalar
  scalar_kept region h =
      ap (λ (s : ℤ). run font (known s)) (keeps.3 region h)
      ∙ kept_known font (run font (region_scalar coords regions.axis_count (region_start regions region)))
      (scalar_range font octets coords regions.axis_count (region_start regions region)) (scalar_short font coords regions.axis_count (region_start regions region))

  sums : (item : Item) → item.regions ≡ regions → run font (item_sum_with list item) ≡ run font (item_sum coords item)
  unfolding item_sum_with item_sum Same
  sums item e =
      let same = row_same font font coords coords refl item (scalar_from list) (λ region. region_scalar coords item.regions.axis_count (region_start item.regions region))
      (λ region k rest names _. rw (← e) at (scalar_kept region (rw e at (index_below font _ _ region names)))) (itself font coords _) in
      sym (passed font _ 7 _ _ (le-leb item.regions.region_count (length list) (rw (← e) at keeps.2)) (sym same.0))

  pub keeping_item : (outer inner : ℕ) → item_delta_with font store outer inner list ≡ item_delta font store outer inner coords
  unfolding item_delta_with delta_with item_delta delta_in
  keeping_item outer inner = then_same font font (item_at store outer inner) (item_at store outer inner) (item_sum_with list) (item_sum coords) refl
      (λ item v. sums item (let p = item_regions font store outer inner item v in let q = keeps.1 in cc))

  -- A glyph's measure, where the list is that of the table's store.
  pub keeping_metric : (base : ℕ) (measure : Measure) (glyph : ℕ) → run font (store_of base) ≡ value store → metric_delta_with font base measure glyph list ≡ metric_delta font base measure glyph coords
  unfolding metric_delta_with metric_delta item_delta_with item_delta
  keeping_metric base measure glyph v = then_same font font (store_of base) (store_of base) _ _ refl λ s w.
      let e : store ≡ s = cc in
      rw (← e) (then_same font font (delta_set_index_at base measure glyph) (delta_set_index_at base measure glyph) _ _ refl λ index _. keeping_item index.outer index.inner)

  -- A tag of the table that is all of a font, where the list is that of the store in its header.
  table_tag : (tag : ℕ) → run font (header_at >>= λ h. answer h.item_variation_store_offset) ≡ value store
      → run font (header_at >>= λ h. find h tag >>= λ p. index_in p >>= λ i. delta_with list h.item_variation_store_offset i.outer i.inner) ≡ run font (header_at >>= λ h. tag_delta h coords tag)
  unfolding tag_delta find item_delta_with item_delta
  table_tag tag v = then_same font font header_at header_at _ _ refl λ h w.
      let (g, p, q) = bound font header_at (λ (g : Header). answer g.item_variation_store_offset) store v in
      let same : g ≡ h = cc in
      let e : h.item_variation_store_offset ≡ store = sym (ap (λ (k : Header). k.item_variation_store_offset) same) ∙ answer_is font _ _ q in
      rw e (then_same font font (find h tag) (find h tag) _ _ refl λ p _. then_same font font (index_in p) (index_in p) _ _ refl λ i _. keeping_item i.outer i.inner)

-- A tag: the list is that of the MVAR's part of the font, at the offset that `mvar_store` gives.
pub keeping_mvar : (font : List ℕ) → ((j : ℕ) → get_or font j 0 < 256) → (start store : ℕ) (coords list : List ℤ) → mvar_store font start ≡ value store
    → Keeps (drop start font) store coords list
    → (tag : ℕ) → mvar_delta_with font start tag list ≡ mvar_delta font start tag coords
unfolding mvar_store mvar_delta_with mvar_delta
keeping_mvar font octets start store coords list v keeps tag =
    table_tag (drop start font) (λ j. rw (← get_or-drop start font j 0) at (octets (start + j))) store coords list keeps tag v

-- ---- a list that was filled keeps them; so does its part of as many numbers as filling counted

module _ (font : List ℕ) (store : ℕ) (coords scalars : List ℤ) (count : ℕ) (answered : fill_count font store (length scalars) ≡ value count) where
  room : (regions : Regions) × (run font (room_for store (length scalars)) ≡ value regions) × (regions.region_count ≡ count)
  unfolding fill_count
  room =
      let (regions, r, c) = bound font (room_for store (length scalars)) (λ (r : Regions). answer r.region_count) count answered in
      (regions, r, answer_is font _ _ c)

  filled_length : length (filled font store coords scalars) ≡ length scalars
  unfolding filled
  filled_length = rw room.1 (fill_length _ _ scalars)

  filled_at : (region : ℕ) → region < room.0.region_count → get_or (filled font store coords scalars) region (pos 0) ≡ kept_scalar font coords room.0 region
  unfolding filled
  filled_at region h = rw room.1 (fill_at _ _ scalars region (pos 0) h (omega (arith, (room_regions font store (length scalars) room.0 room.1).1)))

  pub filled_keeps : Keeps font store coords (filled font store coords scalars)
  filled_keeps =
      let (listed, long) = room_regions font store (length scalars) room.0 room.1 in
      (room.0, listed, omega (arith, long, filled_length), filled_at)

  pub cut_keeps : Keeps font store coords (take count (filled font store coords scalars))
  cut_keeps =
      let (regions, r, counted) = room in
      let (listed, long) = room_regions font store (length scalars) regions r in
      let l = filled font store coords scalars in (
        regions,
        listed,
        omega (arith, length-take-le count l (omega (arith, long, counted, filled_length)), counted),
        λ region h. get_or-take count l region (pos 0) (omega (arith, counted)) ∙ filled_at region h,
      )

-- ---- what filling leaves gives the deltas at its coordinates

module _ (font : List ℕ) (octets : (j : ℕ) → get_or font j 0 < 256) (store : ℕ) (coords scalars : List ℤ) (count : ℕ) (answered : fill_count font store (length scalars) ≡ value count) where
  abbrev list : List ℤ
  list = filled font store coords scalars

  pub filled_item : (outer inner : ℕ) → item_delta_with font store outer inner list ≡ item_delta font store outer inner coords
  filled_item outer inner = keeping_item font octets store coords list (filled_keeps font store coords scalars count answered) outer inner

  pub filled_metric : (base : ℕ) (measure : Measure) (glyph : ℕ) → run font (store_of base) ≡ value store → metric_delta_with font base measure glyph list ≡ metric_delta font base measure glyph coords
  filled_metric base measure glyph v = keeping_metric font octets store coords list (filled_keeps font store coords scalars count answered) base measure glyph v

  -- The same with the list cut to the count.
  pub cut_metric : (base : ℕ) (measure : Measure) (glyph : ℕ) → run font (store_of base) ≡ value store → metric_delta_with font base measure glyph (take count list) ≡ metric_delta font base measure glyph coords
  cut_metric base measure glyph v = keeping_metric font octets store coords (take count list) (cut_keeps font store coords scalars count answered) base measure glyph v

module _ (font : List ℕ) (octets : (j : ℕ) → get_or font j 0 < 256) (start store : ℕ) (coords scalars : List ℤ) (count : ℕ) (found : mvar_store font start ≡ value store) (answered : fill_count (drop start font) store (length scalars) ≡ value count) where
  abbrev table_list : List ℤ
  table_list = filled (drop start font) store coords scalars

  pub filled_mvar : (tag : ℕ) → mvar_delta_with font start tag table_list ≡ mvar_delta font start tag coords
  filled_mvar tag = keeping_mvar font octets start store coords table_list found (filled_keeps (drop start font) store coords scalars count answered) tag

  pub cut_mvar : (tag : ℕ) → mvar_delta_with font start tag (take count table_list) ≡ mvar_delta font start tag coords
  cut_mvar tag = keeping_mvar font octets start store coords (take count table_list) found (cut_keeps (drop start font) store coords scalars count answered) tag
