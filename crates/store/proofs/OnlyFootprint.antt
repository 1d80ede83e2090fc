-- Demand 3: among fonts of one length a delta hangs on the bytes of its footprint and on the coordinates of the axes in use, and on nothing else. Assumes nothing.
use Prim.Native.Nat.{ℕ, zero, suc, ◌+◌, ◌≤◌, ◌<◌}
use mathlib.Core.Path.{◌≡◌, refl, ap, sym, ◌∙◌}
use mathlib.Core.List.{List, [], ◌∷◌, map}
use mathlib.Core.Bool.{Bool, true, false}
use lib.ListN.{length, get_or, drop, length-drop}
use lib.IntN.{ℤ}
use lib.Dec.{ltb}
use native.Mathlib.Omega.{arith}
use borrow.Author.Tests.{ltb-true, ltb-false}
use Rattle.readers.specs.Outcome.{Outcome, value, refused}
use Rattle.readers.specs.Reading.{Reading, unsigned_at, run, ◌>>=◌}
use Rattle.readers.specs.Walk.{each}
use Rattle.opentype.specs.Search.{search_in, searched}
use Rattle.readers.proofs.TwoFonts.{then_same, read_same, answer_same, refuse_same}
use Rattle.opentype.proofs.Search.{found_record, search_same}
use Rattle.opentype.specs.Item.{Item, item_at, item_sum, delta_in, item_delta}
use Rattle.opentype.specs.Metric.{Measure, store_of, delta_set_index_at, metric_delta, float_of}
use Rattle.opentype.specs.Mvar.{Header, header_at, record_start, value_records, by_tag, index_in, find, tag_delta, mvar_delta}
use Rattle.opentype.specs.Footprint.{Part, bytes, triple, uses, row_parts, item_footprint, metric_footprint, record_part, records, found, mvar_parts, moved, mvar_footprint, EqualOver, EqualOn, HangsOn}
use Rattle.store.proofs.Triples.{triple_same}
use Rattle.store.proofs.Moved.{over_moved, uses_moved}
use Rattle.store.proofs.SameParts.{Alike, Same, later, here, each_alike, past_each, bind_same, scalar_same, row_same}

-- ---- the store

module _ (f g : List ℕ) (c d : List ℤ) (len : length f ≡ length g) where
  sum_same : (item : Item) → Same f g c d (item_sum c item) (item_sum d item) (row_parts f item) (row_parts g item)
  unfolding item_sum
  sum_same item = row_same f g c d len item _ _ (λ region k rest e. scalar_same f g c d len item.regions region rest)

  delta_same : (store outer inner : ℕ) → Same f g c d (delta_in c store outer inner) (delta_in d store outer inner) (item_footprint f store outer inner) (item_footprint g store outer inner)
  unfolding delta_in item_footprint
  delta_same store outer inner = bind_same f g c d len (item_at store outer inner) (item_sum c) (item_sum d) (row_parts f) (row_parts g) (λ item e. sum_same item)

  -- The axes in use are read off the same triples.
  uses_same : (parts : List Part) → Alike f g c d parts → (axis : ℕ) → uses f parts axis ≡ uses g parts axis
  unfolding uses
  uses_same [] alike axis = refl
  uses_same (bytes p n ∷ parts) alike axis = uses_same parts (later alike) axis
  uses_same (triple p a ∷ parts) alike axis = rw (triple_same f g p len (λ w. here alike), uses_same parts (later alike) axis)

  -- What is concluded of two readings that are the same on parts.
  pub conclude : {A : Type 0} (r s : Reading A) (ps qs : List Part) → Same f g c d r s ps qs → EqualOver ps f g → EqualOn (uses f ps) c d
      → (run f r ≡ run g s) × (ps ≡ qs) × ((axis : ℕ) → uses f ps axis ≡ uses g qs axis)
  unfolding Same
  conclude r s ps qs same over on =
      let alike : Alike f g c d ps = record { over = over; on = on } in
      let (e, parts) = same alike in
      (e, parts, λ axis. uses_same ps alike axis ∙ ap (λ (q : List Part). uses g q axis) parts)

-- A delta of the store.
pub item_hangs_on : (store outer inner : ℕ) → HangsOn (λ font coords. item_delta font store outer inner coords) (λ font. item_footprint font store outer inner)
unfolding item_delta
item_hangs_on store outer inner f g c d len = conclude f g c d len _ _ _ _ (delta_same f g c d len store outer inner)

-- ---- a glyph's advance or bearing, of HVAR or VVAR

pub metric_hangs_on : (base : ℕ) (measure : Measure) (glyph : ℕ) → HangsOn (λ font coords. metric_delta font base measure glyph coords) (λ font. metric_footprint font base measure glyph)
unfolding metric_delta metric_footprint
metric_hangs_on base measure glyph f g c d len = conclude f g c d len _ _ _ _
    (bind_same f g c d len (store_of base) _ _ _ _ λ store e.
    bind_same f g c d len (delta_set_index_at base measure glyph) _ _ _ _ λ index v.
    delta_same f g c d len store index.outer index.inner)

-- ---- an MVAR tag

-- Two fonts have the same bytes in the first eight of record i, as far as these are there.
abbrev InRecord : List ℕ → List ℕ → ℕ → ℕ → Type 0
InRecord f g record_size i = (j : ℕ) → record_start record_size i ≤ j → j < record_start record_size i + 8 → j < length f → get_or f j 0 ≡ get_or g j 0

module _ (f g : List ℕ) (c d : List ℤ) (len : length f ≡ length g) (record_size : ℕ) where
  record_here : (rest : List Part) (k n i : ℕ) → Alike f g c d (each (record_part f record_size) rest k n) → n ≤ i → i < n + k → InRecord f g record_size i
  unfolding each record_part
  record_here rest zero n i alike l u = absurd (omega arith)
  record_here rest (suc k) n i alike l u = go (ltb n i) refl (λ m. record_here rest k (n + 1) i (later alike) m (omega arith))
    where
      go : (t : Bool) → ltb n i ≡ t → (n + 1 ≤ i → InRecord f g record_size i) → InRecord f g record_size i
      go true e further = further (omega (arith, ltb-true n i e))
      go false e further =
          let at_n : InRecord f g record_size n = λ j a b w. here alike j a (omega arith) in
          let q : n ≡ i = omega (arith, ltb-false n i e) in
          rw q at at_n

  past_record : (i : ℕ) (rest : List Part) → Alike f g c d (record_part f record_size i rest) → Alike f g c d rest
  unfolding record_part
  past_record i rest alike = later alike

  -- How much of a record is there hangs on the length alone.
  record_alike : (i : ℕ) (rest : List Part) → record_part f record_size i rest ≡ record_part g record_size i rest
  unfolding record_part
  record_alike i rest = rw len

  module _ (tag count : ℕ) (at : (i : ℕ) → i < count → InRecord f g record_size i) where
    -- The search reads tags of records alone.
    tag_search_same : run f (search_in (value_records record_size) by_tag tag count 0 count) ≡ run g (search_in (value_records record_size) by_tag tag count 0 count)
    tag_search_same = search_same f g len (value_records record_size) by_tag tag count (λ i low w j a x. at i low j a (omega arith) (omega arith)) (λ i low. answer_same f g _) (refuse_same f g 4) count 0 count
        (omega arith)

    -- So it finds the same record, and its indices are the same.
    index_same : (p : ℕ) → run f (search_in (value_records record_size) by_tag tag count 0 count) ≡ value p → run f (index_in p) ≡ run g (index_in p)
    unfolding index_in unsigned_at
    index_same p e =
        let (i, low, start) = found_record f (value_records record_size) 4 tag count 0 count p e in
        read_same f g 2 (p + 4) _ _ len (λ w j a x. at i low j (omega arith) (omega arith) (omega arith)) λ inner.
        read_same f g 2 (p + 6) _ _ len (λ w j a x. at i low j (omega arith) (omega arith) (omega arith)) λ outer.
        answer_same f g _

module _ (f g : List ℕ) (c d : List ℤ) where
  found_same : {A : Type 0} (o q : Outcome A) (P Q : A → List Part) → o ≡ q → ((a : A) → o ≡ value a → P a ≡ Q a) → found o P ≡ found q Q
  found_same (value a) q P Q e h = rw (← e) (h a refl)
  found_same (refused n) q P Q e h = rw (← e)

  -- What follows from a value that was found: its parts, and two readings that are the same on them.
  then_found : {A : Type 0} (r : Reading A) (k l : A → Reading ℤ) (P Q : A → List Part) → run f r ≡ run g r → ((a : A) → run f r ≡ value a → Same f g c d (k a) (l a) (P a) (Q a))
      → Same f g c d (r >>= k) (r >>= l) (found (run f r) P) (found (run g r) Q)
  unfolding Same
  then_found r k l P Q e h alike = (
    then_same f g r r k l e (λ a v. (h a v (rw v at alike)).0),
    found_same (run f r) (run g r) P Q e (λ a v. (h a v (rw v at alike)).1),
  )

module _ (f g : List ℕ) (c d : List ℤ) (len : length f ≡ length g) (tag : ℕ) where
  tag_same : (header : Header) → Same f g c d (tag_delta header c tag) (tag_delta header d tag)
      (records f header (found (run f (find header tag)) λ p. found (run f (index_in p)) λ index. item_footprint f header.item_variation_store_offset index.outer index.inner))
      (records g header (found (run g (find header tag)) λ p. found (run g (index_in p)) λ index. item_footprint g header.item_variation_store_offset index.outer index.inner))
  unfolding Same records find searched tag_delta
  tag_same header alike =
      let size : ℕ = header.value_record_size in
      let count : ℕ = header.value_record_count in
      let at : (i : ℕ) → i < count → InRecord f g size i = λ i low. record_here f g c d len size _ count 0 i alike (omega arith) (omega arith) in
      let same = then_found f g c d (find header tag) _ _ _ _ (tag_search_same f g c d len size tag count at)
      λ p v. then_found f g c d (index_in p) _ _ _ _ (index_same f g c d len size tag count at p v)
      λ index w. delta_same f g c d len header.item_variation_store_offset index.outer index.inner in
      let (e, parts) = same (past_each f g c d (record_part f size) (past_record f g c d len size) _ count 0 alike) in
      (e, each_alike (record_part f size) (record_part g size) (record_alike f g c d len size) _ count 0 ∙ ap (λ (q : List Part). each (record_part g size) q count 0) parts)

  table_same : Same f g c d (header_at >>= λ header. tag_delta header c tag) (header_at >>= λ header. tag_delta header d tag) (mvar_parts f tag) (mvar_parts g tag)
  unfolding mvar_parts
  table_same = bind_same f g c d len header_at _ _ _ _ (λ header v. tag_same header)

pub mvar_hangs_on : (start tag : ℕ) → HangsOn (λ font coords. mvar_delta font start tag coords) (λ font. mvar_footprint font start tag)
unfolding mvar_delta mvar_footprint
mvar_hangs_on start tag f g c d len over on =
    let table : List ℕ → List ℕ = drop start in
    let size : length (table f) ≡ length (table g) = simp (length-drop, len) in
    let (same, parts, axes) = conclude (table f) (table g) c d size _ _ _ _ (table_same (table f) (table g) c d size tag)
    (over_moved start f g (mvar_parts (table f) tag) over)
    (λ axis e. on axis (uses_moved start f (mvar_parts (table f) tag) axis ∙ e)) in
    (same, ap (map (moved start)) parts, λ axis. uses_moved start f (mvar_parts (table f) tag) axis ∙ axes axis ∙ sym (uses_moved start g (mvar_parts (table g) tag) axis))

-- ---- the float forms

-- What is made of an answer hangs on what the answer hangs on.
pub made_hangs_on : {A B : Type 0} (make : A → B) (answered : List ℕ → List ℤ → A) (footprint : List ℕ → List Part) → HangsOn answered footprint
    → HangsOn (λ font coords. make (answered font coords)) footprint
made_hangs_on make answered footprint h f g c d len over on = let (e, parts, axes) = h f g c d len over on in (ap make e, parts, axes)

pub metric_float_hangs_on : (base : ℕ) (measure : Measure) (glyph : ℕ)
    → HangsOn (λ font coords. float_of (metric_delta font base measure glyph coords)) (λ font. metric_footprint font base measure glyph)
metric_float_hangs_on base measure glyph = made_hangs_on float_of _ _ (metric_hangs_on base measure glyph)

pub mvar_float_hangs_on : (start tag : ℕ) → HangsOn (λ font coords. float_of (mvar_delta font start tag coords)) (λ font. mvar_footprint font start tag)
mvar_float_hangs_on start tag = made_hangs_on float_of _ _ (mvar_hangs_on start tag)
