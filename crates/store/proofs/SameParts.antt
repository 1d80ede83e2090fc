-- Two fonts and two coordinate lists that are alike on a list of parts: one outcome, and the same parts. Assumes nothing.
use Prim.Native.Nat.{ℕ, zero, suc, ◌+◌, ◌*◌}
use mathlib.Core.Path.{◌≡◌, refl, ap, ◌∙◌}
use mathlib.Core.List.{List, [], ◌∷◌}
use mathlib.Core.Bool.{Bool, true, false, cond, not, ◌&&◌, ◌||◌}
use lib.ListN.{length}
use lib.IntN.{ℤ, pos}
use lib.Dec.{leb, ltb}
use native.Mathlib.Nat.{sub-zero}
use borrow.Author.Tests.{le-leb, lt-ltb, eq-eqb}
use Rattle.readers.specs.Outcome.{Outcome, value, unless}
use Rattle.readers.specs.Reading.{Reading, answer, refuse, tested, bytes_at, big_endian, unsigned_at, signed_at, run, ◌>>=◌}
use Rattle.readers.specs.Walk.{walk, turns, each}
use Rattle.readers.proofs.Bytes.{SameBytes, same_bytes}
use Rattle.readers.proofs.TwoFonts.{then_same}
use Rattle.opentype.specs.Region.{coordinate, Triple, triple_at, skipped, Tent, next, outside, tent, tent_at, under, axis_turn, region_scalar}
use Rattle.opentype.specs.Item.{Regions, Item, region_start, region_index_at, delta_at, row_turn, row_sum}
use Rattle.opentype.specs.Footprint.{Part, bytes, triple, start, size, covers, not_skipped, used_by, uses, parts_of, whole, triple_of, triples, entry_parts, row_parts, EqualOver, EqualOn}
use Rattle.store.proofs.Triples.{triple_same, triple_whole}

pub record Alike (f g : List ℕ) (c d : List ℤ) (parts : List Part) : Type 0 where
  pub over : EqualOver parts f g
  pub on : EqualOn (uses f parts) c d

-- Two loops whose turns list the same list the same.
pub each_alike : (t u : ℕ → List Part → List Part) → ((i : ℕ) (rest : List Part) → t i rest ≡ u i rest) → (rest : List Part) (k i : ℕ) → each t rest k i ≡ each u rest k i
unfolding each
each_alike t u same rest zero i = refl
each_alike t u same rest (suc k) i = same i (each t rest k (i + 1)) ∙ ap (u i) (each_alike t u same rest k (i + 1))

pub or_right : (a b : Bool) → b ≡ true → (a || b) ≡ true
or_right true b e = refl
or_right false b e = e

-- The parts after the first; the bytes of the first; its axis.
module _ {f g : List ℕ} {c d : List ℤ} {parts : List Part} where
  pub later : {part : Part} → Alike f g c d (part ∷ parts) → Alike f g c d parts
  unfolding covers uses
  later {part} alike = record {
    over = λ j e. alike.over j (or_right (leb (start part) j && ltb j (start part + size part)) (covers parts j) e);
    on = λ axis e. alike.on axis (or_right (used_by f part axis) (uses f parts axis) e);
  }

  pub here : {part : Part} → Alike f g c d (part ∷ parts) → SameBytes (size part) f g (start part)
  unfolding covers
  here {part} alike j l u = alike.over j (rw (le-leb (start part) j l, lt-ltb j (start part + size part) u))

  axis_here : {p axis : ℕ} → Alike f g c d (triple p axis ∷ parts) → not_skipped (run f (triple_at p)) ≡ true → coordinate c axis ≡ coordinate d axis
  unfolding uses
  axis_here {p} {axis} alike e = alike.on axis (rw (eq-eqb axis axis refl, e))

module _ (f g : List ℕ) (c d : List ℤ) where
  -- Where fonts and coordinates are alike on ps, the two readings have one outcome, and ps and qs are the same parts.
  unfoldable pub Same : {A : Type 0} → Reading A → Reading A → List Part → List Part → Type 0
  Same r s ps qs = Alike f g c d ps → (run f r ≡ run g s) × (ps ≡ qs)

  -- Behind what a loop lists stand the parts that come after it.
  pub past_each : (turn : ℕ → List Part → List Part) → ((i : ℕ) (rest : List Part) → Alike f g c d (turn i rest) → Alike f g c d rest)
      → (rest : List Part) (k i : ℕ) → Alike f g c d (each turn rest k i) → Alike f g c d rest
  unfolding each
  past_each turn past rest zero i alike = alike
  past_each turn past rest (suc k) i alike = past_each turn past rest k (i + 1) (past i (each turn rest k (i + 1)) alike)

  module _ (len : length f ≡ length g) where
    -- A read of n bytes at p, whole or not, as t says; then what is made of its number.
    number_then : {A : Type 0} (t : Bool) (n p : ℕ) (R S : ℕ → Outcome A) (P Q : ℕ → List Part)
        → (t ≡ true → Alike f g c d (P (big_endian n f p)) → (R (big_endian n f p) ≡ S (big_endian n f p)) × (P (big_endian n f p) ≡ Q (big_endian n f p)))
        → Alike f g c d (cond t (bytes p n ∷ P (big_endian n f p)) [])
        → (unless t 2 (R (big_endian n f p)) ≡ unless t 2 (S (big_endian n g p))) × (cond t (bytes p n ∷ P (big_endian n f p)) [] ≡ cond t (bytes p n ∷ Q (big_endian n g p)) [])
    number_then true n p R S P Q h alike =
        let e : big_endian n f p ≡ big_endian n g p = same_bytes n f g p (here alike) in
        let (a, b) = h refl (later alike) in
        (a ∙ ap S e, ap (λ (q : List Part). bytes p n ∷ q) (b ∙ ap Q e))
    number_then false n p R S P Q h alike = (refl, refl)

    -- One reading, then others.
    pub bind_same : {A B : Type 0} (r : Reading A) (k l : A → Reading B) (P Q : A → List Part)
        → ((a : A) → run f r ≡ value a → Same (k a) (l a) (P a) (Q a)) → Same (r >>= k) (r >>= l) (parts_of f r P) (parts_of g r Q)
    unfolding Same run parts_of
    bind_same (answer a) k l P Q h = h a refl
    bind_same (refuse n) k l P Q h = λ alike. (refl, refl)
    bind_same (tested true n r) k l P Q h = bind_same r k l P Q h
    bind_same (tested false n r) k l P Q h = λ alike. (refl, refl)
    bind_same (bytes_at n p r) k l P Q h = λ alike. rw (← len)
        (number_then (leb (p + n) (length f)) n p (λ x. run f (r x >>= k)) (λ x. run g (r x >>= l)) (λ x. parts_of f (r x) P) (λ x. parts_of g (r x) Q)
        (λ t. bind_same (r (big_endian n f p)) k l P Q (λ a e. h a (rw t e))) alike)

    -- ---- the triples of a region

    -- Whether one is whole hangs on the length alone.
    triple_alike : (p axis : ℕ) (rest : List Part) → triple_of f p axis rest ≡ triple_of g p axis rest
    unfolding triple_of
    triple_alike p axis rest = rw len

    past_one : (part : Part) (rest : List Part) → Alike f g c d (whole f part rest) → Alike f g c d rest
    past_one part rest = go (leb (start part + size part) (length f))
      where
        go : (t : Bool) → Alike f g c d (cond t (part ∷ rest) rest) → Alike f g c d rest
        go true alike = later alike
        go false alike = alike

    past_triple : (p axis : ℕ) (rest : List Part) → Alike f g c d (triple_of f p axis rest) → Alike f g c d rest
    unfolding triple_of
    past_triple p axis rest = past_one (triple (p + 6 * axis) axis) rest

    -- A triple that is skipped doesn't look at the coordinate.
    tent_same : (t : Triple) (x y s : ℤ) → (not (skipped t) ≡ true → x ≡ y) → tent t x s ≡ tent t y s
    unfolding tent
    tent_same t x y s h = go (skipped t) refl
      where
        go : (b : Bool) → skipped t ≡ b → tent t x s ≡ tent t y s
        go true e = rw e
        go false e = ap (λ (z : ℤ). tent t z s) (h (rw e))

    under_same : (t : Tent) (F G : ℤ → Reading ℤ) → ((s : ℤ) → run f (F s) ≡ run g (G s)) → run f (under t F) ≡ run g (under t G)
    unfolding run
    under_same (next s) F G h = h s
    under_same outside F G h = refl

    axis_same : (p axis : ℕ) (s : ℤ) (F G : ℤ → Reading ℤ) (rest : List Part) → Alike f g c d (whole f (triple p axis) rest) → ((s : ℤ) → run f (F s) ≡ run g (G s))
        → run f (triple_at p >>= λ t. under (tent t (coordinate c axis) s) F) ≡ run g (triple_at p >>= λ t. under (tent t (coordinate d axis) s) G)
    axis_same p axis s F G rest alike h = then_same f g (triple_at p) (triple_at p) (λ t. under (tent t (coordinate c axis) s) F) (λ t. under (tent t (coordinate d axis) s) G)
        (triple_same f g p len (λ w. here (rw (le-leb (p + 6) (length f) w) at alike)))
        (λ t e. rw (tent_same t (coordinate c axis) (coordinate d axis) s (λ u. axis_here (rw (le-leb (p + 6) (length f) (triple_whole f p t e)) at alike) (rw e u)))
        (under_same (tent t (coordinate d axis) s) F G h))

    axes_same : (p k axis : ℕ) (s : ℤ) (rest : List Part) → Alike f g c d (each (triple_of f p) rest k axis)
        → run f (turns (axis_turn c p) answer k axis s) ≡ run g (turns (axis_turn d p) answer k axis s)
    unfolding run turns each axis_turn tent_at triple_at signed_at unsigned_at triple_of
    axes_same p zero axis s rest alike = refl
    axes_same p (suc k) axis s rest alike =
        let others : List Part = each (triple_of f p) rest k (axis + 1) in
        axis_same (p + 6 * axis) axis s (turns (axis_turn c p) answer k (axis + 1)) (turns (axis_turn d p) answer k (axis + 1)) others alike
        (λ s. axes_same p k (axis + 1) s rest (past_one (triple (p + 6 * axis) axis) others alike))

    pub scalar_same : (regions : Regions) (region : ℕ) (rest : List Part) → Alike f g c d (triples f regions region rest)
        → run f (region_scalar c regions.axis_count (region_start regions region)) ≡ run g (region_scalar d regions.axis_count (region_start regions region))
    unfolding triples region_scalar walk
    scalar_same regions region rest alike = rw (sub-zero regions.axis_count) (axes_same (region_start regions region) regions.axis_count 0 (pos 65536) rest alike)

    -- ---- the sum over a row, whatever hands in the scalars, as long as those are the same where the triples are alike

    -- Index k of the row names a region.
    abbrev Names : Item → ℕ → ℕ → Type 0
    Names item k region = run f (region_index_at item.regions.region_count (item.row.region_indexes + 2 * k)) ≡ value region

    module _ (item : Item) (x y : ℕ → Reading ℤ)
        (scalars : (region k : ℕ) (rest : List Part) → Names item k region → Alike f g c d (triples f item.regions region rest) → run f (x region) ≡ run g (y region)) where
      weighed_same : (region k : ℕ) → Names item k region → (F G : ℤ → Reading ℤ) (P Q : List Part) → ((s : ℤ) → Same (F s) (G s) P Q)
          → Same (x region >>= F) (y region >>= G)
          (triples f item.regions region P) (triples g item.regions region Q)
      unfolding Same triples
      weighed_same region k e F G P Q h alike =
          let axis_count : ℕ = item.regions.axis_count in
          let p : ℕ = region_start item.regions region in
          let on : Alike f g c d P = past_each (triple_of f p) (past_triple p) P axis_count 0 alike in (
            then_same f g (x region) (y region) F G (scalars region k P e alike) (λ s v. (h s on).0),
            each_alike (triple_of f p) (triple_of g p) (triple_alike p) P axis_count 0 ∙ ap (λ (q : List Part). each (triple_of g p) q axis_count 0) (h (pos 0) on).1,
          )

      entries_same : (k i : ℕ) (sum : ℤ) → Same (turns (row_turn x item.regions.region_count item.row) answer k i sum) (turns (row_turn y item.regions.region_count item.row) answer k i sum)
          (each (entry_parts f item) [] k i) (each (entry_parts g item) [] k i)
      unfolding Same run turns each row_turn entry_parts
      entries_same zero i sum = λ alike. (refl, refl)
      entries_same (suc k) i sum = bind_same (region_index_at _ _) _ _ _ _ λ region e. weighed_same region i e _ _ _ _ λ s. bind_same (delta_at _ _ _) _ _ _ _ λ delta v. entries_same k (i + 1) _

      pub row_same : Same (row_sum x item.regions.region_count item.row) (row_sum y item.regions.region_count item.row) (row_parts f item) (row_parts g item)
      unfolding row_sum row_parts walk
      row_same = rw (sub-zero item.row.region_index_count) (entries_same item.row.region_index_count 0 (pos 0))
