-- Demand 3 of a delta that is read with a list: two fonts of one length with equal bytes over the footprint, each with a list that was filled on it and answered, at coordinates that are equal on the axes
-- in use, have the same delta, refusals included. Assumes nothing.
use Prim.Native.Nat.{ℕ, ◌<◌}
use mathlib.Core.Path.{◌≡◌, sym, ◌∙◌}
use mathlib.Core.List.{List}
use lib.IntN.{ℤ}
use lib.ListN.{length, get_or, drop}
use Rattle.readers.specs.Outcome.{value}
use Rattle.readers.specs.Reading.{run}
use Rattle.opentype.specs.Metric.{Measure, store_of}
use Rattle.opentype.specs.Footprint.{EqualOver, EqualOn, uses, item_footprint, metric_footprint, mvar_footprint}
use Rattle.opentype.specs.Lines.{fill_count, filled, item_delta_with, metric_delta_with, mvar_store, mvar_delta_with}
use Rattle.store.proofs.OnlyFootprint.{item_hangs_on, metric_hangs_on, mvar_hangs_on}
use Rattle.lines.proofs.Filled.{filled_item, filled_metric, filled_mvar}

-- f at c with list k, g at d with list l.
module _ (f g : List ℕ) (of-bytes : (j : ℕ) → get_or f j 0 < 256) (also : (j : ℕ) → get_or g j 0 < 256) (len : length f ≡ length g) (c d k l : List ℤ) (m n : ℕ) where
  pub item_list_hangs_on : (store outer inner : ℕ) → fill_count f store (length k) ≡ value m → fill_count g store (length l) ≡ value n
      → EqualOver (item_footprint f store outer inner) f g
      → EqualOn (uses f (item_footprint f store outer inner)) c d
      → item_delta_with f store outer inner (filled f store c k) ≡ item_delta_with g store outer inner (filled g store d l)
  item_list_hangs_on store outer inner p q over on =
      filled_item f of-bytes store c k m p outer inner ∙ (item_hangs_on store outer inner f g c d len over on).0 ∙ sym (filled_item g also store d l n q outer inner)

  pub metric_list_hangs_on : (base s t : ℕ) (measure : Measure) (glyph : ℕ) → run f (store_of base) ≡ value s → run g (store_of base) ≡ value t
      → fill_count f s (length k) ≡ value m → fill_count g t (length l) ≡ value n
      → EqualOver (metric_footprint f base measure glyph) f g
      → EqualOn (uses f (metric_footprint f base measure glyph)) c d
      → metric_delta_with f base measure glyph (filled f s c k) ≡ metric_delta_with g base measure glyph (filled g t d l)
  metric_list_hangs_on base s t measure glyph v w p q over on =
      filled_metric f of-bytes s c k m p base measure glyph v ∙ (metric_hangs_on base measure glyph f g c d len over on).0 ∙ sym (filled_metric g also t d l n q base measure glyph w)

  pub mvar_list_hangs_on : (start s t tag : ℕ) → mvar_store f start ≡ value s → mvar_store g start ≡ value t
      → fill_count (drop start f) s (length k) ≡ value m → fill_count (drop start g) t (length l) ≡ value n
      → EqualOver (mvar_footprint f start tag) f g
      → EqualOn (uses f (mvar_footprint f start tag)) c d
      → mvar_delta_with f start tag (filled (drop start f) s c k) ≡ mvar_delta_with g start tag (filled (drop start g) t d l)
  mvar_list_hangs_on start s t tag v w p q over on =
      filled_mvar f of-bytes start s c k m v p tag ∙ (mvar_hangs_on start tag f g c d len over on).0 ∙ sym (filled_mvar g also start t d l n w q tag)
