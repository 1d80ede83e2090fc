-- VariationRegion: how far a region applies at some coordinates (OpenType, common table formats, "Variation regions", and font variations overview, "Algorithm
-- for interpolation of instance values"; document 01, "The item variation store").
use Rattle.std.specs.Prelude.{ℕ, ◌+◌, ◌*◌, Bool, cond, not, ◌&&◌, ◌||◌, List, get_or, ℤ, pos}
use Rattle.std.specs.Int.Signed.{lt_z}
use Rattle.std.specs.Int.{w16}
use Rattle.numbers.specs.Numbers.{minus, from_f2dot14, times, over}
use Rattle.readers.specs.Reading.{Reading, answer, ◌>>=◌, signed_at}
use Rattle.readers.specs.Walk.{Turn, walk}

-- A normalised coordinate, in 2.14; a missing one is 0.
abbrev pub coordinate : List ℤ → ℕ → ℤ
coordinate coords axis = get_or coords axis (pos 0)

-- RegionAxisCoordinates: startCoord, peakCoord, endCoord, in 2.14.
pub record Triple : Type 0 where
  pub start : ℤ
  pub peak : ℤ
  pub end : ℤ

unfoldable pub triple_at : ℕ → Reading Triple
triple_at p = do
  start ← signed_at w16 p
  peak ← signed_at w16 (p + 2)
  end ← signed_at w16 (p + 4)
  answer (record { start = start; peak = peak; end = end })

-- Whether a and b are the same number: neither is below the other.
abbrev pub same : ℤ → ℤ → Bool
same a b = not (lt_z a b || lt_z b a)

-- A triple that is skipped: start > peak, peak > end, peak = 0, or start < 0 < end.
unfoldable pub skipped : Triple → Bool
skipped t = lt_z t.peak t.start || lt_z t.end t.peak || same t.peak (pos 0) || (lt_z t.start (pos 0) && lt_z (pos 0) t.end)

-- a − b, of two 2.14 numbers that are taken to 16.16.
abbrev pub difference : ℤ → ℤ → ℤ
difference a b = minus (from_f2dot14 a) (from_f2dot14 b)

-- What a triple makes of the scalar: the region goes on with another; or it is left, with the scalar 0.
pub data Tent : Type 0 where
  next : ℤ → Tent
  outside : Tent

-- It is left outside start..end; unchanged at peak; below peak multiply by (c − start), then divide by (peak − start); above, by (end − c) and (end − peak).
unfoldable pub tent : Triple → ℤ → ℤ → Tent
tent t c scalar =
    cond (skipped t) (next scalar)
    (cond (lt_z c t.start || lt_z t.end c) outside
    (cond (same c t.peak) (next scalar)
    (cond (lt_z c t.peak) (next (over (times scalar (difference c t.start)) (difference t.peak t.start)))
    (next (over (times scalar (difference t.end c)) (difference t.end t.peak))))))

-- Outside, the region is read no further.
abbrev pub under : Tent → (ℤ → Reading ℤ) → Reading ℤ
under (next scalar) onward = onward scalar
under outside onward = answer (pos 0)

-- The triple at p, and what it makes of the scalar.
unfoldable pub tent_at : ℕ → ℤ → ℤ → Reading Tent
tent_at p c scalar = do
  t ← triple_at p
  answer (tent t c scalar)

-- One axis of a region whose triples start at p.
unfoldable pub axis_turn : List ℤ → ℕ → Turn ℤ (Reading ℤ)
axis_turn coords p axis scalar onward = do
  t ← tent_at (p + 6 * axis) (coordinate coords axis) scalar
  under t onward

-- The scalar of a region, from 1 through all of its axes.
unfoldable pub region_scalar : List ℤ → ℕ → ℕ → Reading ℤ
region_scalar coords axis_count p = walk (axis_turn coords p) answer axis_count 0 (pos 65536)
