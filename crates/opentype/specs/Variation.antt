-- Coordinate lists: from settings, and for an instance (document 01, "Coordinate lists").
use Rattle.std.specs.Prelude.{ℕ, min, cond, List, [], leb, eqb, ℤ, pos, Float, length, get_or}
use Rattle.std.specs.Float.{nan}
use Rattle.numbers.specs.Floats.{of_float}
use Rattle.readers.specs.Outcome.{Outcome, value, refused, onward, unless, value_or}
use Rattle.readers.specs.Reading.{Done, done, run}
use Rattle.readers.specs.Walk.{Turn, walk}
use Rattle.readers.specs.Lent.{fill, written}
use Rattle.opentype.specs.Axis.{Axis, no_axis, normalized_coord}
use Rattle.opentype.specs.Fvar.{Header, axis, instance_values}
use Rattle.opentype.specs.Values.{value_in}

-- n coordinates in turn: the first refusal met, else their count.
unfoldable pub coord_turn : (ℕ → Outcome ℤ) → Turn Done (Outcome ℕ)
coord_turn coord i d next = onward (coord i) (λ c. next d)

unfoldable pub passed : (ℕ → Outcome ℤ) → ℕ → Outcome ℕ
passed coord n = walk (coord_turn coord) (λ d. value n) n 0 done

-- n coordinates for a lent list: 7 where it is too short, then the first refusal of a coordinate; else their count.
unfoldable pub counted : (ℕ → Outcome ℤ) → ℕ → ℕ → Outcome ℕ
counted coord n room = unless (leb n room) 7 (passed coord n)

-- What the lent list then holds: the coordinates, and beyond them what it held; on a refusal all that it held.
unfoldable pub coords_in : (ℕ → Outcome ℤ) → Outcome ℕ → List ℤ → List ℤ
coords_in coord count out = written count (fill (λ i. value_or (pos 0) (coord i))) out

-- ---- from settings, a list of tags and a list of values

-- A coordinate starts at 0; each setting with the axis's tag, in turn, is normalised onto it; so a later one wins.
unfoldable pub setting_turn : List ℕ → ℕ → Axis → List ℕ → List Float → Turn ℤ (Outcome ℤ)
setting_turn font avar a tags values s c next =
    cond (eqb (get_or tags s 0) a.axis_tag) (onward (normalized_coord font avar a (of_float (get_or values s nan))) next) (next c)

unfoldable pub axis_coord : List ℕ → ℕ → Axis → List ℕ → List Float → Outcome ℤ
axis_coord font avar a tags values = walk (setting_turn font avar a tags values) value (length tags) 0 (pos 0)

-- An unreadable axis has no tag: its coordinate stays 0.
abbrev pub readable_coord : Outcome Axis → (Axis → Outcome ℤ) → Outcome ℤ
readable_coord (value a) f = f a
readable_coord (refused n) f = value (pos 0)

-- Coordinate i, from the axis i.
unfoldable pub setting_coord : List ℕ → Header → List ℕ → ℕ → List ℕ → List Float → ℕ → Outcome ℤ
setting_coord table header font avar tags values i = readable_coord (run table (axis header i)) (λ a. axis_coord font avar a tags values)

-- 6 where the two lists differ in length; the count is min(axis count, 32).
unfoldable pub settings_count : List ℕ → Header → List ℕ → ℕ → List ℕ → List Float → ℕ → Outcome ℕ
settings_count table header font avar tags values room =
    unless (eqb (length tags) (length values)) 6 (counted (setting_coord table header font avar tags values) (min header.axis_count 32) room)

-- The lent list at the end.
unfoldable pub settings_coords : List ℕ → Header → List ℕ → ℕ → List ℕ → List Float → List ℤ → List ℤ
settings_coords table header font avar tags values out =
    coords_in (setting_coord table header font avar tags values) (settings_count table header font avar tags values (length out)) out

-- ---- for an instance, from its values' part

-- Every axis counts; an unreadable one is all zeros with index 0.
unfoldable pub value_coord : List ℕ → Header → List ℕ → ℕ → List ℕ → ℕ → Outcome ℤ
value_coord table header font avar part i =
    normalized_coord font avar (value_or no_axis (run table (axis header i))) (value_in part i)

-- The instance's refusal, then 7, then 5.
unfoldable pub instance_count : List ℕ → Header → List ℕ → ℕ → ℕ → ℕ → Outcome ℕ
instance_count table header font avar j room =
    onward (instance_values table header j) (λ part. counted (value_coord table header font avar part) header.axis_count room)

-- The lent list at the end.
unfoldable pub instance_coords : List ℕ → Header → List ℕ → ℕ → ℕ → List ℤ → List ℤ
instance_coords table header font avar j out =
    coords_in (value_coord table header font avar (value_or [] (instance_values table header j))) (instance_count table header font avar j (length out)) out
