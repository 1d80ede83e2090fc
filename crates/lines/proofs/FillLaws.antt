-- What filling leaves, and what it answers. Assumes nothing.
use Prim.Native.Nat.{ℕ}
use mathlib.Core.Path.{◌≡◌, refl}
use mathlib.Core.List.{List}
use lib.Dec.{leb}
use lib.IntN.{ℤ}
use lib.ListN.{length}
use Rattle.readers.specs.Outcome.{Outcome, value, refused}
use Rattle.readers.specs.Reading.{answer, ◌>>=◌, ◌>>◌, check, run}
use Rattle.readers.specs.Lent.{fill}
use Rattle.readers.proofs.Reading.{run_bind}
use Rattle.opentype.specs.Item.{Regions}
use Rattle.opentype.specs.Lines.{kept_scalar, room_for, fill_count, filled}
use Rattle.lines.specs.LinesAnswers.{regions_in}

module _ (font : List ℕ) (store : ℕ) (coords scalars : List ℤ) where
  -- The two steps of the code: the regions, and whether there is room for them.
  abbrev pub room : Outcome Regions
  room = run font (regions_in store >>= λ regions. check (leb regions.region_count (length scalars)) 7 >> answer regions)

  in_steps : room ≡ run font (room_for store (length scalars))
  unfolding regions_in room_for
  in_steps = refl

  pub fill_left : (k : ℕ) → refused k ≡ room → (refused k ≡ fill_count font store (length scalars)) × (scalars ≡ filled font store coords scalars)
  unfolding fill_count filled
  fill_left k e = (rw (run_bind font (room_for store (length scalars)) (λ (r : Regions). answer r.region_count), ← in_steps, ← e), rw (← in_steps, ← e))

  pub fill_wrote : (regions : Regions) (out : List ℤ) → value regions ≡ room → out ≡ fill (kept_scalar font coords regions) regions.region_count scalars
      → (value regions.region_count ≡ fill_count font store (length scalars)) × (out ≡ filled font store coords scalars)
  unfolding fill_count filled run
  fill_wrote regions out e p = (rw (run_bind font (room_for store (length scalars)) (λ (r : Regions). answer r.region_count), ← in_steps, ← e), rw (← in_steps, ← e) p)
