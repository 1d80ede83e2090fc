-- A loop over the numbers from i up to n. A turn is handed what comes after it: it ends, or goes onward with the next state.
use Rattle.std.specs.Prelude.{ℕ, zero, suc, ◌+◌, ◌-◌}

abbrev pub Turn : Type 0 → Type 0 → Type 0
Turn A B = ℕ → A → (A → B) → B

-- k turns are left.
unfoldable pub turns : {A B : Type 0} → Turn A B → (A → B) → ℕ → ℕ → A → B
turns turn end zero i a = end a
turns turn end (suc k) i a = turn i a (turns turn end k (i + 1))

unfoldable pub walk : {A B : Type 0} → Turn A B → (A → B) → ℕ → ℕ → A → B
walk turn end n i a = turns turn end (n - i) i a

-- A list made by such a loop, with no state: turn i puts what number i has before the rest. k numbers are left, from i on.
unfoldable pub each : {B : Type 0} → (ℕ → B → B) → B → ℕ → ℕ → B
each turn rest zero i = rest
each turn rest (suc k) i = turn i (each turn rest k (i + 1))
