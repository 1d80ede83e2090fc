-- A lent list that is written only where nothing is refused.
use Rattle.std.specs.Prelude.{ℕ, zero, suc, List, set}
use Rattle.readers.specs.Outcome.{Outcome, value, refused}

-- The list with its first n elements replaced by f 0 up to f (n - 1); those beyond stay.
unfoldable pub fill : {A : Type 0} → (ℕ → A) → ℕ → List A → List A
fill f zero l = l
fill f (suc n) l = set (fill f n l) n (f n)

-- What a lent list holds at the end: on a refusal what it held.
abbrev pub written : {A B : Type 0} → Outcome B → (B → List A → List A) → List A → List A
written (value b) write l = write b l
written (refused n) write l = l
