-- MVAR's opening: the tests of its header, and the part of the font that it is read in. Assumes nothing.
use Prim.Native.Nat.{ℕ, ◌-◌, ◌<◌}
use mathlib.Core.Path.{◌≡◌, refl}
use mathlib.Core.Logic.{◌≢◌}
use mathlib.Core.Bool.{true, false, not, ◌||◌}
use mathlib.Core.List.{List, []}
use native.Mathlib.Omega.{arith}
use borrow.Author.Tests.{eq-eqb, ne_eqb}
use lib.Dec.{eqb}
use lib.ListN.{length, take, drop, length-drop, drop_of_length-le}
use lib.Seq.{take_all}
use Rattle.readers.specs.Answers.{number_of}
use Rattle.readers.specs.declared.Refusal.{Refusal}
use Rattle.readers.specs.declared.Refusal.TheVariants.{Absent, Short, Index, Tag, Arithmetic, Lengths, Room}

module _ (count store : ℕ) where
  -- The header's test: it fails where there are no records or there is no store, and holds elsewhere.
  pub no_records : count ≡ 0 → not (eqb count 0 || eqb store 0) ≡ false
  no_records p = rw (eq-eqb count 0 p)

  pub no_store : count ≢ 0 → store ≡ 0 → not (eqb count 0 || eqb store 0) ≡ false
  no_store p q = rw (ne_eqb count 0 p, eq-eqb store 0 q)

  pub opens : count ≢ 0 → store ≢ 0 → not (eqb count 0 || eqb store 0) ≡ true
  opens p q = rw (ne_eqb count 0 p, ne_eqb store 0 q)

pub ruleset openings = (no_records, no_store, opens)

module _ {A : Type 0} (s : List A) (at : ℕ) where
  -- The part from a position on, as the code cuts it; past the end it is empty.
  pub rest : take (length s - at) (drop at s) ≡ drop at s
  rest = take_all (length s - at) (drop at s) (omega (arith, length-drop at s))

  pub past_end : length s < at → drop at s ≡ []
  past_end h = drop_of_length-le s {i = at} (omega arith)

-- 0 is no refusal's number.
pub not_none : (n : Refusal) → eqb (number_of n) 0 ≡ false
not_none Absent = refl
not_none Short = refl
not_none Index = refl
not_none Tag = refl
not_none Arithmetic = refl
not_none Lengths = refl
not_none Room = refl
