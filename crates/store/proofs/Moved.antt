-- A table is the part of the font from a position on: its parts are the font's, moved there. Assumes nothing.
use Prim.Native.Nat.{ℕ, zero, suc, ◌+◌, ◌-◌, ◌≤◌, ◌<◌}
use mathlib.Core.Path.{◌≡◌, refl, sym, ◌∙◌}
use mathlib.Core.List.{List, [], ◌∷◌, map}
use mathlib.Core.Bool.{Bool, true, false, ◌&&◌}
use lib.ListN.{length, drop, length-drop}
use lib.Seq.{get_or-drop}
use lib.Dec.{leb, ltb}
use native.Mathlib.Omega.{arith}
use borrow.Author.Tests.{le-leb, lt-leb, leb-true, leb-false}
use Rattle.readers.specs.Reading.{Reading, bytes_at, big_endian, unsigned_at, signed_at, run}
use Rattle.readers.proofs.TwoFonts.{answer_same}
use Rattle.opentype.specs.Region.{triple_at}
use Rattle.opentype.specs.Footprint.{Part, bytes, triple, covers, uses, moved, EqualOver}

-- Two tests that ask the same.
leb_alike : (a b c d : ℕ) → (c ≤ d → a ≤ b) → (d < c → b < a) → leb a b ≡ leb c d
leb_alike a b c d holds fails = go (leb c d) refl
  where
    go : (t : Bool) → leb c d ≡ t → leb a b ≡ t
    go true e = le-leb a b (holds (leb-true c d e))
    go false e = lt-leb a b (fails (leb-false c d e))

module _ (by : ℕ) (font : List ℕ) where
  number_moved : (n p : ℕ) → big_endian n (drop by font) p ≡ big_endian n font (by + p)
  unfolding big_endian
  number_moved zero p = refl
  number_moved (suc n) p =
      let e : by + (p + n) ≡ by + p + n = omega arith in
      rw (number_moved n p, get_or-drop by font (p + n) 0, e)

  -- A read of one byte or more, at q of the font.
  read_moved : {A : Type 0} (n p q : ℕ) (k l : ℕ → Reading A) → q ≡ by + p → ((x : ℕ) → run (drop by font) (k x) ≡ run font (l x))
      → run (drop by font) (bytes_at (suc n) p k) ≡ run font (bytes_at (suc n) q l)
  unfolding run
  read_moved n p q k l at h = rw (at, within, number_moved (suc n) p, h (big_endian (suc n) font (by + p)))
    where
      within : leb (p + suc n) (length (drop by font)) ≡ leb (by + p + suc n) (length font)
      within = rw (length-drop by font) (leb_alike (p + suc n) (length font - by) (by + p + suc n) (length font) (λ a. omega arith) (λ a. omega arith))

  triple_moved : (p : ℕ) → run (drop by font) (triple_at p) ≡ run font (triple_at (by + p))
  unfolding triple_at signed_at unsigned_at
  triple_moved p =
      read_moved 1 p (by + p) _ _ refl λ start.
      read_moved 1 (p + 2) (by + p + 2) _ _ (omega arith) λ peak.
      read_moved 1 (p + 4) (by + p + 4) _ _ (omega arith) λ end.
      answer_same (drop by font) font _

  pub uses_moved : (parts : List Part) (axis : ℕ) → uses font (map (moved by) parts) axis ≡ uses (drop by font) parts axis
  unfolding uses
  uses_moved [] axis = refl
  uses_moved (bytes p n ∷ parts) axis = uses_moved parts axis
  uses_moved (triple p a ∷ parts) axis = rw (triple_moved p, uses_moved parts axis)

module _ (by : ℕ) where
  -- Whether byte j is among the n from p on, both moved.
  among_moved : (p n j : ℕ) → (leb (by + p) (by + j) && ltb (by + j) (by + p + n)) ≡ (leb p j && ltb j (p + n))
  among_moved p n j = rw (
    leb_alike (by + p) (by + j) p j (λ a. omega arith) (λ a. omega arith),
    leb_alike (suc (by + j)) (by + p + n) (suc j) (p + n) (λ a. omega arith) (λ a. omega arith),
  )

  covers_moved : (parts : List Part) (j : ℕ) → covers (map (moved by) parts) (by + j) ≡ covers parts j
  unfolding covers
  covers_moved [] j = refl
  covers_moved (bytes p n ∷ parts) j = rw (among_moved p n j, covers_moved parts j)
  covers_moved (triple p a ∷ parts) j = rw (among_moved p 6 j, covers_moved parts j)

  pub over_moved : (f g : List ℕ) (parts : List Part) → EqualOver (map (moved by) parts) f g → EqualOver parts (drop by f) (drop by g)
  over_moved f g parts over j e = get_or-drop by f j 0 ∙ over (by + j) (covers_moved parts j ∙ e) ∙ sym (get_or-drop by g j 0)
