-- A region's triple: its six bytes, its order, and the differences of its numbers. Assumes nothing.
use mathlib.Core.Path.{◌≡◌, refl, sym, ◌∙◌}
use mathlib.Core.Bool.{Bool, true, false, ◌||◌}
use mathlib.Core.List.{List}
use Prim.Native.Nat.{ℕ, ◌+◌, ◌*◌, ◌^◌, ◌≤◌, ◌<◌}
use native.Mathlib.Omega.{arith}
use borrow.Author.Tests.{leb-true, leb-false}
use lib.ListN.{length}
use lib.Dec.{leb}
use lib.IntN.{ℤ, pos, negsuc}
use lib.Signed.{mag, lt_z}
use mir.Syntax.{w16}
use mir.Val.{to_z}
use Rattle.numbers.proofs.Gaps.{gap}
use Rattle.readers.specs.Outcome.{Outcome, value, refused}
use Rattle.readers.specs.Reading.{Reading, answer, ◌>>=◌, unsigned_at, signed_at, big_endian, run}
use Rattle.readers.proofs.Bytes.{present, missing, SameBytes}
use Rattle.readers.proofs.Passed.{bytes_there, cut_later}
use Rattle.readers.proofs.Reading.{went_on_call, stopped_call}
use Rattle.readers.proofs.TwoFonts.{read_same, answer_same}
use Rattle.opentype.specs.Region.{Triple, triple_at, coordinate, skipped, Tent, tent_at, under, axis_turn}
use Rattle.std.specs.Prelude.{Result, IsErr, IsErrAnd}
use Rattle.numbers.specs.declared.Fixed.{Fixed}
use Rattle.readers.specs.declared.Refusal.{Refusal}
use Rattle.readers.specs.Answers.{refusal, outcome_fixed}

-- ---- the bytes

-- The triple that the six bytes at p make.
abbrev pub triple_in : List ℕ → ℕ → Triple
triple_in font p = record {
  start = to_z w16 (big_endian 2 font p);
  peak = to_z w16 (big_endian 2 font (p + 2));
  end = to_z w16 (big_endian 2 font (p + 4));
}

-- One test of the six bytes stands for the three reads: all of them refuse alike.
module _ {A : Type 0} (font : List ℕ) (p : ℕ) (k : Triple → Reading A) where
  pub triple_there : (w : Outcome A) → p + 6 ≤ length font → w ≡ run font (k (triple_in font p)) → w ≡ run font (triple_at p >>= k)
  unfolding triple_at signed_at unsigned_at
  triple_there w h e = present 2 font p _ w (omega arith) (present 2 font (p + 2) _ w (omega arith) (present 2 font (p + 4) _ w (omega arith) e))

  pub triple_cut : length font < p + 6 → refused 2 ≡ run font (triple_at p >>= k)
  unfolding triple_at signed_at unsigned_at
  triple_cut h = sym (cut_later font 2 p _ (λ x. cut_later font 2 (p + 2) _ (λ y. sym (missing 2 font (p + 4) _ (omega arith)))))

  -- A value was made of the triple.
  pub triple_was : (a : A) → run font (triple_at p >>= k) ≡ value a → run font (k (triple_in font p)) ≡ value a
  unfolding triple_at signed_at unsigned_at
  triple_was a e = (bytes_there font 2 (p + 4) _ a (bytes_there font 2 (p + 2) _ a (bytes_there font 2 p _ a e).1).1).1

-- A triple that was read is whole.
pub triple_whole : (font : List ℕ) (p : ℕ) (t : Triple) → run font (triple_at p) ≡ value t → p + 6 ≤ length font
unfolding triple_at signed_at unsigned_at
triple_whole font p t e = omega (arith, (bytes_there font 2 (p + 4) _ t (bytes_there font 2 (p + 2) _ t (bytes_there font 2 p _ t e).1).1).0)

-- Two fonts of one length have the same triple, if its bytes are the same where it is whole.
module _ (f g : List ℕ) (p : ℕ) (len : length f ≡ length g) where
  both_whole : SameBytes 6 f g p → run f (triple_at p) ≡ run g (triple_at p)
  unfolding triple_at signed_at unsigned_at
  both_whole h =
      read_same f g 2 p _ _ len (λ w j l u. h j l (omega arith)) λ start.
      read_same f g 2 (p + 2) _ _ len (λ w j l u. h j (omega arith) (omega arith)) λ peak.
      read_same f g 2 (p + 4) _ _ len (λ w j l u. h j (omega arith) (omega arith)) λ end.
      answer_same f g _

  both_cut : length f < p + 6 → run f (triple_at p) ≡ run g (triple_at p)
  unfolding triple_at signed_at unsigned_at
  both_cut h = sym (triple_cut f p answer h) ∙ triple_cut g p answer (rw len at h)

  pub triple_same : (p + 6 ≤ length f → SameBytes 6 f g p) → run f (triple_at p) ≡ run g (triple_at p)
  triple_same h = go (leb (p + 6) (length f)) refl
    where
      go : (b : Bool) → leb (p + 6) (length f) ≡ b → run f (triple_at p) ≡ run g (triple_at p)
      go true e = both_whole (h (leb-true (p + 6) (length f) e))
      go false e = both_cut (leb-false (p + 6) (length f) e)

-- ---- an axis of a region, by what `axis_at` answers

module _ (coords : List ℤ) (p axis : ℕ) (scalar : ℤ) (onward : ℤ → Reading ℤ) where
  -- c is the coordinate that the code found.
  module _ (font : List ℕ) {c : ℤ} (found : c ≡ coordinate coords axis) where
    pub axis_took : (w : Outcome ℤ) (t : Tent) → value t ≡ run font (tent_at (p + 6 * axis) c scalar) → w ≡ run font (under t onward) → w ≡ run font (axis_turn coords p axis scalar onward)
    unfolding axis_turn
    axis_took w t told g = rw (← found) (went_on_call font _ (λ t. under t onward) w told g)

    pub axis_stop : (r : Result Fixed Refusal) (n : Refusal) → IsErr r × IsErrAnd r (λ e. e ≡ n) → refusal n ≡ run font (tent_at (p + 6 * axis) c scalar) → outcome_fixed r ≡ run font (axis_turn coords p axis scalar onward)
    unfolding axis_turn
    axis_stop r n h told = rw (← found) (stopped_call font _ (λ t. under t onward) (λ x. x.0) r n h told)

-- ---- the order

pub neither : (a b : Bool) → (a || b) ≡ false → (a ≡ false) × (b ≡ false)
neither true b e = (e, cc)
neither false b e = (refl, e)

-- A triple that is not skipped rises to its peak and falls from it.
pub in_order : (t : Triple) → skipped t ≡ false → (lt_z t.peak t.start ≡ false) × (lt_z t.end t.peak ≡ false)
unfolding skipped
in_order t e = neither _ _ (neither _ _ (neither _ _ e).0).0

-- ---- a difference of two 2.14 numbers

pub gap_small : (x y : ℤ) → mag x < 2 ^ 15 → mag y < 2 ^ 15 → gap x y < 0x1_0000
gap_small (pos a) (pos b) p q = omega arith
gap_small (pos a) (negsuc b) p q = omega arith
gap_small (negsuc a) (pos b) p q = omega arith
gap_small (negsuc a) (negsuc b) p q = omega arith
