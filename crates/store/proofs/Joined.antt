-- What hangs on two footprints hangs on both, one behind the other; and a reading hangs on what it reads. Assumes nothing.
use Prim.Native.Nat.{ℕ, ◌+◌}
use mathlib.Core.Path.{◌≡◌, refl, ap₂, sym, ◌∙◌}
use mathlib.Core.Bool.{Bool, true, false, ◌&&◌, ◌||◌}
use mathlib.Core.List.{List, [], ◌∷◌, ◌++◌}
use lib.Dec.{leb, ltb}
use lib.IntN.{ℤ}
use Rattle.readers.specs.Outcome.{Outcome, value, refused, onward}
use Rattle.readers.specs.Reading.{Reading, answer, run, ◌>>=◌}
use Rattle.readers.proofs.Reading.{run_bind}
use Rattle.readers.proofs.TwoFonts.{answer_same}
use Rattle.opentype.specs.Footprint.{Part, start, size, covers, used_by, uses, parts_of, HangsOn}
use Rattle.store.proofs.SameParts.{Same, or_right, bind_same}
use Rattle.store.proofs.OnlyFootprint.{conclude}

or_assoc : (a b c : Bool) → (a || (b || c)) ≡ ((a || b) || c)
or_assoc true b c = refl
or_assoc false b c = refl

or_left : (a b : Bool) → a ≡ true → (a || b) ≡ true
or_left a b e = rw e

-- What two lists of parts cover, and the axes that they use.
pub covers_joined : (ps qs : List Part) (j : ℕ) → covers (ps ++ qs) j ≡ (covers ps j || covers qs j)
unfolding covers
covers_joined [] qs j = refl
covers_joined (part ∷ ps) qs j = rw (covers_joined ps qs j) (or_assoc (leb (start part) j && ltb j (start part + size part)) (covers ps j) (covers qs j))

pub uses_joined : (font : List ℕ) (ps qs : List Part) (axis : ℕ) → uses font (ps ++ qs) axis ≡ (uses font ps axis || uses font qs axis)
unfolding uses
uses_joined font [] qs axis = refl
uses_joined font (part ∷ ps) qs axis = rw (uses_joined font ps qs axis) (or_assoc (used_by font part axis) (uses font ps axis) (uses font qs axis))

module _ {A B C : Type 0} (join : A → B → C) (a : List ℕ → List ℤ → A) (b : List ℕ → List ℤ → B) (P Q : List ℕ → List Part) where
  pub joined_hangs_on : HangsOn a P → HangsOn b Q → HangsOn (λ font coords. join (a font coords) (b font coords)) (λ font. P font ++ Q font)
  joined_hangs_on h k f g c d len over on =
      let (e, ps, axes) = h f g c d len (λ j x. over j (covers_joined (P f) (Q f) j ∙ or_left _ _ x)) (λ axis x. on axis (uses_joined f (P f) (Q f) axis ∙ or_left _ _ x)) in
      let (e', qs, axes') = k f g c d len (λ j x. over j (covers_joined (P f) (Q f) j ∙ or_right (covers (P f) j) _ x)) (λ axis x. on axis (uses_joined f (P f) (Q f) axis ∙ or_right (uses f (P f) axis) _ x)) in (
        ap₂ join e e',
        ap₂ (λ (p q : List Part). p ++ q) ps qs,
        λ axis. uses_joined f (P f) (Q f) axis ∙ ap₂ (λ (x y : Bool). x || y) (axes axis) (axes' axis) ∙ sym (uses_joined g (P g) (Q g) axis),
      )

-- A reading and then nothing more.
run_answer : {A : Type 0} (font : List ℕ) (r : Reading A) → run font (r >>= answer) ≡ run font r
unfolding run
run_answer {A} font r = run_bind font r answer ∙ go (run font r)
  where
    go : (o : Outcome A) → onward o (λ a. value a) ≡ o
    go (value a) = refl
    go (refused n) = refl

pub reading_hangs_on : {A : Type 0} (r : Reading A) → HangsOn (λ font coords. run font r) (λ font. parts_of font r (λ a. []))
unfolding Same
reading_hangs_on r f g c d len over on =
    let same = bind_same f g c d len r answer answer (λ a. []) (λ a. []) (λ a e alike. (answer_same f g a, refl)) in
    let (e, parts, axes) = conclude f g c d len (r >>= answer) (r >>= answer) _ _ same over on in
    (sym (run_answer f r) ∙ e ∙ run_answer g r, parts, axes)
