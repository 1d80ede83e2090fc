-- Laws of a lent list that is filled. Assumes nothing.
use Prim.Native.Nat.{ℕ, zero, suc, ◌+◌, ◌≤◌, ◌<◌}
use mathlib.Core.Path.{◌≡◌, refl, ◌∙◌}
use mathlib.Core.Bool.{Bool, true, false}
use mathlib.Core.List.{List}
use native.Mathlib.Numerals.{add-one}
use native.Mathlib.Omega.{arith}
use borrow.Author.Tests.{eqb-true, eqb-false}
use lib.Dec.{eqb}
use lib.ListN.{length, get_or, set, length-set}
use lib.Seq.{get_or-set_same, get_or-set_other}
use Rattle.readers.specs.Outcome.{Outcome, value, refused}
use Rattle.readers.specs.Lent.{fill, written}

module _ {A : Type 0} (f : ℕ → A) where
  pub fill_length : (n : ℕ) (l : List A) → length (fill f n l) ≡ length l
  unfolding fill
  fill_length zero l = refl
  fill_length (suc n) l = length-set (fill f n l) n (f n) ∙ fill_length n l

  pub fill_none : (l : List A) → fill f 0 l ≡ l
  unfolding fill
  fill_none l = refl

  -- One write more, as a loop makes it: what is written is f at the loop's index.
  pub fill_more : (n : ℕ) (l out : List A) (a : A) → out ≡ fill f n l → a ≡ f n → set out n a ≡ fill f (n + 1) l
  unfolding fill
  fill_more n l out a p q = rw (add-one n, p, q)

  -- What the loop leaves when its index j has come to n.
  pub fill_end : (n j : ℕ) (l out : List A) → out ≡ fill f j l → j ≤ n → n ≤ j → out ≡ fill f n l
  fill_end n j l out p h k = let q : j ≡ n = omega arith in rw (← q) p

  -- An element below n is f's.
  pub fill_at : (n : ℕ) (l : List A) (i : ℕ) (d : A) → i < n → i < length l → get_or (fill f n l) i d ≡ f i
  unfolding fill
  fill_at zero l i d h k = absurd (omega arith)
  fill_at (suc n) l i d h k = go (eqb i n) refl (λ b. fill_at n l i d b k)
    where
      go : (t : Bool) → eqb i n ≡ t → (i < n → get_or (fill f n l) i d ≡ f i) → get_or (set (fill f n l) n (f n)) i d ≡ f i
      go true e ih = rw (eqb-true i n e) (get_or-set_same (fill f n l) n (f n) d (omega (arith, fill_length n l, eqb-true i n e)))
      go false e ih = get_or-set_other (fill f n l) n i (f n) d (eqb-false i n e) ∙ ih (omega (arith, eqb-false i n e))

-- Functions that agree below n fill alike.
pub fill_same : {A : Type 0} (f g : ℕ → A) (n : ℕ) (l : List A) → ((i : ℕ) → i < n → f i ≡ g i) → fill f n l ≡ fill g n l
unfolding fill
fill_same f g zero l h = refl
fill_same f g (suc n) l h = rw (fill_same f g n l (λ i b. h i (omega arith)), h n (omega arith))

-- At the end: written where d is a value, left as it was where d is a refusal; and d beside it, which the answer is.
module _ {A B : Type 0} (d : Outcome B) (write : B → List A → List A) (l : List A) where
  pub wrote : (out : List A) (b : B) → value b ≡ d → out ≡ write b l → (value b ≡ d) × (out ≡ written d write l)
  wrote out b e p = (e, rw (← e) p)

  pub left : (k : ℕ) → refused k ≡ d → (refused k ≡ d) × (l ≡ written d write l)
  left k e = (e, rw (← e))
