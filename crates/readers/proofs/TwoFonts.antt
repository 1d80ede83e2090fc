-- The same reading of two fonts of one length. Assumes nothing.
use Prim.Native.Nat.{ℕ, ◌+◌, ◌≤◌}
use mathlib.Core.Path.{◌≡◌, refl}
use mathlib.Core.List.{List}
use mathlib.Core.Bool.{Bool, true, false, cond}
use lib.ListN.{length}
use lib.Dec.{leb}
use borrow.Author.Tests.{leb-true}
use Rattle.readers.specs.Outcome.{Outcome, value, refused, onward, unless}
use Rattle.readers.specs.Reading.{Reading, answer, refuse, tested, bytes_at, big_endian, run, ◌>>=◌}
use Rattle.readers.proofs.Bytes.{SameBytes, same_bytes}
use Rattle.readers.proofs.Reading.{run_bind}

-- Two readings with one outcome, and then two others.
pub then_same : {A B : Type 0} (f g : List ℕ) (r s : Reading A) (k l : A → Reading B) → run f r ≡ run g s
    → ((a : A) → run f r ≡ value a → run f (k a) ≡ run g (l a)) → run f (r >>= k) ≡ run g (s >>= l)
then_same f g r s k l e h = rw (run_bind f r k, run_bind g s l, ← e) (go (run f r) h)
  where
    go : (o : Outcome _) → ((a : _) → o ≡ value a → run f (k a) ≡ run g (l a)) → onward o (λ a. run f (k a)) ≡ onward o (λ a. run g (l a))
    go (value a) h = h a refl
    go (refused n) h = refl

-- One step of a reading: a read, a test, a choice, an end.
module _ {A : Type 0} (f g : List ℕ) where
  pub read_same : (n p : ℕ) (k l : ℕ → Reading A) → length f ≡ length g → (p + n ≤ length f → SameBytes n f g p)
      → ((x : ℕ) → run f (k x) ≡ run g (l x)) → run f (bytes_at n p k) ≡ run g (bytes_at n p l)
  unfolding run
  read_same n p k l len b h = rw (← len) (go (leb (p + n) (length f)) refl)
    where
      go : (t : Bool) → leb (p + n) (length f) ≡ t → unless t 2 (run f (k (big_endian n f p))) ≡ unless t 2 (run g (l (big_endian n g p)))
      go true e = rw (← same_bytes n f g p (b (leb-true (p + n) (length f) e))) (h (big_endian n f p))
      go false e = refl

  pub test_same : (t : Bool) (n : ℕ) (r s : Reading A) → (t ≡ true → run f r ≡ run g s) → run f (tested t n r) ≡ run g (tested t n s)
  unfolding run
  test_same true n r s h = h refl
  test_same false n r s h = refl

  pub choice_same : (t : Bool) (r s u v : Reading A) → (t ≡ true → run f r ≡ run g s) → (t ≡ false → run f u ≡ run g v) → run f (cond t r u) ≡ run g (cond t s v)
  choice_same true r s u v p q = p refl
  choice_same false r s u v p q = q refl

  pub answer_same : (a : A) → run f (answer a) ≡ run g (answer a)
  unfolding run
  answer_same a = refl

  pub refuse_same : (n : ℕ) → run {A = A} f (refuse n) ≡ run g (refuse n)
  unfolding run
  refuse_same n = refl
