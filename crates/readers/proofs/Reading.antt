-- Laws of readings. Assumes nothing.
-- The rules over `run font (..)` go from a definition's outcome back to what the calls ensure and the case that each answer was: `search` follows a chain
-- of reads by them with no path written, as in `search (reads, ends) depth 8` under `unfolding` of the definition.
use Prim.Native.Nat.{ℕ, ◌+◌, ◌/◌}
use lib.IntN.{ℤ}
use mir.Syntax.{Width}
use mir.Val.{bits, to_z}
use mathlib.Core.Path.{◌≡◌, refl, ap, sym, ◌∙◌}
use mathlib.Core.List.{List}
use mathlib.Core.Bool.{Bool, true, false, cond}
use lib.ListN.{length}
use lib.Dec.{leb}
use Rattle.std.specs.Prelude.{Result, Ok, Err, IsErr, IsErrAnd}
use borrow.Author.Tests.{le-leb, lt-leb, lt-ltb, le-ltb, eq-eqb, ne_eqb}
use Rattle.readers.specs.Outcome.{Outcome, value, refused, onward, unless}
use Rattle.readers.specs.Reading.{Reading, answer, refuse, tested, bytes_at, ◌>>=◌, big_endian, read_at, unsigned_at, signed_at, run}
use Rattle.readers.specs.Answers.{number_of, refusal, outcome_as, outcome}
use Rattle.readers.specs.declared.Refusal.{Refusal}
use Rattle.readers.proofs.Outcome.{onward_by, halt_by, unless_onward}

-- One reading and then another.
pub run_bind : {A B : Type 0} (font : List ℕ) (r : Reading A) (k : A → Reading B) → run font (r >>= k) ≡ onward (run font r) (λ a. run font (k a))
unfolding run
run_bind font (answer a) k = refl
run_bind font (refuse n) k = refl
run_bind font (tested t n r) k = rw (run_bind font r k) (unless_onward t n (run font r) (λ a. run font (k a)))
run_bind font (bytes_at n p f) k = rw (run_bind font (f (big_endian n font p)) k) (unless_onward (leb (p + n) (length font)) 2 (run font (f (big_endian n font p))) (λ a. run font (k a)))

-- A reading of two and then a third is the first and then a reading of two.
pub run_nested : {A B C : Type 0} (font : List ℕ) (d : Reading A) (g : A → Reading B) (f : B → Reading C) → run font ((d >>= g) >>= f) ≡ run font (d >>= λ a. g a >>= f)
run_nested {A} font d g f = rw (run_bind font (d >>= g) f, run_bind font d g, run_bind font d (λ a. g a >>= f)) (go (run font d))
  where
    go : (o : Outcome A) → onward (onward o (λ a. run font (g a))) (λ b. run font (f b)) ≡ onward o (λ a. run font (g a >>= f))
    go (value a) = sym (run_bind font (g a) f)
    go (refused n) = refl

-- A definition that goes on after a read that gave a value; after one that refused. o gives the outcome of the read's answer.
module _ {R A C : Type 0} (o : R → Outcome A) (font : List ℕ) (d : Reading A) (f : A → Reading C) where
  pub took_by : (w : Outcome C) {r v : R} {x : A} → o r ≡ run font d → r ≡ v → o v ≡ value x → w ≡ run font (f x) → w ≡ run font (d >>= f)
  took_by w p q e g = rw (run_bind font d f) (onward_by o (run font d) (λ a. run font (f a)) w p q e g)

  pub stop_by : {r v : R} {n : ℕ} → o r ≡ run font d → r ≡ v → o v ≡ refused n → refused n ≡ run font (d >>= f)
  stop_by p q e = rw (run_bind font d f) (halt_by o (run font d) (λ a. run font (f a)) p q e)

-- The same of the code's answers, whose values are read as `seen` has them.
module _ {R A C : Type 0} (seen : R → A) (font : List ℕ) (d : Reading A) (f : A → Reading C) where
  pub took_as : (w : Outcome C) {r : Result R Refusal} {x : R} → outcome_as seen r ≡ run font d → r ≡ Ok x → w ≡ run font (f (seen x)) → w ≡ run font (d >>= f)
  took_as w p q g = took_by (outcome_as seen) font d f w p q refl g

  pub stop_as : {r : Result R Refusal} {n : Refusal} → outcome_as seen r ≡ run font d → r ≡ Err n → refusal n ≡ run font (d >>= f)
  stop_as p q = stop_by (outcome_as seen) font d f p q refl

-- With the map left open `search` doesn't find them.
module _ {A C : Type 0} (font : List ℕ) (d : Reading A) (f : A → Reading C) where
  pub took : (w : Outcome C) {r : Result A Refusal} {x : A} → outcome r ≡ run font d → r ≡ Ok x → w ≡ run font (f x) → w ≡ run font (d >>= f)
  took w p q g = took_as (λ x. x) font d f w p q g

  pub stop : {r : Result A Refusal} {n : Refusal} → outcome r ≡ run font d → r ≡ Err n → refusal n ≡ run font (d >>= f)
  stop p q = stop_as (λ x. x) font d f p q

-- A refusal n that `?` hands on, in the caller's answer r, whose value is read as `seen` has it.
pub handed_on : {R A : Type 0} (seen : R → A) (r : Result R Refusal) (n : Refusal) → IsErr r × IsErrAnd r (λ e. e ≡ n) → outcome_as seen r ≡ refusal n
handed_on seen (Ok x) n h = absurd h.1
handed_on seen (Err e) n h = ap refusal h.1

-- A definition that goes on after a call that `?` takes apart: from what the call ensures of the value, or of the refusal.
module _ {A C : Type 0} (font : List ℕ) (d : Reading A) (f : A → Reading C) where
  pub went_on_call : (w : Outcome C) {x : A} → value x ≡ run font d → w ≡ run font (f x) → w ≡ run font (d >>= f)
  went_on_call w t g = took_by (λ o. o) font d f w t refl refl g

  pub stopped_call : {R : Type 0} (seen : R → C) (r : Result R Refusal) (n : Refusal) → IsErr r × IsErrAnd r (λ e. e ≡ n) → refusal n ≡ run font d → outcome_as seen r ≡ run font (d >>= f)
  stopped_call seen r n h t = handed_on seen r n h ∙ stop_by (λ o. o) font d f t refl refl

-- The same of a read of an unsigned number, ..
module _ {C : Type 0} (font : List ℕ) (n p : ℕ) (f : ℕ → Reading C) where
  pub went_on : (w : Outcome C) {x : ℕ} → value x ≡ run font (read_at n (λ x. x) p) → w ≡ run font (f x) → w ≡ run font (unsigned_at n p >>= f)
  unfolding unsigned_at
  went_on w t g = went_on_call font (read_at n (λ x. x) p) f w t g

  pub stopped : {R : Type 0} (seen : R → C) (r : Result R Refusal) (k : Refusal) → IsErr r × IsErrAnd r (λ e. e ≡ k) → refusal k ≡ run font (read_at n (λ x. x) p) → outcome_as seen r ≡ run font (unsigned_at n p >>= f)
  unfolding unsigned_at
  stopped seen r k h t = stopped_call font (read_at n (λ x. x) p) f seen r k h t

-- .. and of a signed one.
module _ {C : Type 0} (font : List ℕ) (w : Width) (p : ℕ) (f : ℤ → Reading C) where
  pub went_on_signed : (o : Outcome C) {x : ℤ} → value x ≡ run font (read_at (bits w / 8) (to_z w) p) → o ≡ run font (f x) → o ≡ run font (signed_at w p >>= f)
  unfolding signed_at unsigned_at
  went_on_signed o t g = went_on_call font (read_at (bits w / 8) (to_z w) p) f o t g

  pub stopped_signed : {R : Type 0} (seen : R → C) (r : Result R Refusal) (k : Refusal) → IsErr r × IsErrAnd r (λ e. e ≡ k) → refusal k ≡ run font (read_at (bits w / 8) (to_z w) p) → outcome_as seen r ≡ run font (signed_at w p >>= f)
  unfolding signed_at unsigned_at
  stopped_signed seen r k h t = stopped_call font (read_at (bits w / 8) (to_z w) p) f seen r k h t

-- A read of which g is seen: of its value, and where it refuses.
module _ {A B : Type 0} (font : List ℕ) (n p : ℕ) (f : ℕ → A) (g : A → B) where
  pub seen_by : (x : A) → value x ≡ run font (read_at n f p) → value (g x) ≡ run font (read_at n (λ k. g (f k)) p)
  unfolding run
  seen_by x = go (leb (p + n) (length font)) (f (big_endian n font p))
    where
      go : (t : Bool) (y : A) → value x ≡ unless t 2 (value y) → value (g x) ≡ unless t 2 (value (g y))
      go true y e = let same : x ≡ y = cc in ap (λ (z : A). value (g z)) same
      go false y e = cc

  pub cut_alike : (k : Refusal) → refusal {A = A} k ≡ run font (read_at n f p) → refusal {A = B} k ≡ run font (read_at n (λ k. g (f k)) p)
  unfolding run
  cut_alike k = go (leb (p + n) (length font)) (f (big_endian n font p))
    where
      go : (t : Bool) (y : A) → refusal {A = A} k ≡ unless t 2 (value y) → refusal {A = B} k ≡ unless t 2 (value (g y))
      go true y e = cc
      go false y e = let same : number_of k ≡ 2 = cc in ap refused same

module _ {C : Type 0} (font : List ℕ) where
  pub answered : (a : C) → value a ≡ run font (answer a)
  unfolding run
  answered a = refl

  pub declined : (n : ℕ) → ◌≡◌ {A = Outcome C} (refused n) (run font (refuse n))
  unfolding run
  declined n = refl

  -- A test that holds, and one that fails.
  pub passed : (t : Bool) (n : ℕ) (d : Reading C) (w : Outcome C) → t ≡ true → w ≡ run font d → w ≡ run font (tested t n d)
  unfolding run
  passed t n d w p e = rw p e

  pub failed : (t : Bool) (n : ℕ) (d : Reading C) → t ≡ false → refused n ≡ run font (tested t n d)
  unfolding run
  failed t n d p = rw p

  -- A choice between two readings.
  pub chosen : (t : Bool) (d e : Reading C) (w : Outcome C) → t ≡ true → w ≡ run font d → w ≡ run font (cond t d e)
  chosen t d e w p g = rw p g

  pub otherwise : (t : Bool) (d e : Reading C) (w : Outcome C) → t ≡ false → w ≡ run font e → w ≡ run font (cond t d e)
  otherwise t d e w p g = rw p g

-- Lists for `search`, none with a rule of another: each rule that is listed is tried at each step, so list what the function reads and no more.
pub ruleset reads = (took, stop)

pub ruleset exits = (went_on, stopped)

pub ruleset call_exits = (went_on_call, stopped_call)

pub ruleset ends = (answered, declined)

pub ruleset tests = (passed, failed)

pub ruleset choices = (chosen, otherwise)

pub ruleset comparisons = (le-leb, lt-leb, lt-ltb, le-ltb, eq-eqb, ne_eqb)
