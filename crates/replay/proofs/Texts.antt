-- A line's words are the parts that `split` cuts at its blanks. Assumes nothing.
use Rattle.std.proofs.Common.{◌≡◌, Option, None, Some, ℕ, zero, suc, ◌+◌, Bool, true, false, cond, eqb, List, [], ◌∷◌, length, refl, ap, arith}
use Rattle.std.specs.List.{slice_split, onto_first, slice_get, count_by}
use Rattle.std.specs.Option.{unwrap_or, option_map}
use Rattle.std.proofs.lemmas.List.Splits.{length-slice_split}
use Rattle.std.proofs.lemmas.Grind.{common_steps}
use Rattle.replay.specs.Words.{before_blank, after_blanks, word_of, word_count}

abbrev pub parts : List ℕ → List (List ℕ)
parts line = slice_split (λ c. eqb c 32) line

abbrev pub part : List (List ℕ) → ℕ → List ℕ
part words k = unwrap_or (slice_get words k) []

one_more : (line : List ℕ) → word_count line ≡ count_by (λ c. eqb c 32) line + 1
unfolding word_count
one_more [] = refl
one_more (c ∷ cs) = grind (arith, common_steps, one_more cs)

pub words_counted : (line : List ℕ) → length (parts line) ≡ word_count line
words_counted line = omega (arith, one_more line, length-slice_split (λ c. eqb c 32) line)

first_word : (blank : Bool) (c : ℕ) (words : List (List ℕ)) (w : List ℕ) → part words 0 ≡ w → part (cond blank ([] ∷ words) (onto_first c words)) 0 ≡ cond blank [] (c ∷ w)
first_word true c words w e = refl
first_word false c [] w e = ap (λ (l : List ℕ). c ∷ l) e
first_word false c (x ∷ xs) w e = ap (λ (l : List ℕ). c ∷ l) e

next_word : (blank : Bool) (c k : ℕ) (words : List (List ℕ)) (a b : List ℕ) → part words k ≡ before_blank a → part words (suc k) ≡ before_blank b → part (cond blank ([] ∷ words) (onto_first c words)) (suc k) ≡ before_blank (cond blank a b)
next_word true c k words a b e f = e
next_word false c k [] a b e f = f
next_word false c k (x ∷ xs) a b e f = f

pub word_there : (line : List ℕ) (k : ℕ) → part (parts line) k ≡ word_of k line
unfolding word_of after_blanks before_blank
word_there [] zero = refl
word_there [] (suc k) = refl
word_there (c ∷ cs) zero = first_word (eqb c 32) c (parts cs) (before_blank cs) (word_there cs 0)
word_there (c ∷ cs) (suc k) = next_word (eqb c 32) c k (parts cs) (after_blanks k cs) (after_blanks (suc k) cs) (word_there cs k) (word_there cs (suc k))

pub unwrapped : {A B : Type 0} (v : A → B) (r : Option A) (a : A) → v (unwrap_or r a) ≡ unwrap_or (option_map v r) (v a)
unwrapped v None a = refl
unwrapped v (Some x) a = refl
