-- The words of a line: one blank stands between two. A line is a list of ASCII codes.
use Rattle.std.specs.Prelude.{ℕ, zero, suc, ◌+◌, cond, List, [], ◌∷◌, ◌==◌}

-- What stands before the first blank; what stands behind the first k blanks.
unfoldable pub before_blank : List ℕ → List ℕ
before_blank [] = []
before_blank (c ∷ cs) = cond (c == 32) [] (c ∷ before_blank cs)

unfoldable pub after_blanks : ℕ → List ℕ → List ℕ
after_blanks zero cs = cs
after_blanks (suc k) [] = []
after_blanks (suc k) (c ∷ cs) = cond (c == 32) (after_blanks k cs) (after_blanks (suc k) cs)

-- Word k, counted from 0; past the last it is empty.
unfoldable pub word_of : ℕ → List ℕ → List ℕ
word_of k line = before_blank (after_blanks k line)

-- How many words there are: one more than blanks.
unfoldable pub word_count : List ℕ → ℕ
word_count [] = 1
word_count (c ∷ cs) = cond (c == 32) (word_count cs + 1) (word_count cs)
