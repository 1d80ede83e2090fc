-- What "no second answer" says. No contract cites this file: the theorems on public functions do, in every crate; their names end in `_one`. (Those of the opened MVAR are stated in full, `docs/DECISIONS.md` 49; that of `lister::run` too, which may fail, 85.) Assumes nothing.
use Rattle.std.specs.Prelude.{◌≡◌}

infixr 5 ◌and◌
-- The check makes of each function's contract a plain statement, `Post` in its module `Reads`: `Post κs a r s` says that its `ensures` allows, for the lifetimes κs and the arguments a, the
-- answer r with the parameters s at the exit. K, A, R and S are the types of these four. Of s, `s.0` is the first parameter, `s.1.0` the second, `s.1.1.0` the third; `.now` of a reference is what it leads to.

-- For the same arguments, all that a caller sees of two calls that the contract allows is equal; `seen` makes it of the answer and the parameters at the exit.
abbrev pub OneSeen : {K A R S Seen : Type 0} → (K → A → R → S → Type 0) → (R → S → Seen) → Type 0
OneSeen {K} {A} {R} {S} Post seen = (κs : K) (a : A) (r r' : R) (s s' : S) → Post κs a r s → Post κs a r' s' → seen r s ≡ seen r' s'

-- Of one thing that is seen and another, both.
abbrev pub ◌and◌ : {A B : Type 0} → A → B → A × B
a and b = (a, b)

-- No second answer meets the contract: of a function that writes nothing, its answer is all that a caller sees.
abbrev pub One : {K A R S : Type 0} → (K → A → R → S → Type 0) → Type 0
One Post = OneSeen Post (λ r s. r)
