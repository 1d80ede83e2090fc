-- `Records::find` meets its contract. Assumes nothing.
use Prim.Native.Nat.{ℕ, ◌-◌, ◌≤◌}
use mathlib.Core.Path.{◌≡◌}
use Rattle.readers.specs.Reading.{run}
use Rattle.opentype.specs.Search.{searched, search_in}
use Rattle.store.specs.KeyedAnswers.{records_of, place}
use Rattle.store.proofs.keyed.Records.find.Given as goal

-- k turns are left, enough for what lies between l and h.
abbrev pub invariant-loop-l : goal.invariant-loop-l
invariant-loop-l g l =
    let records = records_of g.K.FromBeData.SIZE l.self in
    (l.h ≤ l.self.count) × ((k : ℕ) × (l.h - l.l ≤ k) × (run l.font (search_in records place l.wanted k l.l l.h) ≡ run l.font (searched records place l.wanted l.self.count)))

abbrev pub decreases-loop-l : goal.decreases-loop-l
decreases-loop-l g l = l.h - l.l
