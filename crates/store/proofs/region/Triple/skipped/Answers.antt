-- `store::region::Triple::skipped` meets its contract. Assumes nothing.
use mathlib.Core.Path.{◌≡◌, refl, sym, ◌∙◌}
use mathlib.Core.Bool.{true, false, ◌||◌}
use lib.IntN.{pos}
use lib.Signed.{lt_z}
use Rattle.numbers.proofs.Order.{below_was, alike_was, or_then, or_else}
use Rattle.opentype.specs.Region.{same, skipped}
use Rattle.store.proofs.region.Triple.skipped.Goals as goal
use Rattle.store.proofs.region.Triple.skipped.Goals.{Joined-lt, Joined-lt-2, then-lt, else-lt, then-lt-2, else-lt-2}

-- the tests as far as they have come
two : (c : Joined-lt) → (lt_z c.args.self.peak.0 c.args.self.start.0 || lt_z c.args.self.end.0 c.args.self.peak.0) ≡ c.if-lt.value
two c =
    let t = c.args in
    elim c.if-lt.branch [
      | then-lt w ↦ or_then _ _ (below_was t.self.peak.0 t.self.start.0 c.lt.ensures w.if-lt.true) (w.value-is ∙ w.if-lt.true)
      | else-lt w ↦ or_else _ _ (below_was t.self.peak.0 t.self.start.0 c.lt.ensures w.if-lt.false) (below_was t.self.end.0 t.self.peak.0 w.lt-else-lt.ensures (sym w.value-is))
    ]

three : (c : Joined-lt-2) → ((lt_z c.args.self.peak.0 c.args.self.start.0 || lt_z c.args.self.end.0 c.args.self.peak.0) || same c.args.self.peak.0 (pos 0)) ≡ c.if-lt-2.value
three c = elim c.if-lt-2.branch [
  | then-lt-2 w ↦ or_then _ _ (two c.before ∙ w.if-lt-2.true) (w.value-is ∙ w.if-lt-2.true)
  | else-lt-2 w ↦ or_else _ _ (two c.before ∙ w.if-lt-2.false) (alike_was c.args.self.peak.0 (pos 0) w.eq.ensures (sym w.value-is))
]

pub returns-then-eq : goal.returns-then-eq
unfolding skipped
returns-then-eq c = sym (or_then _ _ (three c.before ∙ c.if-eq.true) c.if-eq.true)

pub returns-then-lt-3 : goal.returns-then-lt-3
unfolding skipped
returns-then-lt-3 c =
    let t = c.args in
    let starts : lt_z t.self.start.0 (pos 0) ≡ true = below_was t.self.start.0 (pos 0) c.lt-else-eq.ensures c.if-lt-3.true in
    sym (or_else _ _ (three c.before.before.before.before.before.before.before.before ∙ c.if-eq.false) (rw starts (below_was (pos 0) t.self.end.0 c.lt-then-lt-3.ensures refl)))

pub returns-else-lt-3 : goal.returns-else-lt-3
unfolding skipped
returns-else-lt-3 c =
    let starts : lt_z c.args.self.start.0 (pos 0) ≡ false = below_was c.args.self.start.0 (pos 0) c.lt-else-eq.ensures c.if-lt-3.false in
    sym (or_else _ _ (three c.before.before.before.before.before ∙ c.if-eq.false) (rw starts (sym c.if-lt-3.false)))
