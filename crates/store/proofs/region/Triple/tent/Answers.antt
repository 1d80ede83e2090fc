-- `store::region::Triple::tent` meets its contract. Assumes nothing.
use mathlib.Core.Path.{◌≡◌, refl, ap, sym, ◌∙◌}
use mathlib.Core.Bool.{Bool, true, false, ◌||◌}
use lib.IntN.{ℤ}
use lib.Signed.{lt_z}
use Rattle.std.specs.Ordering.{is_lt, int_cmp}
use Rattle.numbers.proofs.Order.{below_was, alike_was, or_then, or_else}
use Rattle.opentype.specs.Region.{tent, next}
use Rattle.store.proofs.region.Triple.tent.Goals as goal
use Rattle.store.proofs.region.Triple.tent.Goals.{then-lt-via-then-lt, then-lt-via-else-lt+then-lt-2}

pub returns-then-skipped : goal.returns-then-skipped
unfolding tent
returns-then-skipped c = rw (sym c.skipped.ensures ∙ c.if-skipped.true)

pub returns-then-lt : goal.returns-then-lt
unfolding tent
returns-then-lt c =
    let t = c.args in
    let outside : (lt_z t.c.0 t.self.start.0 || lt_z t.self.end.0 t.c.0) ≡ true =
    elim c.then-lt.branch [
      | then-lt-via-then-lt w ↦ or_then _ _ (below_was t.c.0 t.self.start.0 c.lt.ensures w.if-lt.true) refl
      | then-lt-via-else-lt+then-lt-2 w ↦ or_else _ _ (below_was t.c.0 t.self.start.0 c.lt.ensures w.if-lt.false) (below_was t.self.end.0 t.c.0 w.lt-else-lt.ensures w.if-lt-2.true)
    ] in
    rw (sym c.skipped.ensures ∙ c.if-skipped.false, outside)

inside : (c start end : ℤ) {s t : Bool} → s ≡ is_lt (int_cmp c start) → s ≡ false → t ≡ is_lt (int_cmp end c) → t ≡ false → (lt_z c start || lt_z end c) ≡ false
inside c start end p q p' q' = or_else _ _ (below_was c start p q) (below_was end c p' q')

pub returns-then-eq : goal.returns-then-eq
unfolding tent
returns-then-eq c =
    let t = c.args in
    rw (sym c.skipped.ensures ∙ c.if-skipped.false, inside t.c.0 t.self.start.0 t.self.end.0 c.lt.ensures c.if-lt.false c.lt-else-lt.ensures c.if-lt-2.false, alike_was t.c.0 t.self.peak.0 c.eq.ensures c.if-eq.true)

pub returns-then-lt-3 : goal.returns-then-lt-3
unfolding tent
returns-then-lt-3 c =
    let t = c.args in
    rw (
      sym c.skipped.ensures ∙ c.if-skipped.false,
      inside t.c.0 t.self.start.0 t.self.end.0 c.lt.ensures c.if-lt.false c.lt-else-lt.ensures c.if-lt-2.false,
      alike_was t.c.0 t.self.peak.0 c.eq.ensures c.if-eq.false,
      below_was t.c.0 t.self.peak.0 c.lt-2.ensures c.if-lt-3.true,
    ) (ap next (rw (c.difference.ensures, c.difference-then-lt-3.ensures) at c.scaled.ensures))

pub returns : goal.returns
unfolding tent
returns c =
    let t = c.args in
    rw (
      sym c.skipped.ensures ∙ c.if-skipped.false,
      inside t.c.0 t.self.start.0 t.self.end.0 c.lt.ensures c.if-lt.false c.lt-else-lt.ensures c.if-lt-2.false,
      alike_was t.c.0 t.self.peak.0 c.eq.ensures c.if-eq.false,
      below_was t.c.0 t.self.peak.0 c.lt-2.ensures c.if-lt-3.false,
    ) (ap next (rw (c.difference-2.ensures, c.difference-3.ensures) at c.scaled-2.ensures))
