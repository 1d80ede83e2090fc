-- `axes::axis::signed_fraction` meets its contract. Assumes nothing.
use mathlib.Core.Path.{◌≡◌, sym, ◌∙◌}
use mathlib.Core.Bool.{false, true≢false, ◌&&◌, ◌||◌}
use Rattle.numbers.specs.Numbers.{unlike}
use Rattle.opentype.specs.Axis.{is_least, fraction}
use Rattle.axes.proofs.Order.{least, negative}
use Rattle.axes.proofs.Quotient.{quotient_refused, quotient_signed}
use Rattle.axes.proofs.axis.signed_fraction.Goals as goal
use Rattle.axes.proofs.axis.signed_fraction.Goals.{then-eq-via-then-eq, then-eq-via-else-eq+then-eq-2, else-eq-3-via-then-eq-3+else-lt, then-below, else-below, else-eq-3-via-else-eq-3}

pub returns-then-eq : goal.returns-then-eq
unfolding fraction
returns-then-eq c =
    elim c.then-eq.branch [
      | then-eq-via-then-eq w ↦ rw (sym (rw least at w.if-eq.ensures))
      | then-eq-via-else-eq+then-eq-2 w ↦ rw (sym (rw least at w.if-eq.ensures), sym (rw least at w.if-eq-2.ensures))
    ]

pub returns-then-lt : goal.returns-then-lt
returns-then-lt c =
    quotient_refused c.args.below c.args.numerator.0 c.args.denominator.0
    (sym (rw least at c.if-eq.ensures))
    (sym (rw least at c.if-eq-2.ensures))
    (rw (← c.div-quotient.ensures) (sym (rw least at c.if-eq-3.ensures)))
    (elim c.if-below.branch [
      | then-below w ↦ rw w.if-below.true
      | else-below w ↦ rw (w.if-below.false, ← (rw negative at w.lt.ensures), ← (rw negative at w.lt-else-below.ensures)) (sym w.value-is ∙ c.if-lt.true)
    ])

pub returns : goal.returns
returns c =
    let args = c.args in
    let fits : (is_least c.div-quotient.result.0 && (args.below || unlike args.numerator.0 args.denominator.0)) ≡ false =
    elim c.else-eq-3.branch [
      | else-eq-3-via-then-eq-3+else-lt w ↦
          (elim w.if-below.branch [
            | then-below v ↦ absurd (true≢false (sym v.if-below.true ∙ sym v.value-is ∙ w.if-lt.false))
            | else-below v ↦
                rw (
                  sym (rw least at w.if-eq-3.ensures),
                  v.if-below.false,
                  ← (rw negative at v.lt.ensures),
                  ← (rw negative at v.lt-else-below.ensures),
                ) (sym v.value-is ∙ w.if-lt.false)
          ])
      | else-eq-3-via-else-eq-3 w ↦ rw (sym (rw least at w.if-eq-3.ensures))
    ] in
    rw (c.signed.ensures, c.div-quotient.ensures)
    (quotient_signed args.below args.numerator.0 args.denominator.0
    (sym (rw least at c.if-eq.ensures))
    (sym (rw least at c.if-eq-2.ensures))
    (rw (← c.div-quotient.ensures) fits))
