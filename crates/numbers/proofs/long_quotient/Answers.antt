-- `numbers::long_quotient` meets its contract: with each bit one fewer is left to make. Assumes nothing.
use Rattle.std.proofs.Common.{◌≡◌, ℕ, suc, ◌+◌, ◌-◌, ◌*◌, ◌/◌, ◌%◌, ◌^◌, ◌<◌, refl, ap, mul_comm, div-le_self, arith}
use native.Mathlib.Nat.{div-div-eq-div-mul}
use lib.Bits.{and_mask}
use Rattle.numbers.proofs.Quotient.{Going, set_out, step, stay, arrived, Shifted, shifted, even}
use Rattle.numbers.proofs.long_quotient.Lts as lts
use Rattle.numbers.proofs.long_quotient.Tie as tie
use Rattle.numbers.proofs.long_quotient.Reads as reads
use Rattle.numbers.proofs.long_quotient.Goals as goal
use Rattle.numbers.proofs.long_quotient.Goals.{Joined-shift-eq1-2, then-n-shifted, else-n-shifted, then-shift-eq1, else-shift-eq1, then-shift-eq1-2, else-shift-eq1-2}

abbrev Joined-shift-eq1 : Type 0
Joined-shift-eq1 = lts.Joined2 tie.the-claims reads.Pre reads.Post goal.the-invariant-loop goal.the-decreases-loop tie.handed_clauses

sizes : (a : goal.Start) → Shifted a.args.d a.args.shift
sizes a = shifted a.args.d a.args.shift a.requires.d_nonzero a.requires.shift_bound

abbrev take-of : goal.Start → ℕ
take-of a = a.args.d * 2 ^ a.args.shift % 2 ^ 64 - 1

taken : (a : goal.Start) → take-of a + 1 ≡ a.args.d * 2 ^ a.args.shift
taken a = let h = sizes a in omega (arith, a.requires.shift_bound)

take-fits : (a : goal.Start) → take-of a < 2 ^ 63
take-fits a = omega (arith, taken a, a.requires.shift_bound)

-- the word on its way, with a first bit and so many to make
abbrev On : goal.Start → ℕ → ℕ → ℕ → Type 0
On a first k word = Going a.args.n a.args.d first a.args.shift (take-of a) k word

-- after each of the three tests
begun : (c : goal.Joined-n-shifted) → On c.before c.if-n-shifted.first c.args.shift c.if-n-shifted.word
begun c =
    let h = sizes c.before in
    let d = c.args.d in
    let up = 2 ^ c.args.shift in
    let start : (c.if-n-shifted.word < d * up) × (c.args.n ≡ c.if-n-shifted.first * d + c.if-n-shifted.word) =
    elim c.if-n-shifted.branch [
      | then-n-shifted w ↦ let e : c.if-n-shifted.first ≡ up = omega arith in (omega arith, omega (arith, mul_comm up d, ap (λ (z : ℕ). z * d) e))
      | else-n-shifted w ↦ let e : c.if-n-shifted.first ≡ 0 = omega arith in (omega arith, omega (arith, ap (λ (z : ℕ). z * d) e))
    ] in
    set_out (taken c.before) start.0 start.1

evened : (c : Joined-shift-eq1) (k : ℕ) → k ≡ c.args.shift / 2 * 2 → On c.before.before c.if-n-shifted.first k c.if-shift-eq1.word
evened c k q =
    let g = begun c.before in
    elim c.if-shift-eq1.branch [
      | then-shift-eq1 w ↦ step k (omega (arith, w.if-shift-eq1.true)) g (rw w.word-is w.next_bit-word.ensures)
      | else-shift-eq1 w ↦ rw w.word-is (stay (omega (arith, even c.args.shift w.if-shift-eq1.false)) g)
    ]

halved : (c : Joined-shift-eq1-2) (k : ℕ) → k ≡ 4 * (c.args.shift / 4) → On c.before.before.before c.if-n-shifted.first k c.if-shift-eq1-2.word
halved c k q =
    let shift = c.args.shift in
    let quarter = div-div-eq-div-mul shift 2 2 in
    elim c.if-shift-eq1-2.branch [
      | then-shift-eq1-2 w ↦
          step k refl (step (suc k) refl (evened c.before (suc (suc k)) (omega (arith, w.if-shift-eq1-2.true))) w.next_bit.ensures)
          (rw w.word-is w.next_bit-word-then-shift-eq1-2.ensures)
      | else-shift-eq1-2 w ↦ rw w.word-is (evened c.before k (omega (arith, even (shift / 2) w.if-shift-eq1-2.false)))
    ]

quotient_is : goal.returns
quotient_is c =
    let i = c.loop in
    let a = c.before.before.before.before.before.before.before in
    rw (i.invariant.0, and_mask i.word a.args.shift) (arrived (omega (arith, c.loop-test.false)) i.invariant.2)

pub overflow_shl-unit : goal.overflow_shl-unit
overflow_shl-unit c = let h = sizes c in omega arith

pub overflow_shl-shifted : goal.overflow_shl-shifted
overflow_shl-shifted c = let h = sizes c in omega arith

pub overflow_sub-take : goal.overflow_sub-take
overflow_sub-take c = let h = sizes c.before in omega arith

pub next_bit-word-requires : goal.next_bit-word-requires
next_bit-word-requires c = record { word_le_take = (begun c.before).below; take_bound = take-fits c.before.before }

pub next_bit-requires : goal.next_bit-requires
next_bit-requires c = record { word_le_take = (evened c.before _ refl).below; take_bound = take-fits c.before.before.before }

pub next_bit-word-requires-then-shift-eq1-2 : goal.next_bit-word-requires-then-shift-eq1-2
next_bit-word-requires-then-shift-eq1-2 c = record { word_le_take = c.next_bit.ensures.1; take_bound = take-fits c.before.before.before.before }

pub loop-init : goal.loop-init
loop-init c =
    let a = c.before.before.before in
    let h = sizes a in
    (omega (arith, a.requires.shift_bound), take-fits a, halved c _ (omega arith))

pub next_bit-requires-in-loop : goal.next_bit-requires-in-loop
next_bit-requires-in-loop c = record { word_le_take = c.loop.invariant.2.below; take_bound = c.loop.invariant.1 }

pub next_bit-requires-in-loop-2 : goal.next_bit-requires-in-loop-2
next_bit-requires-in-loop-2 c = record { word_le_take = c.next_bit-in-loop.ensures.1; take_bound = c.loop.invariant.1 }

pub next_bit-requires-in-loop-3 : goal.next_bit-requires-in-loop-3
next_bit-requires-in-loop-3 c = record { word_le_take = c.next_bit-in-loop-2.ensures.1; take_bound = c.loop.invariant.1 }

pub next_bit-word-requires-in-loop : goal.next_bit-word-requires-in-loop
next_bit-word-requires-in-loop c = record { word_le_take = c.next_bit-in-loop-3.ensures.1; take_bound = c.loop.invariant.1 }

pub loop-preserved : goal.loop-preserved
loop-preserved c =
    let i = c.loop in
    let k = 4 * (c.args.shift / 4 - (i.counter + 1)) in
    let one = step (suc (suc (suc k))) (omega arith) i.invariant.2 c.next_bit-in-loop.ensures in
    let two = step (suc (suc k)) refl one c.next_bit-in-loop-2.ensures in
    let three = step (suc k) refl two c.next_bit-in-loop-3.ensures in
    (i.invariant.0, i.invariant.1, step k refl three c.next_bit-word-in-loop.ensures)

pub overflow_sub-result : goal.overflow_sub-result
overflow_sub-result c = let h = sizes c.before.before.before.before.before in omega arith

pub overflow_add-result : goal.overflow_add-result
overflow_add-result c = let a = c.before.before.before.before.before.before.before in omega (arith, quotient_is c, div-le_self a.args.n a.args.d)

pub returns : goal.returns
returns c = quotient_is c
