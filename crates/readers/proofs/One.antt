-- No second answer: for each public function, two answers that its contract allows are the same. Assumes nothing.
use Prim.Native.Nat.{ℕ}
use mathlib.Core.Path.{◌≡◌, refl, ap, sym, ◌∙◌}
use mathlib.Core.Bool.{cond}
use lib.Dec.{eqb}
use lib.IntN.{ℤ}
use Rattle.numbers.specs.One.{One}
use Rattle.readers.specs.Outcome.{Outcome, value, refused}
use Rattle.readers.specs.Answers.{number_of, outcome_as, outcome, outcome_f2_dot14, outcome_fixed}
use Rattle.readers.specs.declared.Refusal.{Refusal}
use Rattle.readers.specs.declared.Refusal.TheVariants.{Absent, Short, Index, Tag, Arithmetic, Lengths, Room}
use Rattle.numbers.specs.declared.Fixed.{Fixed}
use Rattle.numbers.specs.declared.F2Dot14.{F2Dot14}
use Rattle.std.specs.Prelude.{Result, Ok, Err}
use Rattle.readers.specs.declared.FromBeData.{Ghosts}
use denote.RattleType.{RattleType}
use denote.Param.Laws.{Laws}
use mir.Syntax.{Dict}
use Rattle.readers.proofs.U8FromRefusal.from.Reads as number
use Rattle.readers.proofs.U8FromBeData.from_be_data.Reads as u8
use Rattle.readers.proofs.I8FromBeData.from_be_data.Reads as i8
use Rattle.readers.proofs.U16FromBeData.from_be_data.Reads as u16
use Rattle.readers.proofs.I16FromBeData.from_be_data.Reads as i16
use Rattle.readers.proofs.U24FromBeData.from_be_data.Reads as u24
use Rattle.readers.proofs.U32FromBeData.from_be_data.Reads as u32
use Rattle.readers.proofs.F2Dot14FromBeData.from_be_data.Reads as f2dot14
use Rattle.readers.proofs.FixedFromBeData.from_be_data.Reads as fixed
use Rattle.readers.proofs.read.Reads as read

-- The refusal that has a number.
abbrev pub refusal_of : ℕ → Refusal
refusal_of n = cond (eqb n 1) Absent (cond (eqb n 2) Short (cond (eqb n 3) Index (cond (eqb n 4) Tag (cond (eqb n 5) Arithmetic (cond (eqb n 6) Lengths Room)))))

pub refusal_back : (n : Refusal) → refusal_of (number_of n) ≡ n
refusal_back Absent = refl
refusal_back Short = refl
refusal_back Index = refl
refusal_back Tag = refl
refusal_back Arithmetic = refl
refusal_back Lengths = refl
refusal_back Room = refl

-- The answer that has an outcome: of a value it is made by the first, of a refusal by the second.
abbrev pub back : {R A : Type 0} → (A → R) → (Refusal → R) → Outcome A → R
back valued refusing (value a) = valued a
back valued refusing (refused n) = refusing (refusal_of n)

-- A map that can be taken back is one to one.
pub one_back : {R A : Type 0} (map : R → A) (back : A → R) → ((r : R) → back (map r) ≡ r) → {d : A} {r r' : R} → map r ≡ d → map r' ≡ d → r ≡ r'
one_back map back h {r = r} {r' = r'} p q = sym (h r) ∙ ap back (p ∙ sym q) ∙ h r'

-- So is the map of outcomes of an answer type.
pub one_by : {R A : Type 0} (o : R → Outcome A) (valued : A → R) (refusing : Refusal → R) → ((r : R) → back valued refusing (o r) ≡ r)
    → {d : Outcome A} {r r' : R} → o r ≡ d → o r' ≡ d → r ≡ r'
one_by o valued refusing h p q = one_back o (back valued refusing) h p q

-- So is the outcome of an answer whose value can be taken back from what is seen of it.
pub one_as : {R A : Type 0} (seen : R → A) (made : A → R) → ((x : R) → made (seen x) ≡ x) → {d : Outcome A} {r r' : Result R Refusal} → outcome_as seen r ≡ d → outcome_as seen r' ≡ d → r ≡ r'
one_as {R} seen made h p q = one_by (outcome_as seen) (λ a. Ok (made a)) Err whole p q
  where
    whole : (r : Result R Refusal) → back (λ a. Ok (made a)) Err (outcome_as seen r) ≡ r
    whole (Ok x) = ap Ok (h x)
    whole (Err n) = ap Err (refusal_back n)

-- An answer read as it is; a 2.14 and a 16.16 number, each determined by its integer.
pub one_plain : {A : Type 0} {d : Outcome A} {r r' : Result A Refusal} → outcome r ≡ d → outcome r' ≡ d → r ≡ r'
one_plain p q = one_as (λ x. x) (λ x. x) (λ x. refl) p q

pub one_f2_dot14 : {d : Outcome ℤ} {r r' : Result F2Dot14 Refusal} → outcome_f2_dot14 r ≡ d → outcome_f2_dot14 r' ≡ d → r ≡ r'
one_f2_dot14 p q = one_as (λ x. x.0) (λ z. record { 0 = z }) (λ x. refl) p q

pub one_fixed : {d : Outcome ℤ} {r r' : Result Fixed Refusal} → outcome_fixed r ≡ d → outcome_fixed r' ≡ d → r ≡ r'
one_fixed p q = one_as (λ x. x.0) (λ z. record { 0 = z }) (λ x. refl) p q

pub number_one : One number.Post
number_one κs a r r' s s' p q = p ∙ sym q

-- Of every type that a font's bytes can make.
pub read_one : (T : RattleType) (laws : Laws T) (number : Ghosts T.Denot) (code : Dict) → One (read.Post T laws number code)
read_one T laws number code κs a r r' s s' p q = one_plain p q

pub u8_from_be_data_one : One u8.Post
u8_from_be_data_one κs a r r' s s' p q = p ∙ sym q

pub i8_from_be_data_one : One i8.Post
i8_from_be_data_one κs a r r' s s' p q = p ∙ sym q

pub u16_from_be_data_one : One u16.Post
u16_from_be_data_one κs a r r' s s' p q = p ∙ sym q

pub i16_from_be_data_one : One i16.Post
i16_from_be_data_one κs a r r' s s' p q = p ∙ sym q

pub u24_from_be_data_one : One u24.Post
u24_from_be_data_one κs a r r' s s' p q = p ∙ sym q

pub u32_from_be_data_one : One u32.Post
u32_from_be_data_one κs a r r' s s' p q = p ∙ sym q

pub f2dot14_from_be_data_one : One f2dot14.Post
f2dot14_from_be_data_one κs a r r' s s' p q = p ∙ sym q

pub fixed_from_be_data_one : One fixed.Post
fixed_from_be_data_one κs a r r' s s' p q = p ∙ sym q
