-- No second answer: what the contracts of an MVAR's methods allow. Opening has one answer but for what it does not say, where an empty part lies; the deltas have one.
-- A function over a struct that holds a reference has no plain reading of its contract, so these theorems are over its own clauses, as the check makes them: NAME_clauses is what a call that answers r hands back,
-- NAME_said is the plain fact in it, and NAME_one says of two answers, where what is handed back meets the clauses of both, that they are the same. Assumes nothing.
use Prim.Native.Nat.{ℕ, ◌<◌}
use mathlib.Core.Path.{◌≡◌, ap, sym, ◌∙◌, subst}
use mathlib.Core.List.{List}
use lib.Ieee.{Float}
use lib.IntN.{ℤ}
use lib.ListN.{length}
use seplogic.Ra.Ura.{Ura}
use base.Logic.{SProp, ent, ex_e, snd∗, via}
use base.Fml.{Lft}
use prog.Memory.{Memory}
use prog.Routine.{Routine}
use types.Logic.{Logic, sem}
use contract.Conj.{conj, conj_l, conj_r}
use contract.Monad.{Fun, fact, fact_use, fact_mono}
use denote.Ref.{Bor}
use denote.Triple.Clauses.{ensured, lasts}
use Rattle.readers.specs.Answers.{outcome_fixed}
use Rattle.std.specs.Prelude.{Result, Ok, Err}
use Rattle.numbers.specs.declared.Fixed.{Fixed}
use Rattle.readers.specs.declared.Refusal.{Refusal}
use Rattle.readers.specs.Outcome.{Outcome, value, refused}
use Rattle.readers.specs.Answers.{number_of}
use Rattle.readers.proofs.One.{refusal_of, refusal_back, one_fixed}
use Rattle.opentype.specs.Mvar.{Opened, no_mvar, opened_delta, opened_float}
use Rattle.store.specs.MvarAnswers.{opened_of, lies_at, Opens}
use Rattle.opentype.specs.MvarDeltas.{Deltas}
use Rattle.store.specs.MvarDeltasAnswers.{deltas_of, wanted_by}
use Rattle.store.specs.declared.mvar.Mvar.{Mvar}
use Rattle.store.specs.declared.mvar_deltas.MeasureDeltas.{MeasureDeltas}
use Rattle.store.specs.declared.mvar_deltas.Wanted.{Wanted}
use Rattle.store.specs.contracts.mvar.Mvar.new as opening
use Rattle.store.specs.contracts.mvar.Mvar.none as none
use Rattle.store.specs.contracts.mvar.Mvar.read_delta as read-delta
use Rattle.store.specs.contracts.mvar.Mvar.delta as delta
use Rattle.store.specs.contracts.mvar.Mvar.deltas as deltas

-- What follows from two plain facts, of whatever holds both.
both : {M : Type 1} (𝓤 : Ura M) {P Q : SProp 𝓤} (φ ψ χ : Type 0) → ent 𝓤 P (fact 𝓤 φ) → ent 𝓤 Q (fact 𝓤 ψ) → (φ → ψ → χ) → ent 𝓤 (conj 𝓤 P Q) (fact 𝓤 χ)
both 𝓤 {P} {Q} φ ψ χ p q f = fact_use 𝓤 φ (via 𝓤 P (conj_l 𝓤 P Q) p) (λ x. via 𝓤 (fact 𝓤 ψ) (via 𝓤 Q (conj_r 𝓤 P Q) q) (fact_mono 𝓤 ψ χ (f x)))

module _ {M : Type 1} {𝓤 : Ura M} (𝓛 : Logic 𝓤) (mem : Memory → SProp 𝓤) (run : Routine → Fun 𝓤) (κ : Lft) (m : Mvar) where
  abbrev pub read_delta_clauses : ℕ → Result Fixed Refusal → SProp 𝓤
  read_delta_clauses tag r = ensured 𝓛 read-delta.ended (read-delta.clauses 𝓛 mem run) (κ, tt) (m, (tag, tt)) tt r

  abbrev pub delta_clauses : ℕ → Float → SProp 𝓤
  delta_clauses tag r = ensured 𝓛 delta.ended (delta.clauses 𝓛 mem run) (κ, tt) (m, (tag, tt)) tt r

  abbrev pub deltas_clauses : Wanted → MeasureDeltas → SProp 𝓤
  deltas_clauses wanted r = ensured 𝓛 deltas.ended (deltas.clauses 𝓛 mem run) (κ, tt) (m, (wanted, tt)) tt r

pub read_delta_said : {M : Type 1} {𝓤 : Ura M} (𝓛 : Logic 𝓤) (mem : Memory → SProp 𝓤) (run : Routine → Fun 𝓤) (κ : Lft) (m : Mvar) (tag : ℕ) (r : Result Fixed Refusal)
    → ent 𝓤 (read_delta_clauses 𝓛 mem run κ m tag r) (fact 𝓤 (outcome_fixed r ≡ opened_delta (opened_of m) tag))
read_delta_said {𝓤 = 𝓤} 𝓛 mem run κ m tag r = ex_e 𝓤 _ (λ ws. snd∗ 𝓤 (sem 𝓛 (lasts read-delta.ended (κ, tt) (m, (tag, tt)) ws)) (fact 𝓤 (outcome_fixed r ≡ opened_delta (opened_of m) tag)))

pub read_delta_one : {M : Type 1} {𝓤 : Ura M} (𝓛 : Logic 𝓤) (mem : Memory → SProp 𝓤) (run : Routine → Fun 𝓤) (κ : Lft) (m : Mvar) (tag : ℕ) (r r' : Result Fixed Refusal)
    → ent 𝓤 (conj 𝓤 (read_delta_clauses 𝓛 mem run κ m tag r) (read_delta_clauses 𝓛 mem run κ m tag r')) (fact 𝓤 (r ≡ r'))
read_delta_one {𝓤 = 𝓤} 𝓛 mem run κ m tag r r' = both 𝓤 _ _ (r ≡ r') (read_delta_said 𝓛 mem run κ m tag r) (read_delta_said 𝓛 mem run κ m tag r') (λ p q. one_fixed p q)

pub delta_said : {M : Type 1} {𝓤 : Ura M} (𝓛 : Logic 𝓤) (mem : Memory → SProp 𝓤) (run : Routine → Fun 𝓤) (κ : Lft) (m : Mvar) (tag : ℕ) (r : Float)
    → ent 𝓤 (delta_clauses 𝓛 mem run κ m tag r) (fact 𝓤 (r ≡ opened_float (opened_of m) tag))
delta_said {𝓤 = 𝓤} 𝓛 mem run κ m tag r = ex_e 𝓤 _ (λ ws. snd∗ 𝓤 (sem 𝓛 (lasts delta.ended (κ, tt) (m, (tag, tt)) ws)) (fact 𝓤 (r ≡ opened_float (opened_of m) tag)))

pub delta_one : {M : Type 1} {𝓤 : Ura M} (𝓛 : Logic 𝓤) (mem : Memory → SProp 𝓤) (run : Routine → Fun 𝓤) (κ : Lft) (m : Mvar) (tag : ℕ) (r r' : Float)
    → ent 𝓤 (conj 𝓤 (delta_clauses 𝓛 mem run κ m tag r) (delta_clauses 𝓛 mem run κ m tag r')) (fact 𝓤 (r ≡ r'))
delta_one {𝓤 = 𝓤} 𝓛 mem run κ m tag r r' = both 𝓤 _ _ (r ≡ r') (delta_said 𝓛 mem run κ m tag r) (delta_said 𝓛 mem run κ m tag r') (λ p q. p ∙ sym q)

-- The struct that holds these deltas.
abbrev made : Deltas → MeasureDeltas
made d = record { hasc = d.hasc; hdsc = d.hdsc; hlgp = d.hlgp; cpht = d.cpht; xhgt = d.xhgt; undo = d.undo; stro = d.stro; unds = d.unds; vasc = d.vasc; vdsc = d.vdsc; vlgp = d.vlgp }

pub deltas_said : {M : Type 1} {𝓤 : Ura M} (𝓛 : Logic 𝓤) (mem : Memory → SProp 𝓤) (run : Routine → Fun 𝓤) (κ : Lft) (m : Mvar) (wanted : Wanted) (r : MeasureDeltas)
    → ent 𝓤 (deltas_clauses 𝓛 mem run κ m wanted r) (fact 𝓤 (deltas_of r ≡ wanted_by wanted (opened_float (opened_of m))))
deltas_said {𝓤 = 𝓤} 𝓛 mem run κ m wanted r = ex_e 𝓤 _ (λ ws. snd∗ 𝓤 (sem 𝓛 (lasts deltas.ended (κ, tt) (m, (wanted, tt)) ws)) (fact 𝓤 (deltas_of r ≡ wanted_by wanted (opened_float (opened_of m)))))

pub deltas_one : {M : Type 1} {𝓤 : Ura M} (𝓛 : Logic 𝓤) (mem : Memory → SProp 𝓤) (run : Routine → Fun 𝓤) (κ : Lft) (m : Mvar) (wanted : Wanted) (r r' : MeasureDeltas)
    → ent 𝓤 (conj 𝓤 (deltas_clauses 𝓛 mem run κ m wanted r) (deltas_clauses 𝓛 mem run κ m wanted r')) (fact 𝓤 (r ≡ r'))
deltas_one {𝓤 = 𝓤} 𝓛 mem run κ m wanted r r' = both 𝓤 _ _ (r ≡ r') (deltas_said 𝓛 mem run κ m wanted r) (deltas_said 𝓛 mem run κ m wanted r') (λ p q. ap made (p ∙ sym q))

-- Two parts of one whole with the same elements, each at n: the same place, unless they are empty.
one_place : {X : Type 0} (part part' whole : Bor (List X)) (n : ℕ) → part.now ≡ part'.now → lies_at part whole n → lies_at part' whole n → 0 < length part.now → part.ref_ptr ≡ part'.ref_ptr
one_place part part' whole n same p q some =
    let here = p some in
    let there = q (subst (λ l. 0 < length l) same some) in
    λ i. ((here.0 ∙ sym there.0) i, (here.1 ∙ sym there.1) i)

-- Of `Mvar::new`.
module _ {M : Type 1} {𝓤 : Ura M} (𝓛 : Logic 𝓤) (mem : Memory → SProp 𝓤) (run : Routine → Fun 𝓤) (κ : Lft) (font : Bor (List ℕ)) (start : ℕ) (coords : Bor (List ℤ)) where
  abbrev pub new_clauses : Result Mvar Refusal → SProp 𝓤
  new_clauses r = ensured 𝓛 opening.ended (opening.clauses 𝓛 mem run) (κ, tt) (font, (start, (coords, tt))) tt r

pub new_said : {M : Type 1} {𝓤 : Ura M} (𝓛 : Logic 𝓤) (mem : Memory → SProp 𝓤) (run : Routine → Fun 𝓤) (κ : Lft) (font : Bor (List ℕ)) (start : ℕ) (coords : Bor (List ℤ)) (r : Result Mvar Refusal)
    → ent 𝓤 (new_clauses 𝓛 mem run κ font start coords r) (fact 𝓤 (Opens font start coords r))
new_said {𝓤 = 𝓤} 𝓛 mem run κ font start coords r =
    ex_e 𝓤 _ (λ ws. snd∗ 𝓤 (sem 𝓛 (lasts opening.ended (κ, tt) (font, (start, (coords, tt))) ws)) (fact 𝓤 (Opens font start coords r)))

-- A part lies where another does, unless it is empty.
abbrev pub SamePlace : {X : Type 0} → Bor (List X) → Bor (List X) → Type 0
SamePlace part part' = 0 < length part.now → part.ref_ptr ≡ part'.ref_ptr

-- Two answers of opening: the same refusal, or two opened ones that hold the same, their parts in the same places.
abbrev pub Alike : Result Mvar Refusal → Result Mvar Refusal → Type 0
Alike (Ok m) (Ok m') = (opened_of m ≡ opened_of m') × SamePlace m.«data» m'.«data» × SamePlace m.coords m'.coords
Alike (Ok m) (Err n') = ⊥
Alike (Err n) (Ok m') = ⊥
Alike (Err n) (Err n') = n ≡ n'

same_value : {A : Type 0} {a b : A} → value a ≡ value b → a ≡ b
same_value e = cc

alike : (font : Bor (List ℕ)) (start : ℕ) (coords : Bor (List ℤ)) (r r' : Result Mvar Refusal) → Opens font start coords r → Opens font start coords r' → Alike r r'
alike font start coords (Ok m) (Ok m') p q =
    let same : opened_of m ≡ opened_of m' = same_value (p.0 ∙ sym q.0) in (
      same,
      one_place m.«data» m'.«data» font start (ap (λ (o : Opened). o.table) same) p.1.0 q.1.0,
      one_place m.coords m'.coords coords 0 (ap (λ (o : Opened). o.coords) same) p.1.1 q.1.1,
    )
alike font start coords (Ok m) (Err n') p q = let clash = p.0 ∙ sym q.0 in cc
alike font start coords (Err n) (Ok m') p q = let clash = p.0 ∙ sym q.0 in cc
alike font start coords (Err n) (Err n') p q =
    let same : number_of n ≡ number_of n' = refused_same (p.0 ∙ sym q.0) in
    sym (refusal_back n) ∙ ap refusal_of same ∙ refusal_back n'
  where
    refused_same : {a b : ℕ} → ◌≡◌ {A = Outcome Opened} (refused a) (refused b) → a ≡ b
    refused_same e = cc

pub new_one : {M : Type 1} {𝓤 : Ura M} (𝓛 : Logic 𝓤) (mem : Memory → SProp 𝓤) (run : Routine → Fun 𝓤) (κ : Lft) (font : Bor (List ℕ)) (start : ℕ) (coords : Bor (List ℤ)) (r r' : Result Mvar Refusal)
    → ent 𝓤 (conj 𝓤 (new_clauses 𝓛 mem run κ font start coords r) (new_clauses 𝓛 mem run κ font start coords r')) (fact 𝓤 (Alike r r'))
new_one {𝓤 = 𝓤} 𝓛 mem run κ font start coords r r' =
    both 𝓤 _ _ (Alike r r') (new_said 𝓛 mem run κ font start coords r) (new_said 𝓛 mem run κ font start coords r') (λ p q. alike font start coords r r' p q)

-- Of `Mvar::none`, whose parts are empty, so that where they lie makes no difference.
module _ {M : Type 1} {𝓤 : Ura M} (𝓛 : Logic 𝓤) (mem : Memory → SProp 𝓤) (run : Routine → Fun 𝓤) (κ : Lft) where
  abbrev pub none_clauses : Mvar → SProp 𝓤
  none_clauses r = ensured 𝓛 none.ended (none.clauses 𝓛 mem run) (κ, tt) tt tt r

pub none_said : {M : Type 1} {𝓤 : Ura M} (𝓛 : Logic 𝓤) (mem : Memory → SProp 𝓤) (run : Routine → Fun 𝓤) (κ : Lft) (r : Mvar) → ent 𝓤 (none_clauses 𝓛 mem run κ r) (fact 𝓤 (opened_of r ≡ no_mvar))
none_said {𝓤 = 𝓤} 𝓛 mem run κ r = ex_e 𝓤 _ (λ ws. snd∗ 𝓤 (sem 𝓛 (lasts none.ended (κ, tt) tt ws)) (fact 𝓤 (opened_of r ≡ no_mvar)))

pub none_one : {M : Type 1} {𝓤 : Ura M} (𝓛 : Logic 𝓤) (mem : Memory → SProp 𝓤) (run : Routine → Fun 𝓤) (κ : Lft) (r r' : Mvar)
    → ent 𝓤 (conj 𝓤 (none_clauses 𝓛 mem run κ r) (none_clauses 𝓛 mem run κ r')) (fact 𝓤 (opened_of r ≡ opened_of r'))
none_one {𝓤 = 𝓤} 𝓛 mem run κ r r' = both 𝓤 _ _ (opened_of r ≡ opened_of r') (none_said 𝓛 mem run κ r) (none_said 𝓛 mem run κ r') (λ p q. p ∙ sym q)
