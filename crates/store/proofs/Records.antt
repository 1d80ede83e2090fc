-- The delta-set index of an MVAR's record, read within a longer reading. Assumes nothing.
use Prim.Native.Nat.{ℕ, ◌+◌}
use mathlib.Core.Path.{◌≡◌, sym, ◌∙◌}
use mathlib.Core.List.{List}
use Rattle.std.specs.Prelude.{Result, IsErr, IsErrAnd}
use Rattle.readers.specs.Outcome.{Outcome, value}
use Rattle.readers.specs.Reading.{Reading, answer, ◌>>=◌, read_at, unsigned_at, run}
use Rattle.readers.specs.Answers.{refusal, outcome_as}
use Rattle.readers.specs.declared.Refusal.{Refusal}
use Rattle.readers.proofs.Reading.{run_nested, went_on, stopped}
use Rattle.opentype.specs.Metric.{DeltaSetIndex}
use Rattle.opentype.specs.Mvar.{index_in}

abbrev both : ℕ → ℕ → Reading DeltaSetIndex
both inner outer = answer (record { outer = outer; inner = inner })

-- What is left to read of the index at p once the inner one is known.
abbrev outer_in : ℕ → ℕ → Reading DeltaSetIndex
outer_in p inner = unsigned_at 2 (p + 6) >>= both inner

module _ {C : Type 0} (font : List ℕ) (p : ℕ) (f : DeltaSetIndex → Reading C) where
  -- The inner index is refused; it is there and the outer one is refused; both are there. A refusal is handed on in the answer r.
  pub inner_stops : {R : Type 0} (seen : R → C) (r : Result R Refusal) (n : Refusal) → IsErr r × IsErrAnd r (λ e. e ≡ n) → refusal n ≡ run font (read_at 2 (λ x. x) (p + 4)) → outcome_as seen r ≡ run font (index_in p >>= f)
  unfolding index_in
  inner_stops seen r n h a = stopped font 2 (p + 4) (λ inner. outer_in p inner >>= f) seen r n h a ∙ sym (run_nested font (unsigned_at 2 (p + 4)) (outer_in p) f)

  module _ {inner : ℕ} (a : value inner ≡ run font (read_at 2 (λ x. x) (p + 4))) where
    inner_took : (w : Outcome C) → w ≡ run font (outer_in p inner >>= f) → w ≡ run font (index_in p >>= f)
    unfolding index_in
    inner_took w e = went_on font 2 (p + 4) (λ inner. outer_in p inner >>= f) w a e ∙ sym (run_nested font (unsigned_at 2 (p + 4)) (outer_in p) f)

    pub outer_stops : {R : Type 0} (seen : R → C) (r : Result R Refusal) (n : Refusal) → IsErr r × IsErrAnd r (λ e. e ≡ n) → refusal n ≡ run font (read_at 2 (λ x. x) (p + 6)) → outcome_as seen r ≡ run font (index_in p >>= f)
    outer_stops seen r n h b =
        inner_took (outcome_as seen r) (stopped font 2 (p + 6) (λ outer. both inner outer >>= f) seen r n h b ∙ sym (run_nested font (unsigned_at 2 (p + 6)) (both inner) f))

    pub both_took : {outer : ℕ} (w : Outcome C) → value outer ≡ run font (read_at 2 (λ x. x) (p + 6)) → w ≡ run font (f (record { outer = outer; inner = inner })) → w ≡ run font (index_in p >>= f)
    both_took w b e =
        inner_took w (went_on font 2 (p + 6) (λ outer. both inner outer >>= f) w b e ∙ sym (run_nested font (unsigned_at 2 (p + 6)) (both inner) f))
