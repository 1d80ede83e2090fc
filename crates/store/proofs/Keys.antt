-- A key that is read, by its number; a search for a place, and what is sought there. Assumes nothing.
use Prim.Native.Nat.{ℕ, zero, suc, ◌+◌, ◌/◌, ◌<◌}
use mathlib.Core.Path.{◌≡◌, refl, ap, sym, ◌∙◌}
use mathlib.Core.Bool.{Bool, true, false, cond}
use mathlib.Core.List.{List}
use lib.Dec.{leb, ltb}
use lib.ListN.{length}
use Rattle.std.proofs.Common.{Option, Some, None}
use Rattle.readers.specs.Outcome.{Outcome, value, onward, unless}
use Rattle.readers.specs.Reading.{Reading, answer, refuse, bytes_at, big_endian, read_at, unsigned_at, run}
use Rattle.readers.specs.Answers.{refusal}
use Rattle.readers.specs.declared.Refusal.{Refusal}
use Rattle.readers.proofs.Outcome.{unless_onward}
use Rattle.readers.proofs.Reading.{seen_by, cut_alike}
use Rattle.opentype.specs.Search.{Records, Sought, search_in, searched}
use Rattle.opentype.proofs.Search.{found_record}
use Rattle.store.specs.KeyedAnswers.{place}

-- A number of what bytes stand for that is the bytes' own.
module _ {K : Type 0} (of_number : ℕ → K) (number : K → ℕ) (back : (n : ℕ) → number (of_number n) ≡ n) (font : List ℕ) (n p : ℕ) where
  pub key_there : (k : K) → value k ≡ run font (read_at n of_number p) → value (number k) ≡ run font (read_at n (λ x. x) p)
  key_there k e = seen_by font n p of_number number k e ∙ λ i. run font (read_at n (λ x. back x i) p)

  pub key_cut : (r : Refusal) → refusal {A = K} r ≡ run font (read_at n of_number p) → refusal {A = ℕ} r ≡ run font (read_at n (λ x. x) p)
  key_cut r e = cut_alike font n p of_number number r e ∙ λ i. run font (read_at n (λ x. back x i) p)

-- A search for a place and then what is sought there, or what is said where there is none: the search for that.
abbrev pub sought_at : {A : Type 0} → Sought A → Option ℕ → Reading A
sought_at sought (Some p) = sought.found p
sought_at sought None = sought.missing

module _ {A : Type 0} (font : List ℕ) (records : Records) (sought : Sought A) (key : ℕ) where
  abbrev there : Option ℕ → Outcome A
  there o = run font (sought_at sought o)

  either_there : (t : Bool) (d e : Reading (Option ℕ)) (d' e' : Reading A) → onward (run font d) there ≡ run font d' → onward (run font e) there ≡ run font e' → onward (run font (cond t d e)) there ≡ run font (cond t d' e')
  either_there true d e d' e' p q = p
  either_there false d e d' e' p q = q

  read_there : (n p : ℕ) (d : ℕ → Reading (Option ℕ)) (d' : ℕ → Reading A) → ((x : ℕ) → onward (run font (d x)) there ≡ run font (d' x)) → onward (run font (bytes_at n p d)) there ≡ run font (bytes_at n p d')
  unfolding run
  read_there n p d d' h =
      let x = big_endian n font p in
      let t = leb (p + n) (length font) in
      sym (unless_onward t 2 (run font (d x)) there) ∙ ap (unless t 2) (h x)

  none : onward (run font (answer None)) there ≡ run font sought.missing
  unfolding run
  none = refl

  some : (p : ℕ) → onward (run font (answer (Some p))) there ≡ run font (sought.found p)
  unfolding run
  some p = refl

  pub search_there : (k l h : ℕ) → onward (run font (search_in records place key k l h)) there ≡ run font (search_in records sought key k l h)
  unfolding search_in unsigned_at
  search_there zero l h = none
  search_there (suc k) l h =
      let i = (l + h) / 2 in
      either_there (leb h l) _ _ _ _ none
      (read_there records.key_size (records.start i) _ _ λ x.
      either_there (ltb key x) _ _ _ _ (search_there k l i)
      (either_there (ltb x key) _ _ _ _ (search_there k (i + 1) h) (some (records.start i))))

  pub searched_there : (count : ℕ) → onward (run font (searched records place key count)) there ≡ run font (searched records sought key count)
  unfolding searched
  searched_there count = search_there count 0 count

-- What is found is the start of a record.
pub found_place : (font : List ℕ) (records : Records) (key count p : ℕ) → value (Some p) ≡ run font (searched records place key count) → (i : ℕ) × (i < count) × (p ≡ records.start i)
unfolding searched run
found_place font records key count p e =
    let start : Sought ℕ = record { found = answer; missing = refuse 4 } in
    found_record font records 4 key count 0 count p (sym (searched_there font records start key count) ∙ ap (λ o. onward o (λ q. run font (sought_at start q))) (sym e))
