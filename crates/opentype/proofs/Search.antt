-- Laws of the halving search. Assumes nothing.
use Prim.Native.Nat.{ℕ, zero, suc, ◌+◌, ◌/◌, ◌-◌, ◌≤◌, ◌<◌}
use mathlib.Core.Path.{◌≡◌, refl, sym, ◌∙◌}
use mathlib.Core.Bool.{Bool, true, false, cond}
use mathlib.Core.List.{List}
use native.Mathlib.Omega.{arith}
use borrow.Author.Tests.{le-leb, lt-leb, leb-false}
use lib.Dec.{leb, ltb}
use lib.ListN.{length}
use Rattle.readers.specs.Outcome.{Outcome, value}
use Rattle.readers.specs.Reading.{Reading, answer, refuse, ◌>>=◌, big_endian, unsigned_at, run}
use Rattle.opentype.specs.Search.{Records, Sought, search_in}
use Rattle.readers.proofs.Bytes.{SameBytes}
use Rattle.readers.proofs.Passed.{bytes_there, answer_is}
use Rattle.readers.proofs.Reading.{declined}
use Rattle.readers.proofs.TwoFonts.{read_same, choice_same}

-- What the search does with the key x of record i.
abbrev pub step : {A : Type 0} → Records → Sought A → ℕ → ℕ → ℕ → ℕ → ℕ → ℕ → Reading A
step records sought key k l h i x =
    cond (ltb key x) (search_in records sought key k l i)
    (cond (ltb x key) (search_in records sought key k (i + 1) h)
    (sought.found (records.start i)))

-- What the invariant of the search's loop says of the whole search d: one turn on, and where nothing is left between l and h.
module _ {A : Type 0} (font : List ℕ) (records : Records) (sought : Sought A) (key k l h : ℕ) (w d : Outcome A) where
  pub search_turned : run font (search_in records sought key k l h) ≡ d → l < h → h - l ≤ k
      → w ≡ run font (unsigned_at records.key_size (records.start ((l + h) / 2)) >>= step records sought key (k - 1) l h ((l + h) / 2)) → w ≡ d
  unfolding search_in run
  search_turned p lt b e =
      let q : k ≡ suc (k - 1) = omega arith in
      e ∙ rw (q, lt-leb h l lt) at p

  pub search_missed : run font (search_in records sought key k l h) ≡ d → h ≤ l → w ≡ run font sought.missing → w ≡ d
  unfolding search_in run
  search_missed p le e = e ∙ sym (none k) ∙ p
    where
      none : (k : ℕ) → run font (search_in records sought key k l h) ≡ run font sought.missing
      none zero = refl
      none (suc k) = rw (le-leb h l le)

-- What follows of either reading follows of a choice between the two.
of_either : {A : Type 0} (font : List ℕ) (t : Bool) (d e : Reading A) (a : A) {P : Type 0} → run font (cond t d e) ≡ value a → (t ≡ true → run font d ≡ value a → P) → (t ≡ false → run font e ≡ value a → P) → P
of_either font true d e a q f g = f refl q
of_either font false d e a q f g = g refl q

-- Where the search answers the start of a record and refuses where there is none, what it answers is the start of a record below h.
module _ (font : List ℕ) (records : Records) (n key : ℕ) where
  pub found_record : (k l h p : ℕ) → run font (search_in records (record { found = answer; missing = refuse n }) key k l h) ≡ value p → (i : ℕ) × (i < h) × (p ≡ records.start i)
  unfolding search_in unsigned_at
  found_record zero l h p e =
      let clash = declined font n ∙ e in
      let z : ◌≡◌ {A = ℕ} 0 1 = cc in absurd (omega (arith, z))
  found_record (suc k) l h p e =
      let i : ℕ = (l + h) / 2 in
      let at : ℕ = records.start i in
      let x : ℕ = big_endian records.key_size font at in
      of_either font (leb h l) _ _ p e
      (λ t q.
      let clash = declined font n ∙ q in
      let z : ◌≡◌ {A = ℕ} 0 1 = cc in absurd (omega (arith, z)))
      λ t q.
      let below : i < h = omega (arith, leb-false h l t) in
      of_either font (ltb key x) _ _ p (bytes_there font records.key_size at _ p q).1 (λ u r. let (j, low, start) = found_record k l i p r in (j, omega arith, start)) λ u r.
      of_either font (ltb x key) _ _ p r (λ v s. found_record k (i + 1) h p s) λ v s.
      (i, below, sym (answer_is font at p s))

-- Two fonts of one length in which the keys of all records are the same, and what is read of each record and where there is none: the same search.
module _ {A : Type 0} (f g : List ℕ) (len : length f ≡ length g) (records : Records) (sought : Sought A) (key count : ℕ)
    (keys : (i : ℕ) → i < count → records.start i + records.key_size ≤ length f → SameBytes records.key_size f g (records.start i))
    (found : (i : ℕ) → i < count → run f (sought.found (records.start i)) ≡ run g (sought.found (records.start i)))
    (missing : run f sought.missing ≡ run g sought.missing) where
  pub search_same : (k l h : ℕ) → h ≤ count → run f (search_in records sought key k l h) ≡ run g (search_in records sought key k l h)
  unfolding search_in unsigned_at
  search_same zero l h b = missing
  search_same (suc k) l h b = choice_same f g (leb h l) _ _ _ _ (λ t. missing) λ t.
      let i : ℕ = (l + h) / 2 in
      let low : i < count = omega (arith, leb-false h l t) in
      read_same f g records.key_size (records.start i) _ _ len (keys i low) λ x.
      choice_same f g (ltb key x) _ _ _ _ (λ u. search_same k l i (omega arith)) λ u.
      choice_same f g (ltb x key) _ _ _ _ (λ v. search_same k (i + 1) h b) λ v.
      found i low
