-- A search among records that stand one behind another, each with a key first (document 01, of MVAR: "Search from l = 0, h = count, middle floor((l + h) / 2); unsorted records answer as that walk does"; W-202, of
-- VORG: "records searched as MVAR's").
use Rattle.std.specs.Prelude.{ℕ, zero, suc, ◌+◌, ◌/◌, cond, leb, ltb}
use Rattle.readers.specs.Reading.{Reading, ◌>>=◌, unsigned_at}

-- Records: how many bytes a key has, and where record i starts.
pub record Records : Type 0 where
  pub key_size : ℕ
  pub start : ℕ → ℕ

-- What is read of the record that has the key, by where it starts; and what is said where none has it.
pub record Sought (A : Type 0) : Type 0 where
  pub found : ℕ → Reading A
  pub missing : Reading A

-- The records from l up to h, with at most k turns left. Each turn leaves at least one record less between l and h, so that as many turns as there are records are enough.
unfoldable pub search_in : {A : Type 0} → Records → Sought A → ℕ → ℕ → ℕ → ℕ → Reading A
search_in records sought key zero l h = sought.missing
search_in records sought key (suc k) l h = cond (leb h l) sought.missing do
  let i = (l + h) / 2
  x ← unsigned_at records.key_size (records.start i)
  cond (ltb key x) (search_in records sought key k l i)
      (cond (ltb x key) (search_in records sought key k (i + 1) h)
      (sought.found (records.start i)))

-- All of them.
unfoldable pub searched : {A : Type 0} → Records → Sought A → ℕ → ℕ → Reading A
searched records sought key count = search_in records sought key count 0 count
