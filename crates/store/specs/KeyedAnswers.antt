-- What the structs and answers of `keyed` stand for.
use Rattle.std.specs.Prelude.{ℕ, ◌+◌, ◌*◌}
use Rattle.std.proofs.Common.{Option, Some, None}
use Rattle.readers.specs.Reading.{answer}
use Rattle.opentype.specs.Search as Search
use Rattle.opentype.specs.Search.{Sought}
use Rattle.store.specs.declared.keyed.Records.{Records}

-- The records, with a key of so many bytes.
abbrev pub records_of : ℕ → Records → Search.Records
records_of size r = record { key_size = size; start = λ i. r.table + r.head + i * r.size }

-- Where the record that has the key starts, if there is one.
abbrev pub place : Sought (Option ℕ)
place = record { found = λ p. answer (Some p); missing = answer None }
