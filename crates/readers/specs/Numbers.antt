-- The numbers of a font that are structs of the code, by the number that their bytes make.
use Rattle.std.specs.Prelude.{ℕ}
use Rattle.std.specs.Int.{w16, w32}
use Rattle.std.proofs.Common.{to_z}
use Rattle.numbers.specs.declared.Fixed.{Fixed}
use Rattle.numbers.specs.declared.F2Dot14.{F2Dot14}
use Rattle.readers.specs.declared.U24.{U24}

abbrev pub as_u24 : ℕ → U24
as_u24 n = record { 0 = n }

abbrev pub as_f2_dot14 : ℕ → F2Dot14
as_f2_dot14 n = record { 0 = to_z w16 n }

abbrev pub as_fixed : ℕ → Fixed
as_fixed n = record { 0 = to_z w32 n }
