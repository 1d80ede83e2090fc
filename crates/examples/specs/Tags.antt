-- Value tags of MVAR by their letters (OpenType, "MVAR — Metrics Variations Table").
use Rattle.std.specs.Prelude.{ℕ, ◌+◌, ◌*◌, List, [], ◌∷◌}
use Prim.Native.String.{String, [] as []ˢ, ◌∷◌ as ◌∷ˢ◌}
use Prim.Native.Char.{code}

-- A text's letters, one byte each, as one number behind another.
abbrev behind : ℕ → String → ℕ
behind n []ˢ = n
behind n (c ∷ˢ s) = behind (256 * n + code c) s

-- The number that a tag's four letters make.
abbrev pub tag : String → ℕ
tag = behind 0

-- The 28 that swash has, in the order of its `mvar_tags`.
abbrev pub lettered : List ℕ
lettered =
    tag "hasc" ∷ tag "hdsc" ∷ tag "hlgp" ∷ tag "hcrs" ∷ tag "hcrn" ∷ tag "hcof" ∷ tag "hcla" ∷ tag "hcld"
    ∷ tag "vasc" ∷ tag "vdsc" ∷ tag "vlgp" ∷ tag "vcrs" ∷ tag "vcrn" ∷ tag "vcof"
    ∷ tag "xhgt" ∷ tag "cpht" ∷ tag "undo" ∷ tag "unds" ∷ tag "stro" ∷ tag "strs"
    ∷ tag "sbxo" ∷ tag "sbyo" ∷ tag "sbxs" ∷ tag "sbys"
    ∷ tag "spxo" ∷ tag "spyo" ∷ tag "spxs" ∷ tag "spys"
    ∷ []
