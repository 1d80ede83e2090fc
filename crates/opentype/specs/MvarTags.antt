-- The eleven value tags that shift a font's measures, each the number that its four letters make (OpenType, MVAR, on value tags).
use Rattle.std.specs.Prelude.{ℕ}

-- Horizontal ascender, descender, line gap.
abbrev pub hasc : ℕ
hasc = 0x6861_7363

abbrev pub hdsc : ℕ
hdsc = 0x6864_7363

abbrev pub hlgp : ℕ
hlgp = 0x686c_6770

-- Vertical ascender, descender, line gap.
abbrev pub vasc : ℕ
vasc = 0x7661_7363

abbrev pub vdsc : ℕ
vdsc = 0x7664_7363

abbrev pub vlgp : ℕ
vlgp = 0x766c_6770

-- Cap height, x height; underline offset, strikeout offset, underline size.
abbrev pub cpht : ℕ
cpht = 0x6370_6874

abbrev pub xhgt : ℕ
xhgt = 0x7868_6774

abbrev pub undo : ℕ
undo = 0x756e_646f

abbrev pub stro : ℕ
stro = 0x7374_726f

abbrev pub unds : ℕ
unds = 0x756e_6473
