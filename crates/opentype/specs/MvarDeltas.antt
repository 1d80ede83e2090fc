-- The deltas that shift a font's measures, asked of one MVAR (document 01, "Measures").
use Rattle.std.specs.Prelude.{ℕ, Bool, false, cond, pos, Float}
use Rattle.std.specs.Float.{fin}
use Rattle.opentype.specs.MvarTags as T

-- A delta for each of the eleven tags.
pub record Deltas : Type 0 where
  pub hasc : Float
  pub hdsc : Float
  pub hlgp : Float
  pub cpht : Float
  pub xhgt : Float
  pub undo : Float
  pub stro : Float
  pub unds : Float
  pub vasc : Float
  pub vdsc : Float
  pub vlgp : Float

-- A delta that is asked for; or 0.0.
abbrev pub asked : Bool → Float → Float
asked wanted x = cond wanted x (fin false 0 (pos 0))

-- The deltas of ascender and descender; where they are wanted, those of the other measures but the three vertical ones, and the vertical ones.
abbrev pub deltas_by : Bool → Bool → (ℕ → Float) → Deltas
deltas_by others vertical delta = record {
  hasc = delta T.hasc;
  hdsc = delta T.hdsc;
  hlgp = asked others (delta T.hlgp);
  cpht = asked others (delta T.cpht);
  xhgt = asked others (delta T.xhgt);
  undo = asked others (delta T.undo);
  stro = asked others (delta T.stro);
  unds = asked others (delta T.unds);
  vasc = asked vertical (delta T.vasc);
  vdsc = asked vertical (delta T.vdsc);
  vlgp = asked vertical (delta T.vlgp);
}
