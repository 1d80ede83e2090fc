-- What the struct and the enum of `mvar_deltas` stand for.
use Rattle.std.specs.Prelude.{ℕ, Bool, true, false, Float}
use Rattle.opentype.specs.MvarDeltas.{Deltas, deltas_by}
use Rattle.store.specs.declared.mvar_deltas.MeasureDeltas.{MeasureDeltas}
use Rattle.store.specs.declared.mvar_deltas.Wanted.{Wanted}
use Rattle.store.specs.declared.mvar_deltas.Wanted.TheVariants as W

-- Whether more is wanted than ascender and descender; whether the vertical measures are.
abbrev pub wants_others : Wanted → Bool
wants_others W.Ascents = false
wants_others W.AllButVertical = true
wants_others W.All = true

abbrev pub wants_vertical : Wanted → Bool
wants_vertical W.Ascents = false
wants_vertical W.AllButVertical = false
wants_vertical W.All = true

-- The deltas that are wanted, by their tags.
abbrev pub wanted_by : Wanted → (ℕ → Float) → Deltas
wanted_by wanted delta = deltas_by (wants_others wanted) (wants_vertical wanted) delta

-- The deltas that the struct holds.
abbrev pub deltas_of : MeasureDeltas → Deltas
deltas_of d = record {
  hasc = d.hasc;
  hdsc = d.hdsc;
  hlgp = d.hlgp;
  cpht = d.cpht;
  xhgt = d.xhgt;
  undo = d.undo;
  stro = d.stro;
  unds = d.unds;
  vasc = d.vasc;
  vdsc = d.vdsc;
  vlgp = d.vlgp;
}
