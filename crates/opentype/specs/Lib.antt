-- fvar, avar and coordinate lists; the item variation store, HVAR and VVAR, MVAR, and their deltas with a list of scalars; hmtx and vmtx, VORG; the footprint of a delta, over which demand 3 is stated.
pub mod Axis
pub mod Avar
pub mod Fvar
pub mod Values
pub mod Variation
pub mod Region
pub mod Item
pub mod Metric
pub mod Search
pub mod Mvar
pub mod MvarTags
pub mod MvarDeltas
pub mod Lines
pub mod Xmtx
pub mod Vorg
pub mod Footprint
