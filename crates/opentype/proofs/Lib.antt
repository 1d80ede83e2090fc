-- What the item count changed; small tables, computed by the definitions; laws of the halving search.
pub mod AxisTable
pub mod InstanceTable
pub mod ItemCount
pub mod DeltaTable
pub mod MvarTable
pub mod LinesTable
pub mod XmtxTable
pub mod FootprintTable
pub mod Search
