-- The laws that the proofs of `axes` share, by subject; the theorem of normalising; no second answer.
pub mod Exits
pub mod Order
pub mod Quotient
pub mod Maps
pub mod Axes
pub mod Instances
pub mod Coords
pub mod Parts
pub mod Normalizing
pub mod AxisOne
pub mod FvarOne
pub mod VariationOne
