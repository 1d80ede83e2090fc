-- What the contracts of `metrics` cite.
pub mod Scale
pub mod Measures
pub mod Vertical
pub mod Glyph
pub mod Structs
