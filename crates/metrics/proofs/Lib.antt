-- The laws that the proofs of `metrics` share; computed examples; no second answer.
pub mod Floats
pub mod Varying
pub mod MeasuresTable
pub mod GlyphTable
pub mod MeasuresOne
pub mod GlyphOne
