-- The laws that the proofs of the exports share; computed examples; no second answer.
pub mod One
pub mod Cases
pub mod Changed
pub mod Seen
pub mod Examples
pub mod GlyphExamples
