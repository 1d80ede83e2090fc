-- The laws that the proofs of `lines` share, by subject; a filled list gives the delta at its coordinates; demand 3 over it; no second answer.
pub mod Words
pub mod Rows
pub mod FillLaws
pub mod Filled
pub mod ListHangsOn
pub mod LinesOne
