-- The laws that the proofs of `replay` share.
pub mod Texts
