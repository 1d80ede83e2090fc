-- The laws that the proofs of `numerals` share; no second answer.
pub mod One
