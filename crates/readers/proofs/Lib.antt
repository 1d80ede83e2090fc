-- The laws that the proofs of `readers` and of the crates above it cite, and that no function has a second answer.
pub mod Outcome
pub mod Bytes
pub mod Reading
pub mod Walk
pub mod Lent
pub mod Passed
pub mod TwoFonts
pub mod Types
pub mod One
