-- What the contracts of `readers` and of the crates above it cite.
pub mod Outcome
pub mod Reading
pub mod Walk
pub mod Lent
pub mod Answers
pub mod Numbers
