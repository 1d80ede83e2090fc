-- No second answer.
pub mod One
