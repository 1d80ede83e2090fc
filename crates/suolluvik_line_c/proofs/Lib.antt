-- No second answer.
pub mod LineOne
