-- What is listed by the input's length, and once it is read; whole listings, computed; no second answer.
pub mod Lines
pub mod Limit
pub mod Passing
pub mod Examples
pub mod One
