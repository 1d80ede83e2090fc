pub mod Digits
pub mod One
pub mod Examples
