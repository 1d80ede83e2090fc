-- What the contracts of `numerals` cite.
pub mod Parse
