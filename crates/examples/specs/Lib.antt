-- What the contract of `examples` cites.
pub mod Tags
