-- What the contracts of `widths` cite; the footprint of an adjusted measure, over which demand 3 is stated.
pub mod Adjusted
pub mod Glyph
