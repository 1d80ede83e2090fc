-- Small fonts, computed by the definitions; demand 3 for an adjusted measure; no second answer.
pub mod Table
pub mod OnlyFootprint
pub mod One
