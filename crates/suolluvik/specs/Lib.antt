-- What the exports add to the definitions that they cite.
pub mod Numbered
pub mod Fvar
pub mod Measures
pub mod MeasuresAnswers
pub mod Glyph
pub mod GlyphAnswers
