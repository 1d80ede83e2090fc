-- What the contracts of `lines` cite beside the definitions of `opentype`.
pub mod LinesAnswers
