-- What the contracts of `axes` cite.
pub mod AxisAnswers
pub mod FvarAnswers
