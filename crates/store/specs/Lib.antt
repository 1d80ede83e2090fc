-- What the contracts of `store` cite.
pub mod KeyedAnswers
pub mod RegionAnswers
pub mod ItemAnswers
pub mod MetricAnswers
pub mod MvarAnswers
pub mod MvarDeltasAnswers
