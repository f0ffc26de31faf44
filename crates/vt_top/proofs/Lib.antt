pub mod AnswerLaws
pub mod NamedDimensions
pub mod PartTypes
pub mod OneAnswer
