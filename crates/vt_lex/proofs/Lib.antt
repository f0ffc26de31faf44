pub mod PieceLemmas
pub mod FrontLemmas
pub mod FoundLemmas
pub mod GapLemmas
pub mod StepLemmas
pub mod SpanLemmas
pub mod PlaceLemmas
pub mod OneReading
