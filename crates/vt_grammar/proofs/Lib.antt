mod Rows
mod KnownWords
mod Standing
mod Shutting
mod ReadSpelled
mod Completing
mod Running
mod SpelledRead
mod Needing
pub mod Backbone
pub mod DepthLemmas
pub mod ReduceLemmas
pub mod ReadOn
pub mod OtherStacks
