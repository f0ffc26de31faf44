pub mod Reading
pub mod Steps
pub mod Misses
pub mod Conditions
pub mod Levels
pub mod Laws
pub mod Pairs
