pub mod Decisions
pub mod Words
pub mod Sides
pub mod Contexts
pub mod Inverse
