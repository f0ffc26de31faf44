pub mod Words
pub mod Frames
pub mod Seen
pub mod Machine
pub mod States
