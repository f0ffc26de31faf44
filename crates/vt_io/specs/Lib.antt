pub mod Counts
pub mod Fetched
pub mod Written
pub mod Memory
pub mod MemorySink
pub mod Kept
pub mod Host
