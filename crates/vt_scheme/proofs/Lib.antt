pub mod Freezing
pub mod Copying
pub mod Merging
