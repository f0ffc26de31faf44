pub mod Numbering
pub mod Ranking
pub mod Curing
pub mod Listed
