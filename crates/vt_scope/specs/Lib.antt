pub mod Scopes
pub mod Faults
pub mod Cores
pub mod Walking
pub mod Definitions
pub mod Erased
