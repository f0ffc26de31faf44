pub mod ScopeLists
pub mod EventLists
pub mod Giving
pub mod Forms
pub mod Dimensions
pub mod Programs
pub mod Staying
mod Selecting
pub mod Closing
pub mod Numbering
pub mod OneCore
pub mod LeafLists
pub mod Leaves
