pub mod EventPlaces
pub mod LeafSpans
pub mod ScopeRefusals
pub mod OneReading
pub mod Unnamed
pub mod PlainFiles
