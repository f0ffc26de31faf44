mod ParsedLemmas
pub mod LawLemmas
mod ShutLemmas
mod StepLemmas
