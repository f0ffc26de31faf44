mod Indexing
mod Ranks
mod VaryingForms
mod VariedPrograms
mod Deciding
mod AnswerLemmas
mod ListedLemmas
