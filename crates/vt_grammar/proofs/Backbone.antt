-- What ties the machine to the tokens that it has read.
pub use Rattle.vt_grammar.proofs.ReadSpelled.{read_is_spelled}
pub use Rattle.vt_grammar.proofs.Completing.{has_completion}
pub use Rattle.vt_grammar.proofs.SpelledRead.{spelled_is_read}
pub use Rattle.vt_grammar.proofs.Needing.{need_rises}
