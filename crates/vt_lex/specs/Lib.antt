pub use Rattle.unicode_ident.specs.Ident
pub mod Tokens
pub mod Lexing
pub mod Spans
pub mod Places
pub mod Reading
