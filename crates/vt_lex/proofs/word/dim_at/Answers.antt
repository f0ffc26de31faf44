use Rattle.std.proofs.Common.{arith}
use Rattle.std.proofs.lemmas.Str.{IsCharBoundary-after_ascii}
use Rattle.vt_lex.proofs.word.dim_at.Goals as goal

pub range-word-requires-clause-start_boundary : goal.range-word-requires-clause-start_boundary
range-word-requires-clause-start_boundary c = λ _. IsCharBoundary-after_ascii c.args.text.now c.args.span.start c.utf8.text (omega arith) (omega arith)
