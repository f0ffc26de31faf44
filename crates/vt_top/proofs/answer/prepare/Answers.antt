use Rattle.std.proofs.Common.{inl}
use Rattle.vt_report.specs.declared.refusal.Refusal.TheVariants.{TooLong}
use Rattle.vt_lex.specs.Lexing.{most_bytes}
use Rattle.vt_top.proofs.AnswerLaws.{too_long_bytes, refused_answer}
use Rattle.vt_top.proofs.answer.prepare.Goals as goal

pub returns-in_ok-refused-in-TooLong-clause-defined : goal.returns-in_ok-refused-in-TooLong-clause-defined
returns-in_ok-refused-in-TooLong-clause-defined g c =
    let long = too_long_bytes (g.F.Files.held c.args.files.now c.in-Some.name.now) most_bytes (rw c.in-TooLong.is at c.in_ok-fetch.ensures.fetched) in
    rw (← c.in-Some.ensures) (long.0, long.1, refused_answer long.0 TooLong _ _ (inl long.2) c.in_ok-refused-in-TooLong.ensures)
