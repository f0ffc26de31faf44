use Rattle.std.proofs.Common.{arith, ap}
use Rattle.vt_lex.specs.Lexing.{byte_count}
use Rattle.vt_lex.proofs.StepLemmas.{byte_count-split, SkipsGap-counted}
use Rattle.vt_lex.proofs.lexer.skip_gap.Goals as goal

pub byte_count-requires : goal.byte_count-requires
byte_count-requires c = rw c.split_at.ensures.front (omega (arith, byte_count-split c.gap_length.result c.args.text.now))

pub overflow_add-result : goal.overflow_add-result
overflow_add-result c = omega (arith, ap byte_count c.split_at.ensures.front, byte_count-split c.gap_length.result c.args.text.now)

pub returns-clause-skips : goal.returns-clause-skips
returns-clause-skips c = rw (c.byte_count.ensures, c.split_at.ensures.front, c.split_at.ensures.back, c.gap_length.ensures.length) (SkipsGap-counted c.args.at c.args.text.now)

pub returns-clause-places : goal.returns-clause-places
returns-clause-places c = rw (c.byte_count.ensures, c.split_at.ensures.front, c.split_at.ensures.back) (omega (arith, byte_count-split c.gap_length.result c.args.text.now))
