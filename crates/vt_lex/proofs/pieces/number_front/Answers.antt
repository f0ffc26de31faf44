use Rattle.std.proofs.Common.{rules}
use Rattle.vt_lex.proofs.PieceLemmas.{AreDigits-front}
use Rattle.vt_lex.proofs.pieces.number_front.Goals as goal

pub number_of-requires : goal.number_of-requires
number_of-requires c = search (rules, AreDigits-front)
