use Rattle.std.proofs.Common.{arith}
use Rattle.vt_show.proofs.LetterTexts.{decimal-digits}
use Rattle.vt_show.proofs.writer.push_number.Goals as goal

pub returns-in_ok-write : goal.returns-in_ok-write
returns-in_ok-write c =
    rw (← decimal-digits c.args.number (omega arith) (omega arith)) c.in_ok-write.ensures.bytes
