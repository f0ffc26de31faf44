use Rattle.std.proofs.Common.{sym}
use Rattle.vt_show.proofs.Signs.{dim_at_is}
use Rattle.vt_show.proofs.reader.read_dimension.Goals as goal

pub returns-clause-read : goal.returns-clause-read
returns-clause-read c =
    dim_at_is c.args.dims.now c.args.text.now c.in-Some.brace c.in-Some-number_of.number _ _ (sym c.in-Some.ensures.index) c.split_at.ensures.front c.split_at.ensures.back
    (sym c.in-Some-number_of.ensures)
