use Rattle.std.proofs.Common.{sym, ◌∙◌}
use Rattle.std.proofs.lemmas.Result.{err_from_is_err_and}
use Rattle.vt_show.proofs.StepByStep.{whole_miss, whole_ended, whole_goes_on}
use Rattle.vt_show.proofs.reader.read_whole.Goals as goal

pub returns-in_err-vtype : goal.returns-in_err-vtype
returns-in_err-vtype c =
    let p = err_from_is_err_and c.from_residual.result c.from_residual.ensures.1 in
    rw (p.1, p.2) (whole_miss c.args.dims.now c.args.text.now _ c.in_err-vtype.ensures.read)

pub returns-then-is_empty : goal.returns-then-is_empty
returns-then-is_empty c =
    whole_ended c.args.dims.now c.args.text.now _ _ c.in_ok-vtype.ensures.read (sym c.is_empty.ensures ∙ c.if-is_empty.true)

pub returns-else-is_empty : goal.returns-else-is_empty
returns-else-is_empty c =
    whole_goes_on c.args.dims.now c.args.text.now _ _ c.in_ok-vtype.ensures.read (sym c.is_empty.ensures ∙ c.if-is_empty.false)
