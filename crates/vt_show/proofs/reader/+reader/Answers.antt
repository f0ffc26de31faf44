use Rattle.std.proofs.Common.{◌<◌, length, arith}
use Rattle.std.proofs.lemmas.Result.{err_from_is_err_and}
use Rattle.vt_show.specs.Steps.{type_at}
use Rattle.vt_show.proofs.StepByStep.{atom_choice, list_miss, inside_miss, left_miss, right_miss, pair_miss, pair_alone, pair_both, pair_right_miss, arrow_miss, arrow_alone, arrow_both, arrow_right_miss}
use Rattle.vt_show.proofs.reader.+reader.Goals as goal

pub read_arrow-returns-in_err-from-clause-read : goal.read_arrow-returns-in_err-from-clause-read
read_arrow-returns-in_err-from-clause-read t c fuel room =
    let p = err_from_is_err_and c.from_residual.result c.from_residual.ensures.1 in
    rw (p.1, p.2) (arrow_miss c.args.dims.now c.args.text.now _ fuel room c.in_err-from.ensures.read)

pub read_arrow-returns-in_default-clause-read : goal.read_arrow-returns-in_default-clause-read
read_arrow-returns-in_default-clause-read t c fuel room =
    arrow_alone c.args.dims.now c.args.text.now _ _ c.in_ok-from.ensures.read fuel room c.in_default.ensures.rest

pub read_arrow-returns-in_err-to-clause-read : goal.read_arrow-returns-in_err-to-clause-read
read_arrow-returns-in_err-to-clause-read t c fuel room =
    let p = err_from_is_err_and c.from_residual-in_err-to.result c.from_residual-in_err-to.ensures.1 in
    let shorter : length c.in-Some.right.now < length c.args.text.now = omega (arith, c.in_ok-from.ensures.shorter, c.in-Some.ensures.shorter) in
    rw (p.1, p.2) (arrow_right_miss c.args.dims.now c.args.text.now _ _ c.in_ok-from.ensures.read _ c.in-Some.ensures.rest shorter _ fuel room c.in_err-to.ensures.read)

pub read_arrow-returns-clause-read : goal.read_arrow-returns-clause-read
read_arrow-returns-clause-read t c fuel room =
    let shorter : length c.in-Some.right.now < length c.args.text.now = omega (arith, c.in_ok-from.ensures.shorter, c.in-Some.ensures.shorter) in
    rw c.in_ok-two.ensures (arrow_both c.args.dims.now c.args.text.now _ _ c.in_ok-from.ensures.read _ c.in-Some.ensures.rest shorter _ _ fuel room c.in_ok-to.ensures.read)

pub read_atom-returns-in-Some-after-3-clause-read :
    goal.read_atom-returns-in-Some-after-3-clause-read
read_atom-returns-in-Some-after-3-clause-read t c fuel room =
    rw (atom_choice c.args.dims.now c.args.text.now (type_at c.args.dims.now fuel) _ c.in_default.ensures.word c.in_default-after.ensures.rest c.in_default-after-2.ensures.rest c.in-Some-after-3.ensures.rest)
    (c.read_choice.ensures.read fuel (omega (arith, c.in-Some-after-3.ensures.shorter)))

pub read_choice-returns-in_err-left-clause-read : goal.read_choice-returns-in_err-left-clause-read
read_choice-returns-in_err-left-clause-read t c fuel room =
    let p = err_from_is_err_and c.from_residual-in_err-left.result c.from_residual-in_err-left.ensures.1 in
    rw (p.1, p.2) (left_miss c.args.dims.now c.args.text.now (type_at c.args.dims.now fuel) _ _ _ c.in_ok-dim.ensures.read (c.in_err-left.ensures.read fuel (omega (arith, c.in_ok-dim.ensures.shorter))))

pub read_choice-returns-in_err-right-clause-read :
    goal.read_choice-returns-in_err-right-clause-read
read_choice-returns-in_err-right-clause-read t c fuel room =
    let p = err_from_is_err_and c.from_residual-in_err-right.result c.from_residual-in_err-right.ensures.1 in
    let first = c.in_ok-left.ensures.read fuel (omega (arith, c.in_ok-dim.ensures.shorter)) in
    let second = c.in_err-right.ensures.read fuel (omega (arith, c.in_ok-dim.ensures.shorter, c.in_ok-left.ensures.shorter, c.in_ok-rest.ensures.shorter)) in
    rw (p.1, p.2) (right_miss c.args.dims.now c.args.text.now (type_at c.args.dims.now fuel) _ _ _ _ _ _ c.in_ok-dim.ensures.read first c.in_ok-rest.ensures.read second)

pub read_inside-returns-in_err-vtype-clause-read :
    goal.read_inside-returns-in_err-vtype-clause-read
read_inside-returns-in_err-vtype-clause-read t c fuel room =
    let p = err_from_is_err_and c.from_residual.result c.from_residual.ensures.1 in
    rw (p.1, p.2) (inside_miss c.args.dims.now c.args.text.now (type_at c.args.dims.now fuel) _ (c.in_err-vtype.ensures.read fuel room))

pub read_list-returns-in_err-item-clause-read : goal.read_list-returns-in_err-item-clause-read
read_list-returns-in_err-item-clause-read t c fuel room =
    let p = err_from_is_err_and c.from_residual.result c.from_residual.ensures.1 in
    rw (p.1, p.2) (list_miss c.args.dims.now c.args.text.now (type_at c.args.dims.now fuel) _ (c.in_err-item.ensures.read fuel room))

pub read_pair-returns-in_err-left-clause-read : goal.read_pair-returns-in_err-left-clause-read
read_pair-returns-in_err-left-clause-read t c fuel room =
    let p = err_from_is_err_and c.from_residual.result c.from_residual.ensures.1 in
    rw (p.1, p.2) (pair_miss c.args.dims.now c.args.text.now (type_at c.args.dims.now fuel) _ (c.in_err-left.ensures.read fuel room))

pub read_pair-returns-in_default-clause-read : goal.read_pair-returns-in_default-clause-read
read_pair-returns-in_default-clause-read t c fuel room =
    pair_alone c.args.dims.now c.args.text.now (type_at c.args.dims.now fuel) _ _ (c.in_ok-left.ensures.read fuel room) c.in_default.ensures.rest

pub read_pair-returns-in_err-right-clause-read : goal.read_pair-returns-in_err-right-clause-read
read_pair-returns-in_err-right-clause-read t c fuel room =
    let p = err_from_is_err_and c.from_residual-in_err-right.result c.from_residual-in_err-right.ensures.1 in
    let next = c.in_err-right.ensures.read fuel (omega (arith, c.in_ok-left.ensures.shorter, c.in-Some.ensures.shorter)) in
    rw (p.1, p.2) (pair_right_miss c.args.dims.now c.args.text.now (type_at c.args.dims.now fuel) _ _ (c.in_ok-left.ensures.read fuel room) _ _ c.in-Some.ensures.rest next)

pub read_pair-returns-clause-read : goal.read_pair-returns-clause-read
read_pair-returns-clause-read t c fuel room =
    let next = c.in_ok-right.ensures.read fuel (omega (arith, c.in_ok-left.ensures.shorter, c.in-Some.ensures.shorter)) in
    rw c.in_ok-two.ensures (pair_both c.args.dims.now c.args.text.now (type_at c.args.dims.now fuel) _ _ (c.in_ok-left.ensures.read fuel room) _ _ _ c.in-Some.ensures.rest next)
