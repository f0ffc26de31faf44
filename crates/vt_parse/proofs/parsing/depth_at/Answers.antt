use Rattle.vt_parse.proofs.StepLemmas.{depth-read, depth-admitted}
use Rattle.vt_parse.proofs.parsing.depth_at.Goals as goal

pub returns-in_err-depth-in-Read : goal.returns-in_err-depth-in-Read
returns-in_err-depth-in-Read c =
    rw c.from_residual.ensures (depth-read c.args.stack.now c.args.next.now c.in-Read.operand c.in-Read.is c.in_err-depth-in-Read.ensures)

pub depth_over-requires-in-Read : goal.depth_over-requires-in-Read
depth_over-requires-in-Read c = c.in_ok-depth-in-Read.ensures.1

pub returns-in_ok-depth-in-Read : goal.returns-in_ok-depth-in-Read
returns-in_ok-depth-in-Read c =
    depth-admitted c.args.stack.now c.args.next.now c.in-Read.operand c.in_ok-depth-in-Read.depth c.depth_over-in-Read.result c.in-Read.is c.in_ok-depth-in-Read.ensures.0 c.depth_over-in-Read.ensures
