use Rattle.vt_scope.proofs.Programs.{def_given}
use Rattle.vt_scope.proofs.resolving.definition.Goals as goal

pub returns : goal.returns
returns c s here =
    rw (c.in_ok-name.ensures, c.into_inner.ensures)
    (def_given c.args.constants.now s c.args.def.now c.args.walk.now c.bound_part.new.walk c.number.new.self c.push.new.self c.in_ok-body.body c.in_ok-node.node
    c.in_ok-node.ensures.0 c.in_ok-node.ensures.1 c.in_ok-push.ensures (c.in_ok-body.ensures s here))
