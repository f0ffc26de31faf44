use Rattle.std.proofs.Common.{rules, subst, sym}
use Rattle.vt_infer.specs.Environments.{IsHeld}
use Rattle.vt_infer.proofs.GoingOn.{held-later}
use Rattle.vt_infer.proofs.definitions.add.Goals as goal

pub generalise-requires : goal.generalise-requires
generalise-requires g c =
    let defined = c.in_ok-root.ensures.defined in (
      search rules,
      (
        defined.is_cell,
        subst (IsHeld c.definition.new.work.store) (sym defined.environment) (held-later c.args.work.now.store c.definition.new.work.store c.args.work.now.environment defined.space defined.grows c.requires.held),
      ),
    )

pub returns : goal.returns
returns g c = record {
  added = record {
    between = c.definition.new.work;
    root = c.in_ok-root.root;
    defined = c.in_ok-root.ensures.defined;
    solvable = c.solvable.ensures;
    solvable_after = c.solvable-2.ensures;
    store = c.in_ok-generalise.ensures.store;
    pattern = c.in_ok-generalise.ensures.pattern;
    generalised = c.in_ok-generalise.ensures.entry;
    marks_are = c.in_ok-push.ensures;
  };
  marked = c.in_ok-root.ensures.marked;
}
