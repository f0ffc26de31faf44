use Rattle.std.proofs.Common.{◌*◌, rules}
use Rattle.vt_diagram.proofs.Answering.{values-answer, combined}
use Rattle.vt_diagram.proofs.table.Table.+combined.Goals.{in-Values+in_ok-id-in-Values, in-Parts+in_ok-left-in-Parts+in_ok-right-in-Parts+in_ok-id-in-Parts}
use Rattle.vt_diagram.proofs.table.Table.+combined.Goals as goal

pub remember-requires : goal.remember-requires
remember-requires g t c = (
  search rules,
  elim c.match-split.branch [
    | in-Values+in_ok-id-in-Values w ↦ rw (w.self-is, w.id-is)
        (values-answer (64 * g.row.N) c.args.self.now w.leaf.new.self c.args.budget c.args.operation c.args.one c.args.other _ _ w.in_ok-id-in-Values.id _ w.leaf.ensures.grows c.requires.0 c.requires.1 w.in-Values.ensures
        w.in_ok-id-in-Values.ensures.is.0 w.in_ok-id-in-Values.ensures.is.1 w.of.ensures)
    | in-Parts+in_ok-left-in-Parts+in_ok-right-in-Parts+in_ok-id-in-Parts w ↦ rw (w.self-is, w.id-is)
        (combined (64 * g.row.N) c.args.self.now w.combined.new.self w.combined-in-Parts.new.self w.choice.new.self c.args.budget w.spent.result c.args.operation c.args.one c.args.other _ _ _ _ _ w.in_ok-id-in-Parts.id
        c.requires.0 c.requires.1 w.in-Parts.ensures w.combined.ensures.grows w.in_ok-left-in-Parts.ensures.is w.spent.ensures w.combined-in-Parts.ensures.grows w.in_ok-right-in-Parts.ensures.is w.choice.ensures.grows
        w.in_ok-id-in-Parts.ensures.is)
  ],
)
