use Rattle.vt_infer.proofs.DefinedLemmas.{plain_defined}
use Rattle.vt_infer.proofs.GatheringLemmas.{plain_marked}
use Rattle.vt_infer.proofs.definitions.definition.Goals as goal

pub returns : goal.returns
returns g c = record {
  defined = plain_defined g.row.N c.args.constants.now c.args.within.now c.args.def.now c.args.work.now c.requires c.if-def.false c.in_ok-cell-2.cell c.expression.new.work c.in_ok-cell-2.ensures.expressed;
  marked = plain_marked g.row.N c.args.constants.now c.args.within.now c.args.def.now c.args.work.now c.if-def.false c.in_ok-cell-2.cell c.expression.new.work c.args.holes.now c.expression.new.holes c.in_ok-cell-2.ensures.marked;
}
