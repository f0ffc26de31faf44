use Rattle.std.proofs.Common.{take}
use Rattle.vt_infer.specs.Equating.{AreEquated}
use Rattle.vt_infer.proofs.naming.equate_all.Given as goal

abbrev pub invariant-loop-index : goal.invariant-loop-index
invariant-loop-index g l = record {
  equated : AreEquated g.row.N l.within (take l.index l.copies) (take l.index l.originals) l.node l.fn.store l.store l.fn.pattern l.pattern;
}
