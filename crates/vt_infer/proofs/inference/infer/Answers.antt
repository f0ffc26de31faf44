use Rattle.std.proofs.Common.{rules, ◌∙◌}
use Rattle.std.proofs.lemmas.Result.{IfOk-weaker}
use Rattle.vt_infer.proofs.InferredLemmas.{whole_covers, reached_begin, inferred_in, leaf_cells_in}
use Rattle.vt_infer.proofs.SizeLemmas.{context_fits}
use Rattle.vt_infer.proofs.inference.infer.Goals as goal

pub whole-within-requires : goal.whole-within-requires
whole-within-requires g c = context_fits g.row.N c.requires.width

pub all-requires : goal.all-requires
all-requires g c = (
  search rules,
  (
    context_fits g.row.N c.requires.width,
    (
      c.coherent.ensures.table,
      (
        whole_covers g.row.N c.args.space c.whole-within.result c.whole-within.ensures.all,
        (
          reached_begin g.row.N c.args.constants.now c.args.core.now c.args.space c.whole-within.result c.whole-within.ensures.all c.started-work.result c.new-marks.result c.started-work.ensures c.requires.closed c.requires.numbered
              (c.new-marks.ensures ∙ c.new.ensures.items),
          c.requires.width,
        ),
      ),
    ),
  ),
)

pub returns-in-Ok : goal.returns-in-Ok
returns-in-Ok g c = record {
  inferred = IfOk-weaker c.finished.result _ _
      (λ typed same. inferred_in g.row.N c.args.constants.now c.args.core.now c.args.space c.whole-within.result c.whole-within.ensures.all _ typed c.in-Ok.ensures.inferred same)
      c.finished.ensures;
  leaf_cells = IfOk-weaker c.finished.result _ _
      (λ typed same. leaf_cells_in g.row.N c.args.constants.now c.args.core.now c.args.leaves.now c.args.space c.whole-within.result c.whole-within.ensures.all _ typed c.in-Ok.ensures.leaf_cells same)
      c.finished.ensures;
}
