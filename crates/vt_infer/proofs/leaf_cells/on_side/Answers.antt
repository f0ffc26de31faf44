use Rattle.std.proofs.Common.{sym, subst}
use Rattle.std.proofs.lemmas.Result.{IfOk-weaker}
use Rattle.vt_dec.specs.Decisions.{Takes}
use Rattle.vt_infer.specs.Mixing.{IsMade}
use Rattle.vt_infer.proofs.MixingLemmas.{made-left, made-right}
use Rattle.vt_infer.proofs.leaf_cells.on_side.Goals as goal

pub returns-in-Left : goal.returns-in-Left
returns-in-Left g c = IfOk-weaker c.choice_cell.result _ _ (λ cell made.
    subst (λ side. IsMade g.row.N (λ decision. Takes decision c.args.dim side) c.args.one c.args.other cell c.args.store.now c.choice_cell.new.store) (sym c.in-Left.is)
    (made-left g.row.N c.args.store.now c.choice_cell.new.store c.args.dim c.requires.dim c.args.one c.args.other cell made)) c.choice_cell.ensures

pub returns-in-Right : goal.returns-in-Right
returns-in-Right g c = IfOk-weaker c.choice_cell-in-Right.result _ _ (λ cell made.
    subst (λ side. IsMade g.row.N (λ decision. Takes decision c.args.dim side) c.args.one c.args.other cell c.args.store.now c.choice_cell-in-Right.new.store) (sym c.in-Right.is)
    (made-right g.row.N c.args.store.now c.choice_cell-in-Right.new.store c.args.dim c.requires.dim c.args.other c.args.one cell made)) c.choice_cell-in-Right.ensures
