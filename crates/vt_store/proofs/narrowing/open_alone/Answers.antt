use Rattle.std.proofs.Common.{◌∙◌, ◌<◌, ℕ, List, length, get_or, subst, sym, Contains}
use Rattle.std.specs.List.{All}
use Rattle.std.proofs.lemmas.List.{get_or_default, get_or_read}
use Rattle.vt_store.specs.declared.diagram.Diagram.{Open}
use Rattle.vt_store.specs.Narrowing.{IsOpenAlone, AreOpenAlone, IsWhether}
use Rattle.vt_store.proofs.Finding.{All-added}
use Rattle.vt_store.proofs.narrowing.open_alone.Goals.{then-not-contains+then-is_open+in_ok-add, else-not-contains}
use Rattle.vt_store.proofs.narrowing.open_alone.Goals as goal

pub loop-cell-preserved : goal.loop-cell-preserved
loop-cell-preserved c =
    let cell : ℕ = get_or c.as_slice-cell-items.result.now c.loop-cell.cell-index 0 in
    let here : Contains c.args.ones.now cell = subst (λ (cells : List ℕ). Contains cells cell) c.as_slice-cell-items.ensures.cells (c.loop-cell.cell-index, c.loop-cell-test.true, get_or_default c.as_slice-cell-items.result.now c.loop-cell.cell-index cell 0 c.loop-cell-test.true) in
    let within : cell < length c.args.diagrams.now =
    subst (All (λ own. own < length c.args.diagrams.now)) (sym c.as_slice-cell-items.ensures.cells) c.requires c.loop-cell.cell-index 0 c.loop-cell-test.true
    in
    elim c.if-not-contains.branch [
      | then-not-contains+then-is_open+in_ok-add w ↦
          subst (AreOpenAlone c.args.diagrams.now c.args.ones.now c.args.others.now) (sym w.found-is)
          (All-added (IsOpenAlone c.args.diagrams.now c.args.ones.now c.args.others.now) c.loop-cell.found w.add.new.self cell w.in_ok-add.field-0 w.in_ok-add.ensures.added c.loop-cell.invariant
          (record {
            within = within;
            here = here;
            alone = subst (IsWhether c.args.others.now cell) w.if-not-contains.true c.contains.ensures;
            is_open = sym (get_or_read c.args.diagrams.now cell w.index-diagrams-cell.result within w.index-diagrams-cell.is Open) ∙ w.is_open.ensures w.if-is_open.true;
          }))
      | else-not-contains w ↦ subst (AreOpenAlone c.args.diagrams.now c.args.ones.now c.args.others.now) (sym w.found-is) c.loop-cell.invariant
    ]
