use Rattle.std.proofs.Common.{◌≡◌, ◌∙◌, ◌++◌, ◌∷◌, ℕ, [], ap, sym, length, map, arith}
use Rattle.std.specs.List.{range_with_len}
use Rattle.std.proofs.lemmas.List.FromFn.{map-range_with_len_more}
use Rattle.vt_store.specs.Sharing.{followed}
use Rattle.vt_store.proofs.Straight.{AreStraight-all}
use Rattle.vt_store.proofs.sharing.straight.Goals as goal

pub loop-cell-preserved : goal.loop-cell-preserved
loop-cell-preserved c =
    c.in_ok-push.ensures.items ∙ (λ i. c.loop-cell.invariant i ++ c.last.ensures i ∷ [])
    ∙ sym (map-range_with_len_more (followed c.args.diagrams.now (length c.args.diagrams.now)) 0 c.loop-cell.cell c.loop-cell.cell (omega arith))

pub returns : goal.returns
returns c =
    let all : c.loop-cell.cell ≡ length c.args.diagrams.now = omega (arith, c.loop-cell-test.false, c.loop-cell.auto.cell-end) in
    AreStraight-all c.args.diagrams.now c.loop-cell.names.items (c.loop-cell.invariant ∙ ap (λ (own : ℕ). map (followed c.args.diagrams.now (length c.args.diagrams.now)) (range_with_len 0 own)) all)
