use Rattle.std.proofs.Common.{◌≡◌, ◌∙◌, ◌++◌, ◌∷◌, ℕ, [], List, ap, sym, length, map, arith}
use Rattle.std.specs.List.{range_with_len}
use Rattle.std.proofs.lemmas.List.FromFn.{map-range_with_len_more}
use Rattle.vt_store.proofs.Representing.{AreRepresentatives-itself}
use Rattle.vt_store.proofs.sharing.each_itself.Goals as goal

pub loop-cell-preserved : goal.loop-cell-preserved
loop-cell-preserved c =
    c.in_ok-push.ensures.items ∙ ap (λ (own : List ℕ). own ++ c.loop-cell.cell ∷ []) c.loop-cell.invariant
    ∙ sym (map-range_with_len_more (λ (own : ℕ). own) 0 c.loop-cell.cell c.loop-cell.cell (omega arith))

pub returns : goal.returns
returns c =
    let all : c.loop-cell.cell ≡ length c.args.diagrams.now = omega (arith, c.loop-cell-test.false, c.loop-cell.auto.cell-end) in
    AreRepresentatives-itself c.args.diagrams.now c.loop-cell.names.items (c.loop-cell.invariant ∙ ap (λ (own : ℕ). map (λ cell. cell) (range_with_len 0 own)) all)
