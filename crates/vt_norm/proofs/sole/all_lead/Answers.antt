use Rattle.std.proofs.Common.{◌≡◌, ℕ, sym, subst, ◌∙◌, rules}
use Rattle.std.proofs.lemmas.List.Elements.{All-more}
use Rattle.vt_norm.specs.Soles.{ahead_in}
use Rattle.vt_norm.proofs.sole.all_lead.Goals as goal

pub loop-cell-preserved : goal.loop-cell-preserved
loop-cell-preserved c =
    let P : ℕ → Type 0 = λ cell. ahead_in c.args.known.now cell ≡ c.args.last in
    let same : c.ahead.result ≡ c.args.last = search rules in
    All-more P c.args.cells.now c.loop-cell.cell-index c.cell-item.result c.loop-cell-test.true c.loop-cell.invariant (subst P c.cell-item.is (sym c.ahead.ensures ∙ same))
