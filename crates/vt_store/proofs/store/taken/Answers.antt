use Rattle.std.proofs.Common.{◌≡◌, length, rules}
use Rattle.vt_store.proofs.Finding.{IsLater-both, AreCopied-next}
use Rattle.vt_store.proofs.store.taken.Goals as goal

pub loop-cell-preserved : goal.loop-cell-preserved
loop-cell-preserved c =
    let at = rw (← c.cell.view_is) at c.in-Some.ensures.found in
    let last : c.len.result ≡ length c.loop-cell.copies.items = search rules in
    let next =
    AreCopied-next c.args.diagrams.now c.loop-cell.found c.moved.new.found c.loop-cell.copies.items c.push.new.self.items c.index-diagrams-cell.result c.in_ok-copy.copy c.cell.inside.0 c.len.result
    last at.0 at.1 c.index-diagrams-cell.is c.in_ok-push.ensures.items c.requires.cells c.loop-cell.invariant.copied c.in_ok-copy.ensures
    in
    record { later = IsLater-both _ _ _ c.loop-cell.invariant.later next.0; copied = next.1 }
