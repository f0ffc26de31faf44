use Rattle.std.proofs.Common.{refl}
use Rattle.vt_infer.proofs.LeavesExpressed.{expressed-hole, marked-hole}
use Rattle.vt_infer.proofs.expression.hole.Goals as goal

pub returns : goal.returns
returns g c = λ K at table. record {
  expressed = expressed-hole g.row.N K table c.args.within.now c.args.node at c.in_ok-cell.cell c.args.work.now _ c.in_ok-cell.ensures.is_new refl refl;
  marked = marked-hole g.row.N K c.args.within.now c.args.node at c.in_ok-cell.cell c.args.work.now _ c.args.holes.now c.note.new.self c.in_ok-cell.ensures.is_new c.in_ok-note.ensures;
}
