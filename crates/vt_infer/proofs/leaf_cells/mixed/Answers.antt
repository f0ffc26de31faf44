use Rattle.std.proofs.Common.{sym, subst}
use Rattle.vt_dec.specs.Decisions.{IsNextDecided}
use Rattle.vt_infer.proofs.MixingLemmas.{Mixing, mixing-begin, mixing-next, mixing-end}
use Rattle.vt_infer.proofs.leaf_cells.mixed.Goals as goal

pub dims-init : goal.dims-init
dims-init g c = mixing-begin g.row.N c.args.within.now c.args.one c.args.other c.args.store.now c.requires.one c.requires.other

pub dims-preserved : goal.dims-preserved
dims-preserved g c =
    subst (λ from. Mixing g.row.N c.args.within.now from c.args.one c.args.other c.in_ok-cell.cell c.args.store.now c.on_side.new.store) (sym c.in_ok-from.ensures)
    (mixing-next g.row.N c.args.within.now c.args.one c.args.other c.args.store.now c.dims.from c.in-Some.decided.0 c.in-Some.decided.1 (subst (IsNextDecided c.args.within.now c.dims.from) c.in-Some.is c.next_decided.ensures.next)
    c.dims.cell c.in_ok-cell.cell c.dims.store c.on_side.new.store c.dims.invariant c.in_ok-cell.ensures)

pub returns : goal.returns
returns g c = mixing-end g.row.N c.args.within.now c.args.one c.args.other c.args.store.now c.dims.from c.dims.cell c.dims.store c.sized.ensures.sized c.requires.space
    (subst (IsNextDecided c.args.within.now c.dims.from) c.in_default.is c.next_decided.ensures.next) c.dims.invariant
