use Rattle.std.proofs.Common.{◌<◌, ℕ, sym, subst, arith}
use Rattle.std.specs.List.{All}
use Rattle.vt_store.specs.Stores.{cell_count}
use Rattle.vt_scheme.proofs.Merging.{IsFrozen-both, if_frozen}
use Rattle.vt_scheme.proofs.scheme.merged.Goals as goal

pub represented-requires : goal.represented-requires
represented-requires g c = (omega arith, (omega arith, (c.requires, c.in_ok-straightened.ensures.shared)))

pub represented-requires-2 : goal.represented-requires-2
represented-requires-2 g c = (omega arith, (omega arith, (c.in_ok-straight.ensures.cells, c.in_ok-shared.ensures.shared)))

pub taken-requires : goal.taken-requires
taken-requires g c = (
  omega arith,
  (
    omega arith,
    (
      subst (All (λ (cell : ℕ). cell < cell_count c.in_ok-shared-2.shared.cells)) (sym c.as_slice.ensures) c.in_ok-shared-2.ensures.cells.monos,
      c.in_ok-shared-2.ensures.cells.root,
    ),
  ),
)

pub returns : goal.returns
returns g c =
    let monos = c.args.scheme.now.monos in
    let both = IsFrozen-both g.row.N c.args.scheme.now.cells monos c.args.scheme.now.root c.in_ok-straight.straight c.in_ok-shared-2.shared c.in_ok-straight.ensures c.in_ok-shared-2.ensures in
    if_frozen g.row.N c.args.scheme.now.cells monos c.args.scheme.now.root c.in_ok-shared-2.shared c.as_slice.result.now both c.as_slice.ensures c.taken.result c.taken.ensures
