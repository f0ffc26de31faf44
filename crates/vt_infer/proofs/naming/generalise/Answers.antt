use Rattle.std.proofs.Common.{◌<◌, sym, subst, ◌∙◌, rules}
use Rattle.std.specs.List.{All}
use Rattle.vt_store.specs.Stores.{cell_count}
use Rattle.vt_infer.proofs.GoingOn.{mono_cells-held}
use Rattle.vt_infer.proofs.naming.generalise.Goals as goal

pub freeze-requires : goal.freeze-requires
freeze-requires g c =
    (search rules, (search rules, (subst (All (λ cell. cell < cell_count c.args.work.now.store)) (sym (c.as_slice.ensures ∙ c.in_ok-monos.ensures)) (mono_cells-held c.args.work.now.store c.args.work.now.environment c.requires.held), c.requires.root)))
