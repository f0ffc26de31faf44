use Rattle.std.proofs.Common.{◌∙◌, ℕ, List, map, slice_index, ap, refl}
use Rattle.vt_scheme.proofs.Merging.{IsFrozen-shared}
use Rattle.vt_scheme.proofs.scheme.represented.Goals as goal

pub returns : goal.returns
returns g c =
    IsFrozen-shared g.row.N c.args.scheme.now.cells c.args.shared c.requires.shared c.args.scheme.now.monos c.args.scheme.now.root c.requires.cells.monos c.requires.cells.root _
    refl (c.in_ok-monos.ensures ∙ ap (λ (own : List ℕ). map (slice_index own) c.args.scheme.now.monos) c.as_slice.ensures) c.representative-root.ensures
