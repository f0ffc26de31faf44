use Rattle.std.proofs.Common.{◌≡◌, ◌∙◌, ℕ, ◌+◌, map, ap, sym, subst}
use Rattle.vt_dec.specs.declared.side.Space.{Space}
use Rattle.vt_store.specs.Writes.{IsOf}
use Rattle.vt_store.specs.Stores.{cell_count}
use Rattle.vt_scheme.proofs.Copying.{IsInstanceOf-appended}
use Rattle.vt_scheme.proofs.scheme.instance.Goals as goal

pub returns-clause-ok : goal.returns-clause-ok
returns-clause-ok g c =
    let cells = rw (← c.scheme.view_is) at c.requires.cells in
    let spaces = rw (← c.scheme.view_is) at c.requires.space in
    let monos : c.in_ok-monos.monos ≡ map (λ cell. cell + cell_count c.args.store.now) c.scheme.inside.0.1.0 =
    c.in_ok-monos.ensures ∙ ap (λ (by : ℕ). map (λ cell. cell + by) c.scheme.inside.0.1.0) c.count-by.ensures.count
    in
    rw (← c.scheme.view_is)
    (IsInstanceOf-appended _ c.args.store.now c.append.new.self c.in_ok-append.ensures.ok.1 cells c.acyclic.ensures.acyclic
    (λ decision of. c.acyclic-2.ensures.acyclic decision (subst (λ (space : Space). IsOf g.row.N space decision) (sym spaces) of))
    _ monos (ap (λ (by : ℕ). c.scheme.inside.0.1.1.0.0 + by) c.count-by.ensures.count))
