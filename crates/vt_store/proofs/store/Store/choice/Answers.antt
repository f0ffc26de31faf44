use Rattle.std.proofs.Common.{refl, rules, ap, arith}
use Rattle.vt_store.specs.Diagrams.{end_in}
use Rattle.vt_store.specs.Stores.{one_of}
use Rattle.vt_store.proofs.StoreSteps.{IsStore-push, Adds-push}
use Rattle.vt_store.proofs.store.Store.choice.Goals as goal

pub invariant_of-self-2 : goal.invariant_of-self-2
invariant_of-self-2 g c =
    let left = rw (← c.self.view_is) at c.requires.left in
    let right = rw (← c.self.view_is) at c.requires.right in
    IsStore-push _ _ _ c.in_ok-diagram.diagram c.in_ok-push.ensures.ok.0 refl c.self.invariant
    (rw c.in_ok-diagram.ensures (record { ordered = (omega arith, c.requires.dim, tt, tt); cells = (left, right) }))

pub returns-clause-ok : goal.returns-clause-ok
returns-clause-ok g c =
    rw (← c.self.view_is) (search rules, Adds-push g.row.N _ _ c.in_ok-diagram.diagram c.in_ok-push.ensures.ok.0 refl (one_of c.args.dim c.args.left c.args.right) (λ d. ap (end_in d) c.in_ok-diagram.ensures))
