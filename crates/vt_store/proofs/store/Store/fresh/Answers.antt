use Rattle.std.proofs.Common.{refl, rules}
use Rattle.vt_store.specs.Ends.{Free}
use Rattle.vt_store.specs.declared.diagram.Diagram.{Open}
use Rattle.vt_store.proofs.StoreSteps.{IsStore-push, Adds-push}
use Rattle.vt_store.proofs.store.Store.fresh.Goals as goal

pub invariant_of-self-2 : goal.invariant_of-self-2
invariant_of-self-2 g c = IsStore-push _ _ _ Open c.in_ok-push.ensures.ok.0 refl c.self.invariant (record { ordered = tt; cells = tt })

pub returns-clause-ok : goal.returns-clause-ok
returns-clause-ok g c =
    rw (← c.self.view_is) (search rules, Adds-push g.row.N _ _ Open c.in_ok-push.ensures.ok.0 refl (λ d. Free) (λ d. refl))
