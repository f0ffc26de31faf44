use Rattle.vt_store.proofs.StoreSteps.{IsStore-arities}
use Rattle.vt_store.proofs.store.Store.acyclic.Goals as goal

pub returns-clause-acyclic : goal.returns-clause-acyclic
returns-clause-acyclic g c = rw (← c.self.view_is) c.self.invariant.acyclic

pub returns-clause-arities : goal.returns-clause-arities
returns-clause-arities g c = rw (← c.self.view_is) (λ decision of. IsStore-arities _ _ c.self.invariant decision)
