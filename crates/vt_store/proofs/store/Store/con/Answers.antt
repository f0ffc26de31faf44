use Rattle.std.proofs.Common.{◌≡◌, ◌<◌, ◌∙◌, ap, sym, refl, rules, subst, length}
use Rattle.std.specs.List.{All}
use Rattle.vt_store.specs.Ends.{Made}
use Rattle.vt_store.specs.declared.diagram.Diagram.{Con}
use Rattle.vt_store.proofs.StoreSteps.{IsStore-push, Adds-push}
use Rattle.vt_store.proofs.store.Store.con.Goals as goal

pub invariant_of-self-2 : goal.invariant_of-self-2
invariant_of-self-2 g c =
    let kids : c.new-kids.result ≡ c.args.kids.now = c.new-kids.ensures ∙ c.in_ok-from_slice.ensures.items in
    let within = rw (← c.self.view_is) at c.requires.kids in
    IsStore-push _ _ _ (Con c.args.head c.new-kids.result) c.in_ok-push.ensures.ok.0 refl c.self.invariant
    (record { ordered = tt; cells = (ap length kids ∙ c.requires.arity, subst (All (λ kid. kid < length c.self.inside.cells.items)) (sym kids) within) })

pub returns-clause-ok : goal.returns-clause-ok
returns-clause-ok g c =
    let kids : c.new-kids.result ≡ c.args.kids.now = c.new-kids.ensures ∙ c.in_ok-from_slice.ensures.items in
    rw (← c.self.view_is) (search rules, Adds-push g.row.N _ _ (Con c.args.head c.new-kids.result) c.in_ok-push.ensures.ok.0 refl (λ d. Made c.args.head c.args.kids.now) (λ d. ap (Made c.args.head) kids))
