use Rattle.std.proofs.Common.{◌≡◌, refl, ap, sym, ◌∙◌, Some, None}
use Rattle.vt_syntax.specs.declared.expr.ExprForm as form
use Rattle.vt_scope.specs.Scopes.{found}
use Rattle.vt_scope.specs.Cores as cores
use Rattle.vt_scope.proofs.ScopeLists.{found_events, constant_events, unbound_events}
use Rattle.vt_scope.proofs.Forms as Forms
use Rattle.vt_scope.proofs.walk.Walk.name.Goals as goal

pub returns-in-Some : goal.returns-in-Some
returns-in-Some c =
    let seen : found c.args.self.now.scope c.args.name.now ≡ Some c.in-Some.found = rw (← c.as_str.ensures) (sym c.in-Some.ensures) in
    Forms.leaf_told c.args.constants.now c.args.span (form.Name c.args.name.now) c.args.self.now _ _ _ _
    (λ s here. found_events c.args.constants.now s c.args.span c.args.name.now c.in-Some.found (ap (λ t. found t c.args.name.now) (sym here) ∙ seen))
    (λ s dims here. cores.bound s c.args.self.now.next c.args.span c.args.name.now c.in-Some.found (ap (λ t. found t c.args.name.now) (sym here) ∙ seen))
    c.leaf.ensures

pub returns-in-Some-find : goal.returns-in-Some-find
returns-in-Some-find c =
    let unseen : found c.args.self.now.scope c.args.name.now ≡ None = rw (← c.as_str.ensures) (sym c.find.ensures ∙ c.in_default.is) in
    let has = rw c.as_str-2.ensures at ((c.in-Some-find.ensures.found c.in-Some-find.id).0 refl) in
    Forms.leaf_told c.args.constants.now c.args.span (form.Name c.args.name.now) c.args.self.now _ _ _ _
    (λ s here. constant_events c.args.constants.now s c.args.span c.args.name.now c.in-Some-find.id has)
    (λ s dims here. cores.named s c.args.self.now.next c.args.span c.args.name.now c.in-Some-find.id (ap (λ t. found t c.args.name.now) (sym here) ∙ unseen) has)
    c.leaf-in-Some-find.ensures

pub returns-in-None : goal.returns-in-None
returns-in-None c s here =
    let unseen : found c.args.self.now.scope c.args.name.now ≡ None = rw (← c.as_str.ensures) (sym c.find.ensures ∙ c.in_default.is) in
    unbound_events c.args.constants.now s c.args.span c.args.name.now c.args.self.now.dims (ap (λ t. found t c.args.name.now) (sym here) ∙ unseen)
    (rw c.as_str-2.ensures at (c.in-None.ensures.missing.0 refl))
