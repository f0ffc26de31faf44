use Rattle.std.proofs.Common.{Some, true≢false, sym, ap, subst, ◌∙◌, below_more}
use Rattle.std.proofs.lemmas.Option.{same_Some, none-some}
use Rattle.vt_type.specs.Constants.{HasName}
use Rattle.vt_type.proofs.ConstantTable.{seen_at}
use Rattle.vt_type.proofs.constants.Constants.find.Goals as goal

pub loop-number-preserved : goal.loop-number-preserved
loop-number-preserved c =
    below_more _ _ c.loop-number.invariant
    (λ has.
    let here = seen_at _ c.loop-number.number c.entry-item.result c.loop-number-test.true c.entry-item.is (λ k. k.name) in
    true≢false (sym (c.is_named.ensures.1 (same_Some _ _ (sym here ∙ has))) ∙ c.if-is_named.false))

pub returns-then-is_named-clause-found : goal.returns-then-is_named-clause-found
returns-then-is_named-clause-found c id =
    let here : HasName c.args.self.now c.loop-number.number c.args.name.now =
    rw (← c.self.view_is, ← c.deref-entry-items.ensures.value) (seen_at _ c.loop-number.number c.entry-item.result c.loop-number-test.true c.entry-item.is (λ k. k.name) ∙ ap Some (c.is_named.ensures.0 c.if-is_named.true)) in
    let differ = rw c.self.view_is at c.self.invariant.names_differ in
    (λ e. subst (λ k. HasName c.args.self.now k c.args.name.now) (same_Some _ _ e) here, λ has. ap Some (differ c.loop-number.number id c.args.name.now here has))

pub returns-then-is_named-clause-missing : goal.returns-then-is_named-clause-missing
returns-then-is_named-clause-missing c =
    let here : HasName c.args.self.now c.loop-number.number c.args.name.now =
    rw (← c.self.view_is, ← c.deref-entry-items.ensures.value) (seen_at _ c.loop-number.number c.entry-item.result c.loop-number-test.true c.entry-item.is (λ k. k.name) ∙ ap Some (c.is_named.ensures.0 c.if-is_named.true)) in
    (λ e. absurd (none-some _ (sym e)), λ none. absurd (none _ here))
