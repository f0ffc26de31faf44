use Rattle.std.proofs.Common.{◌≤◌, subst, sym, arith}
use Rattle.std.proofs.lemmas.Result.{IfOk-weaker}
use Rattle.vt_type.specs.NormalForm.{IsNormalFormOf}
use Rattle.vt_type.specs.Variational.{IsWellFormedV, nodes}
use Rattle.vt_store.proofs.Results.{IfOk-both}
use Rattle.vt_norm.specs.ReadOut.{reads}
use Rattle.vt_norm.proofs.ReadingOut.{shown-places, the-form}
use Rattle.vt_norm.proofs.from_store.read_out.Goals as goal

pub build-built-requires : goal.build-built-requires
build-built-requires c = record {
  cells = c.in_ok-front.ensures.cells;
  space = c.requires.space;
  places = shown-places c.args.store.now c.args.pattern.now c.args.root c.args.mark c.whole-part.result c.in_ok-front.front c.in_ok-front.ensures;
}

pub returns-clause-normal : goal.returns-clause-normal
returns-clause-normal c =
    let f = the-form c.args.store.now c.args.pattern.now c.args.root c.args.mark c.whole-part.result c.in_ok-front.front c.own_solution.ensures c.same_up_to_renaming.ensures c.canonical_again.ensures c.acyclic.ensures.acyclic c.acyclic.ensures.arities c.requires.space c.requires.root c.whole-part.ensures c.in_ok-front.ensures in
    IfOk-weaker c.build-built.result _ (λ v. IsNormalFormOf v (reads c.args.store.now c.args.pattern.now c.args.root c.args.mark) × (nodes v ≤ c.args.limit))
    (λ v h. (subst (λ one. IsNormalFormOf one (reads c.args.store.now c.args.pattern.now c.args.root c.args.mark)) (sym (f.3 v (rw (c.new-way.ensures.items, c.new-met.ensures.items) at h.0))) f.1, omega (arith, h.1)))
    (IfOk-both c.build-built.result _ _ c.build-built.ensures.built c.build-built.ensures.spare)

pub returns-clause-well_formed : goal.returns-clause-well_formed
returns-clause-well_formed c =
    let f = the-form c.args.store.now c.args.pattern.now c.args.root c.args.mark c.whole-part.result c.in_ok-front.front c.own_solution.ensures c.same_up_to_renaming.ensures c.canonical_again.ensures c.acyclic.ensures.acyclic c.acyclic.ensures.arities c.requires.space c.requires.root c.whole-part.ensures c.in_ok-front.ensures in
    IfOk-weaker c.build-built.result _ IsWellFormedV (λ v h. subst IsWellFormedV (sym (f.3 v (rw (c.new-way.ensures.items, c.new-met.ensures.items) at h))) f.2) c.build-built.ensures.built

pub returns-clause-too_big : goal.returns-clause-too_big
returns-clause-too_big c e =
    let f = the-form c.args.store.now c.args.pattern.now c.args.root c.args.mark c.whole-part.result c.in_ok-front.front c.own_solution.ensures c.same_up_to_renaming.ensures c.canonical_again.ensures c.acyclic.ensures.acyclic c.acyclic.ensures.arities c.requires.space c.requires.root c.whole-part.ensures c.in_ok-front.ensures in
    (f.0, f.1, f.4 c.args.limit (rw (c.new-way.ensures.items, c.new-met.ensures.items) at (c.build-built.ensures.too_big e)))
