use Rattle.std.proofs.Common.{◌<◌, length, map, Some, sym, subst, ap, ◌∙◌, rules}
use Rattle.std.specs.List.{All}
use Rattle.std.proofs.lemmas.Result.{IfOk-weaker}
use Rattle.vt_scheme.specs.Schemes.{Allows}
use Rattle.vt_store.specs.Stores.{cell_count}
use Rattle.vt_infer.specs.Inferring.{IsJoint}
use Rattle.vt_infer.specs.declared.environment.Entry.TheVariants.{Poly}
use Rattle.vt_infer.proofs.GoingOn.{held-at}
use Rattle.vt_infer.proofs.naming.named.Goals as goal

pub used-requires : goal.used-requires
used-requires g c =
    let found = c.entry.ensures ∙ ap Some c.in-Poly.is in
    let held = held-at c.args.work.now.store c.args.work.now.environment c.args.distance (Poly c.in-Poly.scheme c.in-Poly.originals) found c.requires.held in
    let slice = c.as_slice.ensures in
    (search rules, (search rules, (search rules, (search rules, (held.0, (held.1, (ap length slice ∙ held.2, (subst (All (λ cell. cell < cell_count c.args.work.now.store)) (sym slice) held.3, (c.requires.space, c.requires.pattern)))))))))

pub returns-in-Poly-clause-named : goal.returns-in-Poly-clause-named
returns-in-Poly-clause-named g c =
    IfOk-weaker c.used.result _ _
    (λ cell joint. record {
      entry = Poly c.in-Poly.scheme c.in-Poly.originals;
      found = c.entry.ensures ∙ ap Some c.in-Poly.is;
      used = subst (λ originals. IsJoint g.row.N c.args.within.now (λ decision s type. Allows c.in-Poly.scheme decision (map s originals) type) c.args.node cell c.args.work.now.store c.used.new.store c.args.work.now.pattern c.used.new.pattern) c.as_slice.ensures joint;
    }) c.used.ensures.joint
