use Rattle.std.proofs.Common.{subst}
use Rattle.vt_store.proofs.Solutions.{have_solutions}
use Rattle.vt_infer.specs.Equating.{AreEquated}
use Rattle.vt_infer.proofs.Uses.{joint-used}
use Rattle.vt_infer.proofs.naming.used.Goals as goal

pub returns : goal.returns
returns g c = record {
  joint = joint-used g.row.N c.args.within.now c.args.scheme.now c.in_ok-copied.copied c.args.store.now c.instance.new.store
      (have_solutions g.row.N c.args.scheme.now.cells c.most_general_solution.ensures c.acyclic-2.ensures.acyclic c.acyclic-2.ensures.arities)
      c.requires.scheme_space c.in_ok-copied.ensures.ok c.equate_all.new.store c.args.pattern.now c.equate_all.new.pattern c.args.originals.now c.args.node
      (have_solutions g.row.N c.args.store.now c.most_general_solution.ensures c.acyclic.ensures.acyclic c.acyclic.ensures.arities) c.requires.originals
      (subst (λ copies. AreEquated g.row.N c.args.within.now copies c.args.originals.now c.args.node c.instance.new.store c.equate_all.new.store c.args.pattern.now c.equate_all.new.pattern) c.as_slice.ensures c.in_ok-equate_all.ensures.equated);
}
