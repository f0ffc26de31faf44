use Rattle.std.proofs.Common.{subst, sym}
use Rattle.std.proofs.lemmas.Result.{IfOk-weaker}
use Rattle.vt_type.specs.Plain.{IsWellFormed}
use Rattle.vt_type.proofs.Substituting.{canonical-well_formed, is_canonical_form}
use Rattle.vt_type.proofs.canonical.canon.Goals as goal

pub returns-clause-canonical : goal.returns-clause-canonical
returns-clause-canonical c =
    let renamed = rw (c.new-paths.ensures, c.new-way.ensures.items) at c.renamed.ensures.renamed in
    IfOk-weaker c.renamed.result _ _ (λ form is. is_canonical_form c.args.plain.now form is) renamed

pub returns-clause-well_formed : goal.returns-clause-well_formed
returns-clause-well_formed c =
    let renamed = rw (c.new-paths.ensures, c.new-way.ensures.items) at c.renamed.ensures.renamed in
    IfOk-weaker c.renamed.result _ _
    (λ form is. subst IsWellFormed (sym (is_canonical_form c.args.plain.now form is)) (canonical-well_formed c.args.plain.now c.requires)) renamed
