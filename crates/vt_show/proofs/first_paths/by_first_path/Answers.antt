use Rattle.std.proofs.lemmas.Result.{IfOk-weaker}
use Rattle.vt_show.proofs.FirstPaths.{is_by_first_path}
use Rattle.vt_show.proofs.first_paths.by_first_path.Goals as goal

pub returns : goal.returns
returns c =
    let renamed = rw (c.new-met.ensures, c.new-way.ensures.items) at c.renamed.ensures.renamed in
    IfOk-weaker c.renamed.result _ _ (λ found is. is_by_first_path c.args.vtype.now found is) renamed
