use Rattle.std.proofs.Common.{ℕ, ◌<◌, subst}
use Rattle.std.proofs.lemmas.Result.{IfOk-weaker}
use Rattle.vt_type.specs.Plain.{substituted}
use Rattle.vt_store.specs.Stores.{cell_count}
use Rattle.vt_infer.specs.Building.{Table, IsBuilt}
use Rattle.vt_infer.proofs.Built.{IsUse-built}
use Rattle.vt_store.proofs.Results.{IfOk-both}
use Rattle.vt_infer.proofs.constant.constant_cell.Goals as goal

pub returns : goal.returns
returns g c =
    let P : ℕ → Type 0 = λ cell. IsBuilt g.row.N (λ s. s cell) (λ images. substituted images c.closed.result.now) c.new-variables.result c.built.new.variables c.args.store.now c.built.new.store in
    let Q : ℕ → Type 0 = λ cell. cell < cell_count c.built.new.store in
    IfOk-weaker c.built.result (λ cell. P cell × Q cell) _
    (λ cell both.
    IsUse-built g.row.N c.args.constants.now c.args.id c.closed.result.now cell c.built.new.variables c.args.store.now c.built.new.store c.closed.ensures.closed
    (subst (λ (before : Table). IsBuilt g.row.N (λ s. s cell) (λ images. substituted images c.closed.result.now) before c.built.new.variables c.args.store.now c.built.new.store) c.new-variables.ensures both.0) both.1)
    (IfOk-both c.built.result P Q c.built.ensures.built c.built.ensures.is_cell)
