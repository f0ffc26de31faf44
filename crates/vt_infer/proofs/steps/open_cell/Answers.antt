use Rattle.std.proofs.Common.{arith}
use Rattle.std.proofs.lemmas.Result.{IfOk-weaker}
use Rattle.vt_infer.proofs.StoreSteps.{IsNew-open}
use Rattle.vt_infer.proofs.steps.open_cell.Goals as goal

pub returns-clause-is_new : goal.returns-clause-is_new
returns-clause-is_new g c = IfOk-weaker c.fresh.result _ _ (λ cell added. IsNew-open g.row.N cell c.args.store.now c.fresh.new.self c.acyclic.ensures.acyclic added) c.fresh.ensures.ok

pub returns-clause-later : goal.returns-clause-later
returns-clause-later g c = IfOk-weaker c.fresh.result _ _ (λ cell added. omega (arith, added.0)) c.fresh.ensures.ok
