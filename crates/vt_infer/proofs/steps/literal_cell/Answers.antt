use Rattle.std.proofs.Common.{refl}
use Rattle.std.proofs.lemmas.Result.{IfOk-weaker}
use Rattle.vt_infer.proofs.StoreSteps.{IsNew-leaf}
use Rattle.vt_infer.proofs.steps.literal_cell.Goals as goal

pub returns : goal.returns
returns g c = IfOk-weaker c.con.result _ _ (λ cell added. IsNew-leaf g.row.N cell c.args.store.now c.con.new.self c.acyclic.ensures.acyclic _ _ _ refl c.literal_head-head.ensures.leaf added c.literal_head-head.ensures.arity) c.con.ensures.ok
