use Rattle.std.proofs.Common.{refl}
use Rattle.std.proofs.lemmas.Result.{IfOk-weaker}
use Rattle.vt_infer.proofs.StoreSteps.{IsNew-fun}
use Rattle.vt_infer.proofs.steps.function_cell.Goals as goal

pub returns : goal.returns
returns g c = IfOk-weaker c.con.result _ _ (λ cell added. IsNew-fun g.row.N cell c.args.store.now c.con.new.self c.acyclic.ensures.acyclic c.args.from c.args.to _ refl c.requires.from c.requires.to added) c.con.ensures.ok
