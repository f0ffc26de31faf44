use Rattle.std.proofs.lemmas.Result.{IfOk-weaker}
use Rattle.vt_infer.proofs.StoreSteps.{IsNew-choice}
use Rattle.vt_infer.proofs.steps.choice_cell.Goals as goal

pub returns : goal.returns
returns g c = IfOk-weaker c.choice.result _ _ (λ cell added. IsNew-choice g.row.N cell c.args.store.now c.choice.new.self c.acyclic.ensures.acyclic c.args.dim c.args.left c.args.right c.requires.dim c.requires.left c.requires.right added) c.choice.ensures.ok
