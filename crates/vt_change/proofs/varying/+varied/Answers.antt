use Rattle.vt_change.proofs.VaryingForms.{fun_varied, app_varied, let_varied, let_rec_varied, choice_varied}
use Rattle.vt_change.proofs.varying.+varied.Goals as goal

pub returns-in_ok-body-in-Fun : goal.returns-in_ok-body-in-Fun
returns-in_ok-body-in-Fun t c = λ leaves are.
    rw (fun_varied leaves c.args.expr.now _ c.get.result.now _ c.in-Fun.is c.get.ensures (c.in_ok-body-in-Fun.ensures leaves are)) at c.fun.ensures

pub returns-in_ok-argument-in-App : goal.returns-in_ok-argument-in-App
returns-in_ok-argument-in-App t c = λ leaves are.
    rw (app_varied leaves c.args.expr.now _ _ c.get-in-App.result.now c.get-in-App-2.result.now _ _ c.in-App.is c.get-in-App.ensures c.get-in-App-2.ensures (c.in_ok-function-in-App.ensures leaves are) (c.in_ok-argument-in-App.ensures leaves are)) at c.app.ensures

pub returns-in_ok-body-in-Let : goal.returns-in_ok-body-in-Let
returns-in_ok-body-in-Let t c = λ leaves are.
    rw (let_varied leaves c.args.expr.now _ _ c.get-in-Let.result.now c.get-in-Let-2.result.now _ _ c.in-Let.is c.get-in-Let.ensures c.get-in-Let-2.ensures (c.in_ok-bound-in-Let.ensures leaves are) (c.in_ok-body-in-Let.ensures leaves are)) at c.let_in.ensures

pub returns-in_ok-body-in-LetRec : goal.returns-in_ok-body-in-LetRec
returns-in_ok-body-in-LetRec t c = λ leaves are.
    rw (let_rec_varied leaves c.args.expr.now _ _ _ _ _ c.get-in-LetRec.result.now c.get-in-LetRec-2.result.now _ _ c.in-LetRec.is c.in_ok-name-in-LetRec.ensures c.get-in-LetRec.ensures c.get-in-LetRec-2.ensures (c.in_ok-bound-in-LetRec.ensures leaves are) (c.in_ok-body-in-LetRec.ensures leaves are)) at c.let_rec.ensures

pub returns-in_ok-right-in-Choice : goal.returns-in_ok-right-in-Choice
returns-in_ok-right-in-Choice t c = λ leaves are.
    rw (choice_varied leaves c.args.expr.now _ _ _ c.get-in-Choice.result.now c.get-in-Choice-2.result.now _ _ c.in-Choice.is c.get-in-Choice.ensures c.get-in-Choice-2.ensures (c.in_ok-left-in-Choice.ensures leaves are) (c.in_ok-right-in-Choice.ensures leaves are)) at c.choice.ensures
