use Rattle.std.proofs.Common.{◌∙◌}
use Rattle.vt_syntax.proofs.CoreSeen.{fun_seen, app_seen, let_seen, let_rec_seen, choice_seen}
use Rattle.vt_syntax.proofs.GreatestLemmas.{greatest-fun, greatest-app, greatest-let, greatest-let_rec, greatest-choice}
use Rattle.vt_syntax.proofs.greatest.+last_node.Goals as goal

pub returns-in-Fun : goal.returns-in-Fun
returns-in-Fun t c =
    greatest-fun c.args.core.now.node c.args.core.now.form c.get.result.now c.last_node-inner.result c.greater.result (c.in-Fun.is ∙ fun_seen _ _ c.get.ensures) c.last_node-inner.ensures c.greater.ensures

pub returns-in-App : goal.returns-in-App
returns-in-App t c =
    greatest-app c.args.core.now.node c.args.core.now.form c.get-in-App.result.now c.get-in-App-2.result.now c.last_node-one.result c.last_node-other.result c.greater-in-App.result c.greater-in-App-2.result
    c.last_node-one.ensures c.last_node-other.ensures (c.in-App.is ∙ app_seen _ _ _ _ c.get-in-App.ensures c.get-in-App-2.ensures) c.greater-in-App.ensures c.greater-in-App-2.ensures

pub returns-in-Let : goal.returns-in-Let
returns-in-Let t c =
    greatest-let c.args.core.now.node c.args.core.now.form c.get-in-Let.result.now c.get-in-Let-2.result.now c.last_node-one-in-Let.result c.last_node-other-in-Let.result c.greater-in-Let.result c.greater-in-Let-2.result
    c.last_node-one-in-Let.ensures c.last_node-other-in-Let.ensures (c.in-Let.is ∙ let_seen _ _ _ _ c.get-in-Let.ensures c.get-in-Let-2.ensures) c.greater-in-Let.ensures c.greater-in-Let-2.ensures

pub returns-in-LetRec : goal.returns-in-LetRec
returns-in-LetRec t c =
    greatest-let_rec c.args.core.now.node c.args.core.now.form c.get-in-LetRec.result.now c.get-in-LetRec-2.result.now c.last_node-one-in-LetRec.result c.last_node-other-in-LetRec.result c.greater-in-LetRec.result c.greater-in-LetRec-2.result
    c.last_node-one-in-LetRec.ensures c.last_node-other-in-LetRec.ensures c.in-LetRec.field-0 c.in-LetRec.field-1
    (c.in-LetRec.is ∙ let_rec_seen _ _ _ _ _ _ c.get-in-LetRec.ensures c.get-in-LetRec-2.ensures) c.greater-in-LetRec.ensures c.greater-in-LetRec-2.ensures

pub returns-in-Choice : goal.returns-in-Choice
returns-in-Choice t c =
    greatest-choice c.args.core.now.node c.args.core.now.form c.get-in-Choice.result.now c.get-in-Choice-2.result.now c.last_node-one-in-Choice.result c.last_node-other-in-Choice.result c.greater-in-Choice.result c.greater-in-Choice-2.result
    c.last_node-one-in-Choice.ensures c.last_node-other-in-Choice.ensures c.in-Choice.field-0
    (c.in-Choice.is ∙ choice_seen _ _ _ _ _ c.get-in-Choice.ensures c.get-in-Choice-2.ensures) c.greater-in-Choice.ensures c.greater-in-Choice-2.ensures
