use Rattle.std.proofs.Common.{refl, sym, ap, arith, ◌∙◌, ◌∷◌}
use Rattle.vt_syntax.specs.declared.expr.ExprForm as form
use Rattle.vt_syntax.specs.SurfaceTrees.{core_nodes, list_nodes, if_form, match_form}
use Rattle.vt_scope.specs.Scopes.{parameter}
use Rattle.vt_scope.specs.Cores as cores
use Rattle.vt_syntax.specs.Leaves.{leaf}
use Rattle.vt_scope.specs.Cores.{up_to}
use Rattle.vt_scope.specs.Walking.{HasCore, HasApplied}
use Rattle.vt_scope.proofs.Forms as Forms
use Rattle.vt_syntax.proofs.SurfaceSeen.{fun_seen, let_seen, if_seen, match_seen, op_seen, apply_seen, pair_seen, choice_seen, more_seen}
use Rattle.vt_scope.proofs.expressions.+expressions.Goals as goal

-- that what is still to be made gets less

pub expression-function-requires : goal.expression-function-requires
expression-function-requires t c =
    let falls = ap core_nodes (c.in-Fun.is ∙ fun_seen _ _ _ c.get.result.now c.get.ensures) in
    (omega (arith, falls, c.decreases), tt)

pub expression-binding-requires : goal.expression-binding-requires
expression-binding-requires t c =
    let falls = ap core_nodes (c.in-Let.is ∙ let_seen _ _ _ _ _ c.in-Let.bound c.in-Let.body refl refl) in
    (omega (arith, falls, c.decreases), tt)

pub expression-condition-requires : goal.expression-condition-requires
expression-condition-requires t c =
    let falls = ap core_nodes (c.in-If.is ∙ if_seen _ _ _ c.in-If.test c.in-If.then c.in-If.other refl refl refl) in
    (omega (arith, falls, c.decreases), tt)

pub expression-matched-requires : goal.expression-matched-requires
expression-matched-requires t c =
    let falls = ap core_nodes (c.in-Match.is ∙ match_seen _ _ _ _ _ _ _ c.in-Match.list c.in-Match.empty c.in-Match.cell refl refl refl) in
    (omega (arith, falls, c.decreases), tt)

pub expression-operation-requires : goal.expression-operation-requires
expression-operation-requires t c =
    let falls = ap core_nodes (c.in-Op.is ∙ op_seen _ _ _ _ c.in-Op.left c.in-Op.right refl refl) in
    (omega (arith, falls, c.decreases), tt)

pub expression-apply-requires : goal.expression-apply-requires
expression-apply-requires t c =
    let falls = ap core_nodes (c.in-Apply.is ∙ apply_seen _ _ c.get-in-Apply.result.now c.get-in-Apply-2.result.now c.get-in-Apply.ensures c.get-in-Apply-2.ensures) in
    (omega (arith, falls, c.decreases), tt)

pub expression-pair-requires : goal.expression-pair-requires
expression-pair-requires t c =
    let falls = ap core_nodes (c.in-Pair.is ∙ pair_seen _ _ c.get-in-Pair.result.now c.get-in-Pair-2.result.now c.get-in-Pair.ensures c.get-in-Pair-2.ensures) in
    (omega (arith, falls, c.decreases), tt)

pub expression-choice-requires : goal.expression-choice-requires
expression-choice-requires t c =
    let falls = ap core_nodes (c.in-Choice.is ∙ choice_seen _ _ _ _ c.in-Choice.left c.in-Choice.right refl refl) in
    (omega (arith, falls, c.decreases), tt)

pub list-argument-requires : goal.list-argument-requires
list-argument-requires t c =
    let falls = ap list_nodes (c.in-More.is ∙ more_seen _ c.get.result.now _ c.in-More.rest c.get.ensures refl) in
    (omega (arith, falls, c.decreases), tt)

pub list-list-requires : goal.list-list-requires
list-list-requires t c =
    let falls = ap list_nodes (c.in-More.is ∙ more_seen _ c.get.result.now _ c.get-in-More-2.result.now c.get.ensures c.get-in-More-2.ensures) in
    (omega (arith, falls, c.decreases), tt)

-- leaves

pub expression-returns-in-Number : goal.expression-returns-in-Number
expression-returns-in-Number t c =
    Forms.Answers-form c.args.constants.now c.args.expr.now (form.Number c.in-Number.value) _ _ _ c.in-Number.is
    (Forms.leaf_told c.args.constants.now _ _ _ _ _ _ _ (λ s h. refl) (λ s dims h. cores.number s _ _ _) c.literal.ensures)

pub expression-returns-in-Quoted : goal.expression-returns-in-Quoted
expression-returns-in-Quoted t c =
    Forms.Answers-form c.args.constants.now c.args.expr.now form.Quoted _ _ _ c.in-Quoted.is
    (Forms.leaf_told c.args.constants.now _ _ _ _ _ _ _ (λ s h. refl) (λ s dims h. cores.quoted s _ _) c.literal-in-Quoted.ensures)

pub expression-returns-in-Truth : goal.expression-returns-in-Truth
expression-returns-in-Truth t c =
    Forms.Answers-form c.args.constants.now c.args.expr.now (form.Truth c.in-Truth.value) _ _ _ c.in-Truth.is
    (Forms.leaf_told c.args.constants.now _ _ _ _ _ _ _ (λ s h. refl) (λ s dims h. cores.truth s _ _ _) c.literal-in-Truth.ensures)

pub expression-returns-in-Name : goal.expression-returns-in-Name
expression-returns-in-Name t c =
    Forms.Answers-form c.args.constants.now c.args.expr.now (form.Name c.in-Name.name) _ _ _ c.in-Name.is c.name.ensures

pub expression-returns-in-Hole : goal.expression-returns-in-Hole
expression-returns-in-Hole t c =
    Forms.Answers-form c.args.constants.now c.args.expr.now form.Hole _ _ _ c.in-Hole.is
    (Forms.hole_told c.args.constants.now _ _ _ _ c.part.ensures)

-- the forms that have parts

pub expression-returns-in-Fun : goal.expression-returns-in-Fun
expression-returns-in-Fun t c =
    Forms.Answers-form c.args.constants.now c.args.expr.now _ _ _ _ (c.in-Fun.is ∙ fun_seen _ _ _ c.get.result.now c.get.ensures) (c.function.ensures _)

pub expression-returns-in-Let : goal.expression-returns-in-Let
expression-returns-in-Let t c =
    Forms.Answers-form c.args.constants.now c.args.expr.now _ _ _ _ (c.in-Let.is ∙ let_seen _ _ _ _ _ c.in-Let.bound c.in-Let.body refl refl) c.binding.ensures

pub expression-returns-in-If : goal.expression-returns-in-If
expression-returns-in-If t c =
    Forms.Answers-form c.args.constants.now c.args.expr.now _ _ _ _ (c.in-If.is ∙ if_seen _ _ _ c.in-If.test c.in-If.then c.in-If.other refl refl refl) c.condition.ensures

pub expression-returns-in-Match : goal.expression-returns-in-Match
expression-returns-in-Match t c =
    Forms.Answers-form c.args.constants.now c.args.expr.now _ _ _ _ (c.in-Match.is ∙ match_seen _ _ _ _ _ _ _ c.in-Match.list c.in-Match.empty c.in-Match.cell refl refl refl) (c.matched.ensures _)

pub expression-returns-in-Op : goal.expression-returns-in-Op
expression-returns-in-Op t c =
    Forms.Answers-form c.args.constants.now c.args.expr.now _ _ _ _ (c.in-Op.is ∙ op_seen _ _ _ _ c.in-Op.left c.in-Op.right refl refl) c.operation.ensures

pub expression-returns-in-Pair : goal.expression-returns-in-Pair
expression-returns-in-Pair t c =
    Forms.Answers-form c.args.constants.now c.args.expr.now _ _ _ _ (c.in-Pair.is ∙ pair_seen _ _ c.get-in-Pair.result.now c.get-in-Pair-2.result.now c.get-in-Pair.ensures c.get-in-Pair-2.ensures) c.pair.ensures

pub expression-returns-in-Apply : goal.expression-returns-in-Apply
expression-returns-in-Apply t c =
    Forms.Answers-form c.args.constants.now c.args.expr.now _ _ _ _ (c.in-Apply.is ∙ apply_seen _ _ c.get-in-Apply.result.now c.get-in-Apply-2.result.now c.get-in-Apply.ensures c.get-in-Apply-2.ensures) c.apply.ensures

pub expression-returns-in-Choice : goal.expression-returns-in-Choice
expression-returns-in-Choice t c =
    Forms.Answers-form c.args.constants.now c.args.expr.now _ _ _ _ (c.in-Choice.is ∙ choice_seen _ _ _ _ c.in-Choice.left c.in-Choice.right refl refl) c.choice.ensures

-- functions

pub function-returns-in_err-body : goal.function-returns-in_err-body
function-returns-in_err-body t c name_at =
    (Forms.fun_fails c.args.constants.now _ _ _ _ _ c.from_residual.ensures.1 _ _ c.args.body.now c.in_err-body.ensures)

pub function-returns : goal.function-returns
function-returns t c name_at =
    (Forms.fun_told c.args.constants.now _ _ _ c.args.body.now _ _ _ _ _ c.in_ok-body.ensures c.function.ensures)

-- bindings

pub binding-returns-in_err-bound : goal.binding-returns-in_err-bound
binding-returns-in_err-bound t c =
    (Forms.bound_fails c.args.constants.now _ _ _ _ _ c.from_residual.ensures.1 _ _ _ c.args.bound.now c.args.body.now (rw c.get.ensures at c.in_err-bound.ensures))

pub binding-returns-in_err-body : goal.binding-returns-in_err-body
binding-returns-in_err-body t c =
    (Forms.body_fails c.args.constants.now _ _ _ _ _ c.from_residual-in_err-body.ensures.1 _ _ _ c.args.bound.now c.args.body.now _ _ _
    c.in_ok-node.ensures.1 (rw c.get.ensures at c.in_ok-bound.ensures) (rw c.get-2.ensures at c.in_err-body.ensures))

pub binding-returns : goal.binding-returns
binding-returns t c =
    (Forms.let_told c.args.constants.now _ _ _ _ c.args.bound.now c.args.body.now _ _ _ _ _ _ _
    c.in_ok-node.ensures.1 (rw c.get.ensures at c.in_ok-bound.ensures) (rw c.get-2.ensures at c.in_ok-body.ensures) (rw c.in_ok-node.ensures.0 at c.let_core.ensures))

-- conditions

pub condition-returns-in_err-cond-2 : goal.condition-returns-in_err-cond-2
condition-returns-in_err-cond-2 t c =
    (Forms.first_fails c.args.constants.now _ _ _ _ _ c.from_residual-in_err-cond-2.ensures.1 _ c.in_ok-cond.ensures.1 c.args.test.now c.args.then.now
    (Forms.of c.args.constants.now c.args.other.now) (if_form c.args.test.now c.args.then.now c.args.other.now) (rw c.get.ensures at c.in_err-cond-2.ensures))

pub condition-returns-in_err-cond-3 : goal.condition-returns-in_err-cond-3
condition-returns-in_err-cond-3 t c =
    (Forms.second_fails c.args.constants.now _ _ _ _ _ c.from_residual-in_err-cond-3.ensures.1 _ c.in_ok-cond.ensures.1 c.args.test.now c.args.then.now
    (Forms.of c.args.constants.now c.args.other.now) (if_form c.args.test.now c.args.then.now c.args.other.now) _
    (λ s w. HasApplied c.args.constants.now s c.args.at c.in_ok-cond.cond c.args.test.now w c.argument.new.walk c.in_ok-cond-2.cond)
    (rw c.get.ensures at c.in_ok-cond-2.ensures) (rw c.get-2.ensures at c.in_err-cond-3.ensures))

pub condition-returns : goal.condition-returns
condition-returns t c =
    (Forms.if_told c.args.constants.now _ c.args.test.now c.args.then.now c.args.other.now _ _ _ _ _ _ _ _ _
    c.in_ok-cond.ensures.0 c.in_ok-cond.ensures.1 (rw c.get.ensures at c.in_ok-cond-2.ensures) (rw c.get-2.ensures at c.in_ok-cond-3.ensures) (rw c.get-3.ensures at c.argument-3.ensures))

-- matches

pub matched-returns-in_err-split-2 : goal.matched-returns-in_err-split-2
matched-returns-in_err-split-2 t c rest_at =
    (Forms.first_fails c.args.constants.now _ _ _ _ _ c.from_residual-in_err-split-2.ensures.1 _ c.in_ok-split.ensures.1 c.args.list.now c.args.empty.now
    (λ s. Forms.of c.args.constants.now c.args.cell.now (parameter c.args.rest.now ∷ parameter c.args.first.now ∷ s))
    (match_form c.args.list.now c.args.empty.now c.args.first.now c.args.first_span c.args.rest.now rest_at c.args.cell.now) (rw c.get.ensures at c.in_err-split-2.ensures))

pub matched-returns-in_err-split-3 : goal.matched-returns-in_err-split-3
matched-returns-in_err-split-3 t c rest_at =
    (Forms.second_fails c.args.constants.now _ _ _ _ _ c.from_residual-in_err-split-3.ensures.1 _ c.in_ok-split.ensures.1 c.args.list.now c.args.empty.now
    (λ s. Forms.of c.args.constants.now c.args.cell.now (parameter c.args.rest.now ∷ parameter c.args.first.now ∷ s))
    (match_form c.args.list.now c.args.empty.now c.args.first.now c.args.first_span c.args.rest.now rest_at c.args.cell.now) _
    (λ s w. HasApplied c.args.constants.now s c.args.at c.in_ok-split.split c.args.list.now w c.argument.new.walk c.in_ok-split-2.split)
    (rw c.get.ensures at c.in_ok-split-2.ensures) (rw c.get-2.ensures at c.in_err-split-3.ensures))

pub matched-returns-in_err-cell : goal.matched-returns-in_err-cell
matched-returns-in_err-cell t c rest_at =
    (Forms.third_fails c.args.constants.now _ _ _ _ _ c.from_residual-in_err-cell.ensures.1 _ c.in_ok-split.ensures.1 c.args.list.now c.args.empty.now
    (λ s. Forms.of c.args.constants.now c.args.cell.now (parameter c.args.rest.now ∷ parameter c.args.first.now ∷ s))
    (match_form c.args.list.now c.args.empty.now c.args.first.now c.args.first_span c.args.rest.now rest_at c.args.cell.now) _ _
    (λ s w. HasApplied c.args.constants.now s c.args.at c.in_ok-split.split c.args.list.now w c.argument.new.walk c.in_ok-split-2.split)
    (λ s. HasApplied c.args.constants.now s c.args.at c.in_ok-split-2.split c.args.empty.now c.argument.new.walk c.argument-2.new.walk c.in_ok-split-3.split)
    (rw c.get.ensures at c.in_ok-split-2.ensures) (rw c.get-2.ensures at c.in_ok-split-3.ensures) (rw c.get-3.ensures at c.in_err-cell.ensures))

pub matched-returns : goal.matched-returns
matched-returns t c rest_at =
    (Forms.match_told c.args.constants.now _ c.args.list.now c.args.empty.now c.args.cell.now _ _ _ _ _ _ _ _ _ _ _ _ _ _ _
    c.in_ok-split.ensures.0 c.in_ok-split.ensures.1 (rw c.get.ensures at c.in_ok-split-2.ensures) (rw c.get-2.ensures at c.in_ok-split-3.ensures) (rw c.get-3.ensures at c.in_ok-cell.ensures) c.applied.ensures)

-- operators, pairs and applications

pub operation-returns-in_err-half : goal.operation-returns-in_err-half
operation-returns-in_err-half t c =
    (Forms.operation_fails c.args.constants.now _ _ _ _ _ c.from_residual-in_err-half.ensures.1 _ c.in_ok-sign.ensures.1 _ _ c.args.left.now c.args.right.now (rw c.get-2.ensures at c.in_err-half.ensures))

pub operation-returns : goal.operation-returns
operation-returns t c =
    (Forms.operation_told c.args.constants.now _ c.args.op c.args.op_span c.args.left.now c.args.right.now _ _ _ _ _ _ _ _
    (rw c.constant_of.ensures at c.in_ok-sign.ensures.0) c.in_ok-sign.ensures.1 (rw c.get-2.ensures at c.in_ok-half.ensures) (rw c.get.ensures at c.in_ok-note.ensures) (rw c.get-3.ensures at c.argument-2.ensures))

pub pair-returns-in_err-pair-2 : goal.pair-returns-in_err-pair-2
pair-returns-in_err-pair-2 t c =
    (Forms.pair_fails c.args.constants.now _ _ _ _ _ c.from_residual-in_err-pair-2.ensures.1 _ c.in_ok-pair.ensures.1 c.args.left.now c.args.right.now c.in_err-pair-2.ensures)

pub pair-returns : goal.pair-returns
pair-returns t c =
    (Forms.pair_told c.args.constants.now _ c.args.left.now c.args.right.now _ _ _ _ _ _ _
    c.in_ok-pair.ensures.0 c.in_ok-pair.ensures.1 c.in_ok-pair-2.ensures c.argument-2.ensures)

pub apply-returns-in_err-function : goal.apply-returns-in_err-function
apply-returns-in_err-function t c =
    (Forms.function_fails c.args.constants.now _ _ _ _ _ c.from_residual.ensures.1 c.args.left.now c.args.right.now c.in_err-function.ensures)

pub apply-returns : goal.apply-returns
apply-returns t c =
    (Forms.apply_told c.args.constants.now _ c.args.left.now c.args.right.now _ _ _ _ _ c.in_ok-function.ensures c.argument.ensures)

-- choices

pub choice-returns-in_err-dim : goal.choice-returns-in_err-dim
choice-returns-in_err-dim t c =
    (Forms.dim_fails c.args.constants.now _ _ _ _ _ c.from_residual.ensures.1 _ _ c.args.left.now c.args.right.now c.in_err-dim.ensures)

pub choice-returns-in_err-left : goal.choice-returns-in_err-left
choice-returns-in_err-left t c =
    (Forms.left_fails c.args.constants.now _ _ _ _ _ c.from_residual-in_err-left.ensures.1 _ _ _ c.in_ok-dim.ensures.1 c.in_ok-dim.ensures.2
    c.args.left.now c.args.right.now (rw c.get.ensures at c.in_err-left.ensures))

pub choice-returns-in_err-right : goal.choice-returns-in_err-right
choice-returns-in_err-right t c =
    (Forms.right_fails c.args.constants.now _ _ _ _ _ c.from_residual-in_err-right.ensures.1 _ _ _ c.in_ok-dim.ensures.1 c.in_ok-dim.ensures.2
    c.args.left.now c.args.right.now _ _ (rw c.get.ensures at c.in_ok-left.ensures) (rw c.get-2.ensures at c.in_err-right.ensures))

pub choice-returns : goal.choice-returns
choice-returns t c =
    (Forms.choice_told c.args.constants.now _ _ _ _ c.args.left.now c.args.right.now _ _ _ _ _ _ _ _
    c.in_ok-dim.ensures.0 c.in_ok-dim.ensures.1 c.in_ok-dim.ensures.2 (rw c.get.ensures at c.in_ok-left.ensures) (rw c.get-2.ensures at c.in_ok-right.ensures) c.choice.ensures)

-- lists

pub expression-returns-in-List : goal.expression-returns-in-List
expression-returns-in-List t c =
    Forms.Answers-form c.args.constants.now c.args.expr.now (form.List c.in-List.items) _ _ _ c.in-List.is (Forms.list_told c.args.constants.now _ c.in-List.items _ _ _ c.list.ensures)

pub list-returns-in-Nil : goal.list-returns-in-Nil
list-returns-in-Nil t c =
    Forms.items-form c.args.constants.now _ _ _ _ _ c.args.items.now _ c.in-Nil.is (Forms.none_told c.args.constants.now _ _ _ _ _ c.implied.ensures)

pub list-returns-in_err-cons-in-More-2 : goal.list-returns-in_err-cons-in-More-2
list-returns-in_err-cons-in-More-2 t c =
    Forms.items-form c.args.constants.now _ _ _ _ _ c.args.items.now _ (c.in-More.is ∙ more_seen _ c.get.result.now _ c.in-More.rest c.get.ensures refl)
    (Forms.item_fails c.args.constants.now _ _ c.get.result.now c.in-More.rest _ _ _ _ _ c.from_residual-in_err-cons-in-More-2.ensures.1 c.in_ok-cons-in-More.ensures.1 c.in_err-cons-in-More-2.ensures)

pub list-returns-in_err-rest-in-More : goal.list-returns-in_err-rest-in-More
list-returns-in_err-rest-in-More t c =
    Forms.items-form c.args.constants.now _ _ _ _ _ c.args.items.now _ (c.in-More.is ∙ more_seen _ c.get.result.now _ c.get-in-More-2.result.now c.get.ensures c.get-in-More-2.ensures)
    (Forms.rest_fails c.args.constants.now _ _ c.get.result.now c.get-in-More-2.result.now _ _ _ _ _ c.from_residual-in_err-rest-in-More.ensures.1 c.in_ok-cons-in-More.ensures.1 _ _ _
    c.in_ok-cons-in-More-2.ensures c.in_err-rest-in-More.ensures)

pub list-returns-in_ok-rest-in-More : goal.list-returns-in_ok-rest-in-More
list-returns-in_ok-rest-in-More t c =
    Forms.items-form c.args.constants.now _ _ _ _ _ c.args.items.now _ (c.in-More.is ∙ more_seen _ c.get.result.now _ c.get-in-More-2.result.now c.get.ensures c.get-in-More-2.ensures)
    (Forms.more_told c.args.constants.now _ _ _ c.get.result.now c.get-in-More-2.result.now _ _ _ _ _ _ _ _ _
    (rw (c.get-in-More.ensures ∙ sym c.get-in-More-2.ensures) at c.left_of-left.ensures)
    c.in_ok-cons-in-More.ensures.0 c.in_ok-cons-in-More.ensures.1 c.in_ok-cons-in-More-2.ensures c.in_ok-rest-in-More.ensures c.applied.ensures)

-- parts

pub argument-returns : goal.argument-returns
argument-returns t c = Forms.argument_told c.args.constants.now _ _ c.args.operand.now _ _ _ _ _ c.in_ok-operand.ensures c.applied.ensures

pub under-returns : goal.under-returns
under-returns t c =
    Forms.given_under (Forms.of c.args.constants.now c.args.body.now) c.args.walk.now _ _ _ _
    (λ s. HasCore c.args.constants.now s c.args.body.now c.args.walk.now c.expression.new.walk c.in_ok-core.core) c.in_ok-push.ensures c.pop.ensures c.in_ok-core.ensures

pub arm-returns : goal.arm-returns
arm-returns t c =
    Forms.arm_told c.args.constants.now c.args.first.now c.args.rest.now c.args.here c.args.cell.now c.args.walk.now c.push.new.self c.pop.new.self c.under.new.walk c.function.new.self
    c.function-2.new.self c.in_ok-body.body c.in_ok-of_rest.of_rest c.function-2.result
    c.in_ok-push.ensures c.pop.ensures c.in_ok-body.ensures c.in_ok-of_rest.ensures.0 c.in_ok-of_rest.ensures.1 c.function-2.ensures
