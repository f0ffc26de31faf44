use Rattle.std.proofs.Common.{[], ◌∷◌, rules, refl, sym, subst, ◌∙◌, ap, arith}
use Rattle.std.proofs.lemmas.Result.{IfOk-weaker}
use Rattle.vt_syntax.specs.CoreTrees.{nodes_below, core, fun_form, app_form, let_form, let_rec_form, choice_form}
use Rattle.vt_syntax.specs.declared.core_expr.Form.{Literal, Name, Const, Hole}
use Rattle.vt_syntax.proofs.CoreSeen.{fun_seen, app_seen, let_seen, let_rec_seen, choice_seen}
use Rattle.vt_infer.specs.declared.environment.Entry.TheVariants.{Mono, Poly}
use Rattle.vt_infer.specs.Environments.{mono_cells}
use Rattle.vt_infer.specs.Inferring.{IsReady}
use Rattle.vt_infer.specs.declared.work.Work.{Work}
use Rattle.vt_infer.proofs.LeavesExpressed.{expressed-as, expressed-literal, expressed-constant, expressed-name, marked-as, marked-none}
use Rattle.vt_infer.proofs.PartsExpressed.{expressed-function, expressed-application, marked-function, marked-application}
use Rattle.vt_infer.proofs.LetsExpressed.{expressed-let, marked-let}
use Rattle.vt_infer.proofs.LetRecsExpressed.{expressed-let_rec, marked-let_rec}
use Rattle.vt_infer.proofs.ChoicesExpressed.{expressed-only_left, expressed-only_right, expressed-choice, marked-only_left, marked-only_right, marked-choice}
use Rattle.vt_infer.proofs.Ready.{ready-first, ready-next, ready-after, ready-mono, ready-poly, equal_goes_on}
use Rattle.vt_infer.proofs.Popping.{popped}
use Rattle.vt_infer.proofs.expression.+typed.Goals as goal

pub typed-named-requires : goal.typed-named-requires
typed-named-requires g t c =
    (search rules, (search rules, (rw c.in-Name.is at c.requires.scoped, (c.requires.held, (c.requires.space, c.requires.pattern_space)))))

pub typed-constant_cell-requires : goal.typed-constant_cell-requires
typed-constant_cell-requires g t c =
    (search rules, rw c.in-Const.is at c.requires.constants)

pub typed-function-requires : goal.typed-function-requires
typed-function-requires g t c =
    let is = c.in-Fun.is ∙ fun_seen _ _ c.get.ensures in
    let falls = ap nodes_below is in
    λ κs lives. (
      omega (arith, falls, c.decreases),
      (
        search rules,
        (
          search rules,
          (
            search rules,
            (
              search rules,
              (
                search rules,
                subst (λ form. IsReady g.row.N c.args.constants.now c.args.within.now form c.args.work.now) is c.requires,
              ),
            ),
          ),
        ),
      ),
    )

pub typed-returns-in-Fun : goal.typed-returns-in-Fun
typed-returns-in-Fun g t c =
    let is = c.in-Fun.is ∙ fun_seen _ _ c.get.ensures in
    IfOk-weaker c.function.result _ _ (λ cell inner. record { expressed = expressed-as g.row.N c.args.constants.now c.args.within.now c.args.core.now (fun_form c.get.result.now) cell c.args.work.now c.function.new.work is inner.expressed; marked = marked-as g.row.N c.args.constants.now c.args.within.now c.args.core.now (fun_form c.get.result.now) cell c.args.work.now c.function.new.work c.args.holes.now c.function.new.holes is inner.marked }) (c.function.ensures c.args.core.now.node c.args.core.now.span)

pub typed-application-requires : goal.typed-application-requires
typed-application-requires g t c =
    let is = c.in-App.is ∙ app_seen _ _ _ _ c.get-in-App.ensures c.get-in-App-2.ensures in
    let falls = ap nodes_below is in
    λ κs lives. (
      omega (arith, falls, c.decreases),
      (
        search rules,
        (
          search rules,
          (
            search rules,
            (
              search rules,
              (
                search rules,
                subst (λ form. IsReady g.row.N c.args.constants.now c.args.within.now form c.args.work.now) is c.requires,
              ),
            ),
          ),
        ),
      ),
    )

pub typed-returns-in-App : goal.typed-returns-in-App
typed-returns-in-App g t c =
    let is = c.in-App.is ∙ app_seen _ _ _ _ c.get-in-App.ensures c.get-in-App-2.ensures in
    IfOk-weaker c.application.result _ _ (λ cell inner. record { expressed = expressed-as g.row.N c.args.constants.now c.args.within.now c.args.core.now (app_form c.get-in-App.result.now c.get-in-App-2.result.now) cell c.args.work.now c.application.new.work is inner.expressed; marked = marked-as g.row.N c.args.constants.now c.args.within.now c.args.core.now (app_form c.get-in-App.result.now c.get-in-App-2.result.now) cell c.args.work.now c.application.new.work c.args.holes.now c.application.new.holes is inner.marked }) (c.application.ensures c.args.core.now.span)

pub typed-let_in-requires : goal.typed-let_in-requires
typed-let_in-requires g t c =
    let is = c.in-Let.is ∙ let_seen _ _ _ _ c.get-in-Let.ensures c.get-in-Let-2.ensures in
    let falls = ap nodes_below is in
    λ κs lives. (
      omega (arith, falls, c.decreases),
      (
        search rules,
        (
          search rules,
          (
            search rules,
            (
              search rules,
              (
                search rules,
                subst (λ form. IsReady g.row.N c.args.constants.now c.args.within.now form c.args.work.now) is c.requires,
              ),
            ),
          ),
        ),
      ),
    )

pub typed-returns-in-Let : goal.typed-returns-in-Let
typed-returns-in-Let g t c =
    let is = c.in-Let.is ∙ let_seen _ _ _ _ c.get-in-Let.ensures c.get-in-Let-2.ensures in
    IfOk-weaker c.let_in.result _ _ (λ cell inner. record { expressed = expressed-as g.row.N c.args.constants.now c.args.within.now c.args.core.now (let_form c.get-in-Let.result.now c.get-in-Let-2.result.now) cell c.args.work.now c.let_in.new.work is inner.expressed; marked = marked-as g.row.N c.args.constants.now c.args.within.now c.args.core.now (let_form c.get-in-Let.result.now c.get-in-Let-2.result.now) cell c.args.work.now c.let_in.new.work c.args.holes.now c.let_in.new.holes is inner.marked }) (c.let_in.ensures c.args.core.now.node c.args.core.now.span)

pub typed-let_rec-requires : goal.typed-let_rec-requires
typed-let_rec-requires g t c =
    let is = c.in-LetRec.is ∙ let_rec_seen _ _ _ _ _ _ c.get-in-LetRec.ensures c.get-in-LetRec-2.ensures in
    let falls = ap nodes_below is in
    let ready = subst (λ form. IsReady g.row.N c.args.constants.now c.args.within.now form c.args.work.now) is c.requires in
    λ κs lives. (
      omega (arith, falls, c.decreases),
      (
        search rules,
        (
          search rules,
          (
            search rules,
            (
              search rules,
              (
                search rules,
                λ name name_at. ready-first g.row.N c.args.constants.now c.args.within.now c.args.within.now (let_rec_form c.in-LetRec.field-0 c.in-LetRec.field-1 c.get-in-LetRec.result.now c.get-in-LetRec-2.result.now) (let_rec_form name name_at c.get-in-LetRec.result.now c.get-in-LetRec-2.result.now) c.args.work.now ready refl ready.scoped ready.constants ready.dims,
              ),
            ),
          ),
        ),
      ),
    )

pub typed-returns-in-LetRec : goal.typed-returns-in-LetRec
typed-returns-in-LetRec g t c =
    let is = c.in-LetRec.is ∙ let_rec_seen _ _ _ _ _ _ c.get-in-LetRec.ensures c.get-in-LetRec-2.ensures in
    IfOk-weaker c.let_rec.result _ _ (λ cell inner. record { expressed = expressed-as g.row.N c.args.constants.now c.args.within.now c.args.core.now (let_rec_form c.in-LetRec.field-0 c.in-LetRec.field-1 c.get-in-LetRec.result.now c.get-in-LetRec-2.result.now) cell c.args.work.now c.let_rec.new.work is inner.expressed; marked = marked-as g.row.N c.args.constants.now c.args.within.now c.args.core.now (let_rec_form c.in-LetRec.field-0 c.in-LetRec.field-1 c.get-in-LetRec.result.now c.get-in-LetRec-2.result.now) cell c.args.work.now c.let_rec.new.work c.args.holes.now c.let_rec.new.holes is inner.marked }) (c.let_rec.ensures c.in-LetRec.field-0 c.in-LetRec.field-1 c.args.core.now.span)

pub typed-alternatives-requires : goal.typed-alternatives-requires
typed-alternatives-requires g t c =
    let is = c.in-Choice.is ∙ choice_seen _ _ _ _ _ c.get-in-Choice.ensures c.get-in-Choice-2.ensures in
    let falls = ap nodes_below is in
    λ κs lives. (
      omega (arith, falls, c.decreases),
      (
        search rules,
        (
          search rules,
          (
            search rules,
            (
              search rules,
              (
                search rules,
                subst (λ form. IsReady g.row.N c.args.constants.now c.args.within.now form c.args.work.now) is c.requires,
              ),
            ),
          ),
        ),
      ),
    )

pub typed-returns-in-Choice : goal.typed-returns-in-Choice
typed-returns-in-Choice g t c =
    let is = c.in-Choice.is ∙ choice_seen _ _ _ _ _ c.get-in-Choice.ensures c.get-in-Choice-2.ensures in
    IfOk-weaker c.alternatives.result _ _ (λ cell inner. record { expressed = expressed-as g.row.N c.args.constants.now c.args.within.now c.args.core.now (choice_form c.in-Choice.dim c.get-in-Choice.result.now c.get-in-Choice-2.result.now) cell c.args.work.now c.alternatives.new.work is inner.expressed; marked = marked-as g.row.N c.args.constants.now c.args.within.now c.args.core.now (choice_form c.in-Choice.dim c.get-in-Choice.result.now c.get-in-Choice-2.result.now) cell c.args.work.now c.alternatives.new.work c.args.holes.now c.alternatives.new.holes is inner.marked }) (c.alternatives.ensures c.args.core.now.node c.args.core.now.span)

pub typed-returns-in-Literal : goal.typed-returns-in-Literal
typed-returns-in-Literal g t c =
    IfOk-weaker c.literal_cell.result _ _ (λ cell made.
    record {
      expressed = expressed-as g.row.N c.args.constants.now c.args.within.now c.args.core.now (Literal c.in-Literal.literal) cell c.args.work.now _ c.in-Literal.is
          (expressed-literal g.row.N c.args.constants.now c.requires.table c.args.within.now c.args.core.now.node c.args.core.now.span cell c.args.work.now _ c.in-Literal.literal made refl refl);
      marked = marked-as g.row.N c.args.constants.now c.args.within.now c.args.core.now (Literal c.in-Literal.literal) cell c.args.work.now _ c.args.holes.now c.args.holes.now c.in-Literal.is
          (marked-none g.row.N c.args.constants.now c.args.within.now (core c.args.core.now.node c.args.core.now.span (Literal c.in-Literal.literal)) cell c.args.work.now _ c.args.holes.now (λ decision mark holds. holds));
    }) c.literal_cell.ensures

pub typed-returns-in-Name : goal.typed-returns-in-Name
typed-returns-in-Name g t c =
    IfOk-weaker c.named.result _ _ (λ cell made.
    record {
      expressed = expressed-as g.row.N c.args.constants.now c.args.within.now c.args.core.now (Name c.in-Name.distance) cell c.args.work.now _ c.in-Name.is
          (expressed-name g.row.N c.args.constants.now c.requires.table c.args.within.now c.args.core.now.node c.args.core.now.span cell c.args.work.now _ c.in-Name.distance c.requires.held made c.named.ensures.environment);
      marked = marked-as g.row.N c.args.constants.now c.args.within.now c.args.core.now (Name c.in-Name.distance) cell c.args.work.now _ c.args.holes.now c.args.holes.now c.in-Name.is
          (marked-none g.row.N c.args.constants.now c.args.within.now (core c.args.core.now.node c.args.core.now.span (Name c.in-Name.distance)) cell c.args.work.now _ c.args.holes.now (λ decision mark holds. holds));
    }) c.named.ensures.named

pub typed-returns-in-Const : goal.typed-returns-in-Const
typed-returns-in-Const g t c =
    IfOk-weaker c.constant_cell.result _ _ (λ cell made.
    record {
      expressed = expressed-as g.row.N c.args.constants.now c.args.within.now c.args.core.now (Const c.in-Const.id) cell c.args.work.now _ c.in-Const.is
          (expressed-constant g.row.N c.args.constants.now c.requires.table c.args.within.now c.args.core.now.node c.args.core.now.span cell c.args.work.now _ c.in-Const.id made refl refl);
      marked = marked-as g.row.N c.args.constants.now c.args.within.now c.args.core.now (Const c.in-Const.id) cell c.args.work.now _ c.args.holes.now c.args.holes.now c.in-Const.is
          (marked-none g.row.N c.args.constants.now c.args.within.now (core c.args.core.now.node c.args.core.now.span (Const c.in-Const.id)) cell c.args.work.now _ c.args.holes.now (λ decision mark holds. holds));
    }) c.constant_cell.ensures

pub typed-returns-in-Hole : goal.typed-returns-in-Hole
typed-returns-in-Hole g t c =
    IfOk-weaker c.hole.result _ _ (λ cell inner.
    record {
      expressed = expressed-as g.row.N c.args.constants.now c.args.within.now c.args.core.now Hole cell c.args.work.now c.hole.new.work c.in-Hole.is inner.expressed;
      marked = marked-as g.row.N c.args.constants.now c.args.within.now c.args.core.now Hole cell c.args.work.now c.hole.new.work c.args.holes.now c.hole.new.holes c.in-Hole.is inner.marked;
    }) (c.hole.ensures c.args.constants.now c.args.core.now.span c.requires.table)

pub function-typed-requires : goal.function-typed-requires
function-typed-requires g t c =
    λ κs lives. (
      omega (arith, c.decreases),
      (
        search rules,
        (
          search rules,
          (
            search rules,
            (
              search rules,
              (
                search rules,
                ready-mono g.row.N c.args.constants.now c.args.within.now (fun_form c.args.body.now) c.args.body.now.form c.in_ok-parameter.parameter c.args.work.now (record { store = c.open_cell.new.store; pattern = c.args.work.now.pattern; environment = c.push.new.self }) c.requires c.in_ok-parameter.ensures.is_new refl c.in_ok-push.ensures c.requires.scoped c.requires.constants c.requires.dims,
              ),
            ),
          ),
        ),
      ),
    )

pub function-function_cell-requires : goal.function-function_cell-requires
function-function_cell-requires g t c =
    (search rules, (omega (arith, c.in_ok-parameter.ensures.is_new.is_cell, c.in_ok-to.ensures.expressed.goes_on.grows), c.in_ok-to.ensures.expressed.is_cell))

pub function-returns : goal.function-returns
function-returns g t c =
    let same = popped c.pop.result (Mono c.in_ok-parameter.parameter) _ _ c.args.work.now.environment c.pop.ensures (c.in_ok-to.ensures.expressed.environment ∙ c.in_ok-push.ensures) in
    λ node at. IfOk-weaker c.function_cell.result _ _ (λ cell made. record {
      expressed = expressed-function g.row.N c.args.constants.now c.requires.table c.args.within.now node at c.args.body.now c.in_ok-parameter.parameter c.in_ok-to.to cell c.args.work.now (record { store = c.open_cell.new.store; pattern = c.args.work.now.pattern; environment = c.push.new.self }) c.typed.new.work _
          c.in_ok-parameter.ensures.is_new c.in_ok-parameter.ensures.later refl c.in_ok-push.ensures c.in_ok-to.ensures.expressed made refl same;
      marked = marked-function g.row.N c.args.constants.now c.requires.table c.args.within.now node at c.args.body.now c.in_ok-parameter.parameter c.in_ok-to.to cell c.args.work.now (record { store = c.open_cell.new.store; pattern = c.args.work.now.pattern; environment = c.push.new.self }) c.typed.new.work _
          c.in_ok-parameter.ensures.is_new c.in_ok-parameter.ensures.later refl c.in_ok-push.ensures c.in_ok-to.ensures.expressed made refl same c.args.holes.now c.typed.new.holes c.in_ok-to.ensures.marked;
    }) c.function_cell.ensures

pub application-typed-requires : goal.application-typed-requires
application-typed-requires g t c =
    λ κs lives. (
      omega (arith, c.decreases),
      (
        search rules,
        (
          search rules,
          (
            search rules,
            (
              search rules,
              (
                search rules,
                ready-first g.row.N c.args.constants.now c.args.within.now c.args.within.now (app_form c.args.function.now c.args.argument.now) c.args.function.now.form c.args.work.now c.requires refl c.requires.scoped.0 c.requires.constants.0 c.requires.dims.0,
              ),
            ),
          ),
        ),
      ),
    )

pub application-typed-requires-2 : goal.application-typed-requires-2
application-typed-requires-2 g t c =
    λ κs lives. (
      omega (arith, c.decreases),
      (
        search rules,
        (
          search rules,
          (
            search rules,
            (
              search rules,
              (
                search rules,
                (ready-next g.row.N c.args.constants.now c.args.within.now c.args.within.now c.args.within.now c.args.function.now c.in_ok-one.one (app_form c.args.function.now c.args.argument.now) c.args.argument.now.form c.args.work.now c.typed.new.work c.requires refl c.in_ok-one.ensures.expressed c.requires.scoped.1 c.requires.constants.1 c.requires.dims.1),
              ),
            ),
          ),
        ),
      ),
    )

pub application-applied-requires : goal.application-applied-requires
application-applied-requires g t c =
    let before = (ready-next g.row.N c.args.constants.now c.args.within.now c.args.within.now c.args.within.now c.args.function.now c.in_ok-one.one (app_form c.args.function.now c.args.argument.now) c.args.argument.now.form c.args.work.now c.typed.new.work c.requires refl c.in_ok-one.ensures.expressed c.requires.scoped.1 c.requires.constants.1 c.requires.dims.1) in
    (search rules, (search rules, (omega (arith, c.in_ok-one.ensures.expressed.is_cell, c.in_ok-other.ensures.expressed.goes_on.grows), (c.in_ok-other.ensures.expressed.is_cell, (before.space ∙ sym c.in_ok-other.ensures.expressed.goes_on.space, c.in_ok-other.ensures.expressed.goes_on.pattern_space ∙ before.pattern_space ∙ sym c.in_ok-other.ensures.expressed.goes_on.space)))))

pub application-returns : goal.application-returns
application-returns g t c =
    λ at. IfOk-weaker c.applied.result _ _ (λ cell joint. record {
      expressed = expressed-application g.row.N c.args.constants.now c.requires.table c.args.within.now c.args.node at c.args.function.now c.args.argument.now c.in_ok-one.one c.in_ok-other.other cell c.args.work.now c.typed.new.work c.typed-2.new.work c.applied.new.work
          c.in_ok-one.ensures.expressed c.in_ok-other.ensures.expressed joint c.applied.ensures.environment;
      marked = marked-application g.row.N c.args.constants.now c.requires.table c.args.within.now c.args.node at c.args.function.now c.args.argument.now c.in_ok-one.one c.in_ok-other.other cell c.args.work.now c.typed.new.work c.typed-2.new.work c.applied.new.work
          c.in_ok-one.ensures.expressed c.in_ok-other.ensures.expressed joint c.applied.ensures.environment c.args.holes.now c.typed.new.holes c.typed-2.new.holes c.in_ok-one.ensures.marked c.in_ok-other.ensures.marked;
    }) c.applied.ensures.joint

pub let_in-typed-requires : goal.let_in-typed-requires
let_in-typed-requires g t c =
    λ κs lives. (
      omega (arith, c.decreases),
      (
        search rules,
        (
          search rules,
          (
            search rules,
            (
              search rules,
              (
                search rules,
                ready-first g.row.N c.args.constants.now c.args.within.now c.args.within.now (let_form c.args.bound.now c.args.body.now) c.args.bound.now.form c.args.work.now c.requires refl c.requires.scoped.0 c.requires.constants.0 c.requires.dims.0,
              ),
            ),
          ),
        ),
      ),
    )

pub let_in-generalise-requires : goal.let_in-generalise-requires
let_in-generalise-requires g t c =
    (search rules, (c.in_ok-root.ensures.expressed.is_cell, (ready-next g.row.N c.args.constants.now c.args.within.now c.args.within.now c.args.within.now c.args.bound.now c.in_ok-root.root (let_form c.args.bound.now c.args.body.now) c.args.bound.now.form c.args.work.now c.typed.new.work c.requires refl c.in_ok-root.ensures.expressed c.requires.scoped.0 c.requires.constants.0 c.requires.dims.0).held))

pub let_in-typed-requires-2 : goal.let_in-typed-requires-2
let_in-typed-requires-2 g t c =
    λ κs lives. (
      omega (arith, c.decreases),
      (
        search rules,
        (
          search rules,
          (
            search rules,
            (
              search rules,
              (
                search rules,
                ready-poly g.row.N c.args.constants.now c.args.within.now (let_form c.args.bound.now c.args.body.now) c.args.body.now.form c.in_ok-root.root c.args.work.now c.typed.new.work c.generalise.new.work c.requires c.in_ok-root.ensures.expressed.goes_on c.in_ok-root.ensures.expressed.environment c.generalise.ensures.store c.generalise.ensures.pattern c.in_ok-generalise.ensures.entry (λ entry. c.requires.scoped.1) c.requires.constants.1 c.requires.dims.1,
              ),
            ),
          ),
        ),
      ),
    )

pub let_in-returns : goal.let_in-returns
let_in-returns g t c =
    let same = popped c.pop.result (Poly c.in_ok-generalise.ensures.entry.scheme (mono_cells c.typed.new.work.environment)) _ _ c.args.work.now.environment c.pop.ensures
    (c.in_ok-cell.ensures.expressed.environment ∙ c.in_ok-generalise.ensures.entry.pushed ∙ ap (λ rest. Poly c.in_ok-generalise.ensures.entry.scheme (mono_cells c.typed.new.work.environment) ∷ rest) c.in_ok-root.ensures.expressed.environment) in
    λ node at. record {
      expressed = expressed-let g.row.N c.args.constants.now c.requires.table c.args.within.now node at c.args.bound.now c.args.body.now c.in_ok-root.root c.in_ok-cell.cell c.args.work.now c.typed.new.work c.generalise.new.work c.typed-2.new.work _
          c.in_ok-root.ensures.expressed c.generalise.ensures.store c.generalise.ensures.pattern c.in_ok-generalise.ensures.entry c.in_ok-cell.ensures.expressed refl refl same;
      marked = marked-let g.row.N c.args.constants.now c.requires.table c.args.within.now node at c.args.bound.now c.args.body.now c.in_ok-root.root c.in_ok-cell.cell c.args.work.now c.typed.new.work c.generalise.new.work c.typed-2.new.work _
          c.in_ok-root.ensures.expressed c.generalise.ensures.store c.generalise.ensures.pattern c.in_ok-generalise.ensures.entry c.in_ok-cell.ensures.expressed refl refl same
          c.args.holes.now c.typed.new.holes c.typed-2.new.holes c.in_ok-root.ensures.marked c.in_ok-cell.ensures.marked;
    }

pub let_rec-typed-requires : goal.let_rec-typed-requires
let_rec-typed-requires g t c =
    let ready = c.requires [] c.args.bound.now.span in
    λ κs lives. (
      omega (arith, c.decreases),
      (
        search rules,
        (
          search rules,
          (
            search rules,
            (
              search rules,
              (
                search rules,
                (ready-mono g.row.N c.args.constants.now c.args.within.now (let_rec_form [] c.args.bound.now.span c.args.bound.now c.args.body.now) c.args.bound.now.form c.in_ok-parameter.parameter c.args.work.now (record { store = c.open_cell.new.store; pattern = c.args.work.now.pattern; environment = c.push.new.self }) ready c.in_ok-parameter.ensures.is_new refl c.in_ok-push.ensures ready.scoped.0 ready.constants.0 ready.dims.0),
              ),
            ),
          ),
        ),
      ),
    )

pub let_rec-equate-requires : goal.let_rec-equate-requires
let_rec-equate-requires g t c =
    let ready = c.requires [] c.args.bound.now.span in
    let before = (ready-mono g.row.N c.args.constants.now c.args.within.now (let_rec_form [] c.args.bound.now.span c.args.bound.now c.args.body.now) c.args.bound.now.form c.in_ok-parameter.parameter c.args.work.now (record { store = c.open_cell.new.store; pattern = c.args.work.now.pattern; environment = c.push.new.self }) ready c.in_ok-parameter.ensures.is_new refl c.in_ok-push.ensures ready.scoped.0 ready.constants.0 ready.dims.0) in
    (search rules, (search rules, (c.in_ok-own.ensures.expressed.is_cell, (omega (arith, c.in_ok-parameter.ensures.is_new.is_cell, c.in_ok-own.ensures.expressed.goes_on.grows), (before.space ∙ sym c.in_ok-own.ensures.expressed.goes_on.space, c.in_ok-own.ensures.expressed.goes_on.pattern_space ∙ before.pattern_space ∙ sym c.in_ok-own.ensures.expressed.goes_on.space)))))

pub let_rec-generalise-requires : goal.let_rec-generalise-requires
let_rec-generalise-requires g t c =
    let ready = c.requires [] c.args.bound.now.span in
    let goes = (equal_goes_on g.row.N c.args.constants.now c.args.within.now c.args.bound.now c.in_ok-parameter.parameter c.in_ok-own.own c.args.node c.args.work.now (record { store = c.open_cell.new.store; pattern = c.args.work.now.pattern; environment = c.push.new.self }) c.typed.new.work c.equate.new.work c.in_ok-parameter.ensures.is_new refl c.in_ok-own.ensures.expressed c.in_ok-equate.ensures.equated) in
    (search rules, (omega (arith, c.in_ok-parameter.ensures.is_new.is_cell, c.in_ok-own.ensures.expressed.goes_on.grows, c.in_ok-equate.ensures.equated.cells), (ready-after g.row.N c.args.constants.now c.args.within.now c.args.within.now (let_rec_form [] c.args.bound.now.span c.args.bound.now c.args.body.now) (let_rec_form [] c.args.bound.now.span c.args.bound.now c.args.body.now) c.args.work.now c.equate.new.work ready refl goes (c.equate.ensures.environment ∙ (popped c.pop.result (Mono c.in_ok-parameter.parameter) _ _ c.args.work.now.environment c.pop.ensures (c.in_ok-own.ensures.expressed.environment ∙ c.in_ok-push.ensures))) ready.scoped ready.constants ready.dims).held))

pub let_rec-typed-requires-2 : goal.let_rec-typed-requires-2
let_rec-typed-requires-2 g t c =
    let ready = c.requires [] c.args.bound.now.span in
    λ κs lives. (
      omega (arith, c.decreases),
      (
        search rules,
        (
          search rules,
          (
            search rules,
            (
              search rules,
              (
                search rules,
                ready-poly g.row.N c.args.constants.now c.args.within.now (let_rec_form [] c.args.bound.now.span c.args.bound.now c.args.body.now) c.args.body.now.form c.in_ok-parameter.parameter c.args.work.now c.equate.new.work c.generalise.new.work ready (equal_goes_on g.row.N c.args.constants.now c.args.within.now c.args.bound.now c.in_ok-parameter.parameter c.in_ok-own.own c.args.node c.args.work.now (record { store = c.open_cell.new.store; pattern = c.args.work.now.pattern; environment = c.push.new.self }) c.typed.new.work c.equate.new.work c.in_ok-parameter.ensures.is_new refl c.in_ok-own.ensures.expressed c.in_ok-equate.ensures.equated) (c.equate.ensures.environment ∙ (popped c.pop.result (Mono c.in_ok-parameter.parameter) _ _ c.args.work.now.environment c.pop.ensures (c.in_ok-own.ensures.expressed.environment ∙ c.in_ok-push.ensures))) c.generalise.ensures.store c.generalise.ensures.pattern c.in_ok-generalise.ensures.entry (λ entry. ready.scoped.1) ready.constants.1 ready.dims.1,
              ),
            ),
          ),
        ),
      ),
    )

pub let_rec-returns : goal.let_rec-returns
let_rec-returns g t c =
    let ready = c.requires [] c.args.bound.now.span in
    let opened : Work g.row.N = record { store = c.open_cell.new.store; pattern = c.args.work.now.pattern; environment = c.push.new.self } in
    let back = c.equate.ensures.environment ∙ (popped c.pop.result (Mono c.in_ok-parameter.parameter) _ _ c.args.work.now.environment c.pop.ensures (c.in_ok-own.ensures.expressed.environment ∙ c.in_ok-push.ensures)) in
    let same = popped c.pop-2.result (Poly c.in_ok-generalise.ensures.entry.scheme (mono_cells c.equate.new.work.environment)) _ _ c.args.work.now.environment c.pop-2.ensures
    (c.in_ok-cell.ensures.expressed.environment ∙ c.in_ok-generalise.ensures.entry.pushed ∙ ap (λ rest. Poly c.in_ok-generalise.ensures.entry.scheme (mono_cells c.equate.new.work.environment) ∷ rest) back) in
    λ name name_at at. record {
      expressed = expressed-let_rec g.row.N c.args.constants.now ready.table c.args.within.now c.args.node at name name_at c.args.bound.now c.args.body.now c.in_ok-parameter.parameter c.in_ok-own.own c.in_ok-cell.cell c.args.work.now opened c.typed.new.work c.equate.new.work c.generalise.new.work c.typed-2.new.work _
          c.in_ok-parameter.ensures.is_new c.in_ok-parameter.ensures.later refl c.in_ok-push.ensures c.in_ok-own.ensures.expressed c.in_ok-equate.ensures.equated back c.generalise.ensures.store c.generalise.ensures.pattern c.in_ok-generalise.ensures.entry c.in_ok-cell.ensures.expressed refl refl same;
      marked = marked-let_rec g.row.N c.args.constants.now ready.table c.args.within.now c.args.node at name name_at c.args.bound.now c.args.body.now c.in_ok-parameter.parameter c.in_ok-own.own c.in_ok-cell.cell c.args.work.now opened c.typed.new.work c.equate.new.work c.generalise.new.work c.typed-2.new.work _
          c.in_ok-parameter.ensures.is_new c.in_ok-parameter.ensures.later refl c.in_ok-push.ensures c.in_ok-own.ensures.expressed c.in_ok-equate.ensures.equated back c.generalise.ensures.store c.generalise.ensures.pattern c.in_ok-generalise.ensures.entry c.in_ok-cell.ensures.expressed refl refl same
          c.args.holes.now c.typed.new.holes c.typed-2.new.holes c.in_ok-own.ensures.marked c.in_ok-cell.ensures.marked;
    }

pub alternatives-typed-requires : goal.alternatives-typed-requires
alternatives-typed-requires g t c =
    λ κs lives. (
      omega (arith, c.decreases),
      (
        search rules,
        (
          search rules,
          (
            search rules,
            (
              search rules,
              (
                search rules,
                ready-first g.row.N c.args.constants.now c.args.within.now c.args.within.now (choice_form c.args.dim c.args.left.now c.args.right.now) c.args.right.now.form c.args.work.now c.requires refl c.requires.scoped.1 c.requires.constants.1 c.requires.dims.2,
              ),
            ),
          ),
        ),
      ),
    )

pub alternatives-returns-in_default : goal.alternatives-returns-in_default
alternatives-returns-in_default g t c =
    λ node at. IfOk-weaker c.typed.result _ _ (λ cell inner. record {
      expressed = expressed-only_right g.row.N c.args.constants.now c.args.within.now node at c.args.dim c.requires.dims.0 c.args.left.now c.args.right.now cell c.args.work.now c.typed.new.work (rw c.in_default.is at c.with.ensures.narrowed) inner.expressed;
      marked = marked-only_right g.row.N c.args.constants.now c.args.within.now node at c.args.dim c.requires.dims.0 c.args.left.now c.args.right.now cell c.args.work.now c.typed.new.work c.args.holes.now c.typed.new.holes (rw c.in_default.is at c.with.ensures.narrowed) inner.marked;
    }) c.typed.ensures

pub alternatives-typed-requires-2 : goal.alternatives-typed-requires-2
alternatives-typed-requires-2 g t c =
    let narrows_left = rw c.in-Some.is at c.with.ensures.narrowed in
    λ κs lives. (
      omega (arith, c.decreases),
      (
        search rules,
        (
          search rules,
          (
            search rules,
            (
              search rules,
              (
                search rules,
                ready-first g.row.N c.args.constants.now c.args.within.now c.in-Some.on_left (choice_form c.args.dim c.args.left.now c.args.right.now) c.args.left.now.form c.args.work.now c.requires narrows_left.space c.requires.scoped.0 c.requires.constants.0 c.requires.dims.1,
              ),
            ),
          ),
        ),
      ),
    )

pub alternatives-returns-in_default-with : goal.alternatives-returns-in_default-with
alternatives-returns-in_default-with g t c =
    let narrows_left = rw c.in-Some.is at c.with.ensures.narrowed in
    λ node at. record {
      expressed = expressed-only_left g.row.N c.args.constants.now c.args.within.now node at c.args.dim c.requires.dims.0 c.args.left.now c.args.right.now c.in_ok-one.one c.args.work.now c.typed-2.new.work c.in-Some.on_left narrows_left (rw c.in_default-with.is at c.with-2.ensures.narrowed) c.in_ok-one.ensures.expressed;
      marked = marked-only_left g.row.N c.args.constants.now c.args.within.now node at c.args.dim c.requires.dims.0 c.args.left.now c.args.right.now c.in_ok-one.one c.args.work.now c.typed-2.new.work c.args.holes.now c.typed-2.new.holes c.in-Some.on_left narrows_left (rw c.in_default-with.is at c.with-2.ensures.narrowed) c.in_ok-one.ensures.marked;
    }

pub alternatives-typed-requires-3 : goal.alternatives-typed-requires-3
alternatives-typed-requires-3 g t c =
    let narrows_left = rw c.in-Some.is at c.with.ensures.narrowed in
    let narrows_right = rw c.in-Some-with.is at c.with-2.ensures.narrowed in
    λ κs lives. (
      omega (arith, c.decreases),
      (
        search rules,
        (
          search rules,
          (
            search rules,
            (
              search rules,
              (
                search rules,
                ready-next g.row.N c.args.constants.now c.args.within.now c.in-Some.on_left c.in-Some-with.on_right c.args.left.now c.in_ok-one.one (choice_form c.args.dim c.args.left.now c.args.right.now) c.args.right.now.form c.args.work.now c.typed-2.new.work c.requires narrows_right.space c.in_ok-one.ensures.expressed c.requires.scoped.1 c.requires.constants.1 c.requires.dims.2,
              ),
            ),
          ),
        ),
      ),
    )

pub alternatives-choice_cell-requires : goal.alternatives-choice_cell-requires
alternatives-choice_cell-requires g t c =
    (search rules, (c.requires.dims.0, (omega (arith, c.in_ok-one.ensures.expressed.is_cell, c.in_ok-other.ensures.expressed.goes_on.grows), c.in_ok-other.ensures.expressed.is_cell)))

pub alternatives-returns : goal.alternatives-returns
alternatives-returns g t c =
    let narrows_left = rw c.in-Some.is at c.with.ensures.narrowed in
    let narrows_right = rw c.in-Some-with.is at c.with-2.ensures.narrowed in
    λ node at. IfOk-weaker c.choice_cell.result _ _ (λ cell made. record {
      expressed = expressed-choice g.row.N c.args.constants.now c.args.within.now node at c.args.dim c.requires.dims.0 c.args.left.now c.args.right.now c.in_ok-one.one c.in_ok-other.other cell c.args.work.now c.typed-2.new.work c.typed-3.new.work _ c.in-Some.on_left c.in-Some-with.on_right
          narrows_left narrows_right c.in_ok-one.ensures.expressed c.in_ok-other.ensures.expressed made refl refl;
      marked = marked-choice g.row.N c.args.constants.now c.args.within.now node at c.args.dim c.requires.dims.0 c.args.left.now c.args.right.now c.in_ok-one.one c.in_ok-other.other cell c.args.work.now c.typed-2.new.work c.typed-3.new.work _ c.in-Some.on_left c.in-Some-with.on_right
          narrows_left narrows_right c.in_ok-one.ensures.expressed c.in_ok-other.ensures.expressed made refl refl c.args.holes.now c.typed-2.new.holes c.typed-3.new.holes c.in_ok-one.ensures.marked c.in_ok-other.ensures.marked;
    }) c.choice_cell.ensures
