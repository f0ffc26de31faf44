use Rattle.std.specs.Prelude.{ℕ, ◌+◌, Bool, List}
use Rattle.vt_lex.specs.declared.span.Span.{Span}
use Rattle.vt_syntax.specs.declared.expr.Op.{Op}
use Rattle.vt_syntax.specs.declared.expr.Expr.{Expr}
use Rattle.vt_syntax.specs.declared.expr.Exprs.{Exprs, Nil, More', end_of-Expr, more_of-Expr, end_of-Exprs, more_of-Exprs}
use Rattle.vt_syntax.specs.declared.expr.ExprForm.{ExprForm, Fun', Let', If', Match', Op', Apply', Pair', Choice'}
use Rattle.vt_syntax.specs.declared.expr.ExprForm as form

-- The forms of expressions as they are written. A definition by cases goes by these patterns, in which
-- each part gives its span and its form.
pattern abbrev pub fun_of : List ℕ → Span → Span → ExprForm → ExprForm
fun_of name name_at at body = Fun' name name_at tt (more_of-Expr at body end_of-Expr)

pattern abbrev pub let_of : Bool → List ℕ → Span → Span → ExprForm → Span → ExprForm → ExprForm
let_of recursive name name_at at bound by body = Let' recursive name name_at tt (more_of-Expr at bound end_of-Expr) tt (more_of-Expr by body end_of-Expr)

pattern abbrev pub if_of : Span → ExprForm → Span → ExprForm → Span → ExprForm → ExprForm
if_of at condition by then to otherwise = If' tt (more_of-Expr at condition end_of-Expr) tt (more_of-Expr by then end_of-Expr) tt (more_of-Expr to otherwise end_of-Expr)

pattern abbrev pub match_of : Span → ExprForm → Span → ExprForm → List ℕ → Span → List ℕ → Span → Span → ExprForm → ExprForm
match_of at list by empty first first_at rest rest_at to cell = Match' tt (more_of-Expr at list end_of-Expr) tt (more_of-Expr by empty end_of-Expr) first first_at rest rest_at tt (more_of-Expr to cell end_of-Expr)

pattern abbrev pub op_of : Op → Span → Span → ExprForm → Span → ExprForm → ExprForm
op_of op op_at at left by right = Op' op op_at tt (more_of-Expr at left end_of-Expr) tt (more_of-Expr by right end_of-Expr)

pattern abbrev pub apply_of : Span → ExprForm → Span → ExprForm → ExprForm
apply_of at function by argument = Apply' tt (more_of-Expr at function end_of-Expr) tt (more_of-Expr by argument end_of-Expr)

pattern abbrev pub pair_of : Span → ExprForm → Span → ExprForm → ExprForm
pair_of at left by right = Pair' tt (more_of-Expr at left end_of-Expr) tt (more_of-Expr by right end_of-Expr)

pattern abbrev pub choice_of : List ℕ → Span → Span → ExprForm → Span → ExprForm → ExprForm
choice_of dim dim_at at left by right = Choice' dim dim_at tt (more_of-Expr at left end_of-Expr) tt (more_of-Expr by right end_of-Expr)

-- a first expression before the others
pattern abbrev pub exprs_of : Span → ExprForm → Exprs → Exprs
exprs_of at first rest = More' tt (more_of-Expr at first end_of-Expr) tt (more_of-Exprs rest end_of-Exprs)

-- an expression from its span and its form
abbrev pub expr : Span → ExprForm → Expr
expr span form = record { span = span; form = form }

-- The same forms over whole expressions.
abbrev pub fun_form : List ℕ → Span → Expr → ExprForm
fun_form name name_at body = fun_of name name_at body.span body.form

abbrev pub let_form : Bool → List ℕ → Span → Expr → Expr → ExprForm
let_form recursive name name_at bound body = let_of recursive name name_at bound.span bound.form body.span body.form

abbrev pub if_form : Expr → Expr → Expr → ExprForm
if_form condition then otherwise = if_of condition.span condition.form then.span then.form otherwise.span otherwise.form

abbrev pub match_form : Expr → Expr → List ℕ → Span → List ℕ → Span → Expr → ExprForm
match_form list empty first first_at rest rest_at cell = match_of list.span list.form empty.span empty.form first first_at rest rest_at cell.span cell.form

abbrev pub op_form : Op → Span → Expr → Expr → ExprForm
op_form op op_at left right = op_of op op_at left.span left.form right.span right.form

abbrev pub apply_form : Expr → Expr → ExprForm
apply_form function argument = apply_of function.span function.form argument.span argument.form

abbrev pub pair_form : Expr → Expr → ExprForm
pair_form left right = pair_of left.span left.form right.span right.form

abbrev pub choice_form : List ℕ → Span → Expr → Expr → ExprForm
choice_form dim dim_at left right = choice_of dim dim_at left.span left.form right.span right.form

abbrev pub exprs : Expr → Exprs → Exprs
exprs first rest = exprs_of first.span first.form rest

-- how many nodes the core of an expression has
abbrev mutual
  pub core_nodes : ExprForm → ℕ
  core_nodes (form.Number value) = 1
  core_nodes form.Quoted = 1
  core_nodes (form.Truth value) = 1
  core_nodes (form.Name name) = 1
  core_nodes form.Hole = 1
  core_nodes (fun_of name name_at at body) = 1 + core_nodes body
  core_nodes (let_of recursive name name_at at bound by body) = 1 + core_nodes bound + core_nodes body
  core_nodes (if_of at condition by then to otherwise) = 4 + core_nodes condition + core_nodes then + core_nodes otherwise
  core_nodes (match_of at list by empty first first_at rest rest_at to cell) = 6 + core_nodes list + core_nodes empty + core_nodes cell
  core_nodes (op_of op op_at at left by right) = 3 + core_nodes left + core_nodes right
  core_nodes (apply_of at function by argument) = 1 + core_nodes function + core_nodes argument
  core_nodes (pair_of at left by right) = 3 + core_nodes left + core_nodes right
  core_nodes (form.List items) = list_nodes items
  core_nodes (choice_of dim dim_at at left by right) = 1 + core_nodes left + core_nodes right

  pub list_nodes : Exprs → ℕ
  list_nodes Nil = 1
  list_nodes (exprs_of at first rest) = 3 + core_nodes first + list_nodes rest
