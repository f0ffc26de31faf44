use Rattle.std.specs.Prelude.{ℕ, ◌+◌, List}
use Rattle.vt_lex.specs.declared.span.Span.{Span}
use Rattle.vt_syntax.specs.declared.core_expr.Core.{Core}
use Rattle.vt_syntax.specs.declared.core_expr.Form.{Form, Literal, Name, Const, Hole, Fun', App', Let', LetRec', Choice', end_of-Core, more_of-Core}

-- The forms of the core. A definition by cases goes by these patterns, in which each part gives its
-- number, its span and its form.
pattern abbrev pub fun_of : ℕ → Span → Form → Form
fun_of n at body = Fun' tt (more_of-Core n at body end_of-Core)

pattern abbrev pub app_of : ℕ → Span → Form → ℕ → Span → Form → Form
app_of n at function m by argument = App' tt (more_of-Core n at function end_of-Core) tt (more_of-Core m by argument end_of-Core)

pattern abbrev pub let_of : ℕ → Span → Form → ℕ → Span → Form → Form
let_of n at bound m by body = Let' tt (more_of-Core n at bound end_of-Core) tt (more_of-Core m by body end_of-Core)

pattern abbrev pub let_rec_of : List ℕ → Span → ℕ → Span → Form → ℕ → Span → Form → Form
let_rec_of name name_at n at bound m by body = LetRec' name name_at tt (more_of-Core n at bound end_of-Core) tt (more_of-Core m by body end_of-Core)

pattern abbrev pub choice_of : ℕ → ℕ → Span → Form → ℕ → Span → Form → Form
choice_of dim n at left m by right = Choice' dim tt (more_of-Core n at left end_of-Core) tt (more_of-Core m by right end_of-Core)

-- an expression from its number, its span and its form
abbrev pub core : ℕ → Span → Form → Core
core node span form = record { node = node; span = span; form = form }

-- The same forms over whole expressions.
abbrev pub fun_form : Core → Form
fun_form body = fun_of body.node body.span body.form

abbrev pub app_form : Core → Core → Form
app_form function argument = app_of function.node function.span function.form argument.node argument.span argument.form

abbrev pub let_form : Core → Core → Form
let_form bound body = let_of bound.node bound.span bound.form body.node body.span body.form

abbrev pub let_rec_form : List ℕ → Span → Core → Core → Form
let_rec_form name name_at bound body = let_rec_of name name_at bound.node bound.span bound.form body.node body.span body.form

abbrev pub choice_form : ℕ → Core → Core → Form
choice_form dim left right = choice_of dim left.node left.span left.form right.node right.span right.form

-- how many nodes stand below the root of a form
abbrev pub nodes_below : Form → ℕ
nodes_below (Literal literal) = 0
nodes_below (Name distance) = 0
nodes_below (Const id) = 0
nodes_below Hole = 0
nodes_below (fun_of n at body) = 1 + nodes_below body
nodes_below (app_of n at function m by argument) = 2 + nodes_below function + nodes_below argument
nodes_below (let_of n at bound m by body) = 2 + nodes_below bound + nodes_below body
nodes_below (let_rec_of name name_at n at bound m by body) = 2 + nodes_below bound + nodes_below body
nodes_below (choice_of dim n at left m by right) = 2 + nodes_below left + nodes_below right
