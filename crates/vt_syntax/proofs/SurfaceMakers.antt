use Rattle.std.proofs.Common.{◌≡◌, ℕ, Bool, List, refl}
use Rattle.vt_lex.specs.declared.span.Span.{Span}
use Rattle.vt_syntax.specs.declared.expr.Op.{Op}
use Rattle.vt_syntax.specs.declared.expr.Expr.{Expr}
use Rattle.vt_syntax.specs.declared.expr.ExprForm.TheViews.{roll-Expr}
use Rattle.vt_syntax.specs.declared.expr.Exprs.{Exprs, More}
use Rattle.vt_syntax.specs.declared.expr.ExprForm.{Fun, Let, If, Match, Op as Operation, Apply, Pair, Choice}
use Rattle.vt_syntax.specs.declared.expr.ExprForm.TheBlock as block
use Rattle.vt_syntax.specs.SurfaceTrees.{expr, fun_form, let_form, if_form, match_form, op_form, apply_form, pair_form, choice_form, exprs}

-- The expressions that the code makes are the patterns of the definitions.

fun_here : (span : Span) (name : List ℕ) (at : Span) (body : Expr) → roll-Expr record { span = span; form = Fun name at body } ≡ expr span (fun_form name at body)
unfolding block.shape-the_row-Expr-0 block.hidden-the_row-Expr-0 denote.Hole.Carrier.hidden
fun_here span name at body = refl

pub fun_is : (span : Span) (name : List ℕ) (at : Span) (body0 body : Expr) → body0 ≡ body → roll-Expr record { span = span; form = Fun name at body0 } ≡ expr span (fun_form name at body)
fun_is span name at body0 body e = rw e (fun_here span name at body)

let_here : (span : Span) (recursive : Bool) (name : List ℕ) (at : Span) (bound : Expr) (body : Expr) → roll-Expr record { span = span; form = Let recursive name at bound body } ≡ expr span (let_form recursive name at bound body)
unfolding block.shape-the_row-Expr-0 block.hidden-the_row-Expr-0 denote.Hole.Carrier.hidden
let_here span recursive name at bound body = refl

pub let_is : (span : Span) (recursive : Bool) (name : List ℕ) (at : Span) (bound0 bound : Expr) (body0 body : Expr) → bound0 ≡ bound → body0 ≡ body → roll-Expr record { span = span; form = Let recursive name at bound0 body0 } ≡ expr span (let_form recursive name at bound body)
let_is span recursive name at bound0 bound body0 body e f = rw (e, f) (let_here span recursive name at bound body)

if_here : (span : Span) (condition : Expr) (then : Expr) (otherwise : Expr) → roll-Expr record { span = span; form = If condition then otherwise } ≡ expr span (if_form condition then otherwise)
unfolding block.shape-the_row-Expr-0 block.hidden-the_row-Expr-0 denote.Hole.Carrier.hidden
if_here span condition then otherwise = refl

pub if_is : (span : Span) (condition0 condition : Expr) (then0 then : Expr) (otherwise0 otherwise : Expr) → condition0 ≡ condition → then0 ≡ then → otherwise0 ≡ otherwise → roll-Expr record { span = span; form = If condition0 then0 otherwise0 } ≡ expr span (if_form condition then otherwise)
if_is span condition0 condition then0 then otherwise0 otherwise e f g = rw (e, f, g) (if_here span condition then otherwise)

op_here : (span : Span) (op : Op) (at : Span) (left : Expr) (right : Expr) → roll-Expr record { span = span; form = Operation op at left right } ≡ expr span (op_form op at left right)
unfolding block.shape-the_row-Expr-0 block.hidden-the_row-Expr-0 denote.Hole.Carrier.hidden
op_here span op at left right = refl

pub op_is : (span : Span) (op : Op) (at : Span) (left0 left : Expr) (right0 right : Expr) → left0 ≡ left → right0 ≡ right → roll-Expr record { span = span; form = Operation op at left0 right0 } ≡ expr span (op_form op at left right)
op_is span op at left0 left right0 right e f = rw (e, f) (op_here span op at left right)

apply_here : (span : Span) (function : Expr) (argument : Expr) → roll-Expr record { span = span; form = Apply function argument } ≡ expr span (apply_form function argument)
unfolding block.shape-the_row-Expr-0 block.hidden-the_row-Expr-0 denote.Hole.Carrier.hidden
apply_here span function argument = refl

pub apply_is : (span : Span) (function0 function : Expr) (argument0 argument : Expr) → function0 ≡ function → argument0 ≡ argument → roll-Expr record { span = span; form = Apply function0 argument0 } ≡ expr span (apply_form function argument)
apply_is span function0 function argument0 argument e f = rw (e, f) (apply_here span function argument)

pair_here : (span : Span) (left : Expr) (right : Expr) → roll-Expr record { span = span; form = Pair left right } ≡ expr span (pair_form left right)
unfolding block.shape-the_row-Expr-0 block.hidden-the_row-Expr-0 denote.Hole.Carrier.hidden
pair_here span left right = refl

pub pair_is : (span : Span) (left0 left : Expr) (right0 right : Expr) → left0 ≡ left → right0 ≡ right → roll-Expr record { span = span; form = Pair left0 right0 } ≡ expr span (pair_form left right)
pair_is span left0 left right0 right e f = rw (e, f) (pair_here span left right)

choice_here : (span : Span) (dim : List ℕ) (at : Span) (left : Expr) (right : Expr) → roll-Expr record { span = span; form = Choice dim at left right } ≡ expr span (choice_form dim at left right)
unfolding block.shape-the_row-Expr-0 block.hidden-the_row-Expr-0 denote.Hole.Carrier.hidden
choice_here span dim at left right = refl

pub choice_is : (span : Span) (dim : List ℕ) (at : Span) (left0 left : Expr) (right0 right : Expr) → left0 ≡ left → right0 ≡ right → roll-Expr record { span = span; form = Choice dim at left0 right0 } ≡ expr span (choice_form dim at left right)
choice_is span dim at left0 left right0 right e f = rw (e, f) (choice_here span dim at left right)

match_here : (span : Span) (list empty : Expr) (first : List ℕ) (first_at : Span) (rest : List ℕ) (rest_at : Span) (cell : Expr) → roll-Expr record { span = span; form = Match list empty first first_at rest rest_at cell } ≡ expr span (match_form list empty first first_at rest rest_at cell)
unfolding block.shape-the_row-Expr-0 block.hidden-the_row-Expr-0 denote.Hole.Carrier.hidden
match_here span list empty first first_at rest rest_at cell = refl

pub match_is : (span : Span) (list0 list empty0 empty : Expr) (first : List ℕ) (first_at : Span) (rest : List ℕ) (rest_at : Span) (cell0 cell : Expr) → list0 ≡ list → empty0 ≡ empty → cell0 ≡ cell → roll-Expr record { span = span; form = Match list0 empty0 first first_at rest rest_at cell0 } ≡ expr span (match_form list empty first first_at rest rest_at cell)
match_is span list0 list empty0 empty first first_at rest rest_at cell0 cell e f g = rw (e, f, g) (match_here span list empty first first_at rest rest_at cell)
