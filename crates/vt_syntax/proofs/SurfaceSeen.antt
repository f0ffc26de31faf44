use Rattle.std.proofs.Common.{◌≡◌, ℕ, Bool, List, refl}
use Rattle.vt_lex.specs.declared.span.Span.{Span}
use Rattle.vt_syntax.specs.declared.expr.Op.{Op}
use Rattle.vt_syntax.specs.declared.expr.Expr.{Expr}
use Rattle.vt_syntax.specs.declared.expr.Exprs.{Exprs, More}
use Rattle.vt_syntax.specs.declared.expr.ExprForm.{Fun, Let, If, Match, Op as Operation, Apply, Pair, Choice}
use Rattle.vt_syntax.specs.declared.expr.ExprForm.TheBlock as block
use Rattle.vt_syntax.specs.SurfaceTrees.{fun_form, let_form, if_form, match_form, op_form, apply_form, pair_form, choice_form, exprs}

-- The forms that code sees are the patterns of the definitions.

fun_here : (name : List ℕ) (at : Span) (body : Expr) → Fun name at body ≡ fun_form name at body
unfolding block.shape-the_row-Expr-0 block.hidden-the_row-Expr-0 denote.Hole.Carrier.hidden
fun_here name at body = refl

pub fun_seen : (name : List ℕ) (at : Span) (body seen : Expr) → seen ≡ body → Fun name at body ≡ fun_form name at seen
fun_seen name at body seen e = rw e (fun_here name at body)

let_here : (recursive : Bool) (name : List ℕ) (at : Span) (bound body : Expr) → Let recursive name at bound body ≡ let_form recursive name at bound body
unfolding block.shape-the_row-Expr-0 block.hidden-the_row-Expr-0 denote.Hole.Carrier.hidden
let_here recursive name at bound body = refl

pub let_seen : (recursive : Bool) (name : List ℕ) (at : Span) (bound body bound_seen body_seen : Expr) → bound_seen ≡ bound → body_seen ≡ body → Let recursive name at bound body ≡ let_form recursive name at bound_seen body_seen
let_seen recursive name at bound body bound_seen body_seen e f = rw (e, f) (let_here recursive name at bound body)

if_here : (e f g : Expr) → If e f g ≡ if_form e f g
unfolding block.shape-the_row-Expr-0 block.hidden-the_row-Expr-0 denote.Hole.Carrier.hidden
if_here e f g = refl

pub if_seen : (e f g x y z : Expr) → x ≡ e → y ≡ f → z ≡ g → If e f g ≡ if_form x y z
if_seen e f g x y z p q r = rw (p, q, r) (if_here e f g)

match_here : (e f : Expr) (first : List ℕ) (first_at : Span) (rest : List ℕ) (rest_at : Span) (g : Expr) → Match e f first first_at rest rest_at g ≡ match_form e f first first_at rest rest_at g
unfolding block.shape-the_row-Expr-0 block.hidden-the_row-Expr-0 denote.Hole.Carrier.hidden
match_here e f first first_at rest rest_at g = refl

pub match_seen : (e f : Expr) (first : List ℕ) (first_at : Span) (rest : List ℕ) (rest_at : Span) (g x y z : Expr) → x ≡ e → y ≡ f → z ≡ g → Match e f first first_at rest rest_at g ≡ match_form x y first first_at rest rest_at z
match_seen e f first first_at rest rest_at g x y z p q r = rw (p, q, r) (match_here e f first first_at rest rest_at g)

op_here : (op : Op) (at : Span) (e f : Expr) → Operation op at e f ≡ op_form op at e f
unfolding block.shape-the_row-Expr-0 block.hidden-the_row-Expr-0 denote.Hole.Carrier.hidden
op_here op at e f = refl

pub op_seen : (op : Op) (at : Span) (e f x y : Expr) → x ≡ e → y ≡ f → Operation op at e f ≡ op_form op at x y
op_seen op at e f x y p q = rw (p, q) (op_here op at e f)

apply_here : (e f : Expr) → Apply e f ≡ apply_form e f
unfolding block.shape-the_row-Expr-0 block.hidden-the_row-Expr-0 denote.Hole.Carrier.hidden
apply_here e f = refl

pub apply_seen : (e f x y : Expr) → x ≡ e → y ≡ f → Apply e f ≡ apply_form x y
apply_seen e f x y p q = rw (p, q) (apply_here e f)

pair_here : (e f : Expr) → Pair e f ≡ pair_form e f
unfolding block.shape-the_row-Expr-0 block.hidden-the_row-Expr-0 denote.Hole.Carrier.hidden
pair_here e f = refl

pub pair_seen : (e f x y : Expr) → x ≡ e → y ≡ f → Pair e f ≡ pair_form x y
pair_seen e f x y p q = rw (p, q) (pair_here e f)

choice_here : (name : List ℕ) (at : Span) (e f : Expr) → Choice name at e f ≡ choice_form name at e f
unfolding block.shape-the_row-Expr-0 block.hidden-the_row-Expr-0 denote.Hole.Carrier.hidden
choice_here name at e f = refl

pub choice_seen : (name : List ℕ) (at : Span) (e f x y : Expr) → x ≡ e → y ≡ f → Choice name at e f ≡ choice_form name at x y
choice_seen name at e f x y p q = rw (p, q) (choice_here name at e f)

more_here : (e : Expr) (es : Exprs) → More e es ≡ exprs e es
unfolding block.shape-the_row-Expr-0 block.hidden-the_row-Expr-0 denote.Hole.Carrier.hidden block.shape-the_row-Exprs-1 block.hidden-the_row-Exprs-1
more_here e es = refl

pub more_seen : (e x : Expr) (es xs : Exprs) → x ≡ e → xs ≡ es → More e es ≡ exprs x xs
more_seen e x es xs p q = rw (p, q) (more_here e es)
