use Rattle.std.proofs.Common.{◌≡◌, ℕ, List, refl}
use Rattle.vt_lex.specs.declared.span.Span.{Span}
use Rattle.vt_syntax.specs.declared.core_expr.Core.{Core}
use Rattle.vt_syntax.specs.declared.core_expr.Form.TheViews.{roll-Core}
use Rattle.vt_syntax.specs.declared.core_expr.Form.{Fun, App, Let, LetRec, Choice}
use Rattle.vt_syntax.specs.declared.core_expr.Form.TheBlock as block
use Rattle.vt_syntax.specs.CoreTrees.{core, fun_form, app_form, let_form, let_rec_form, choice_form}

-- The core expressions that the code makes are the patterns of the definitions.

fun_here : (node : ℕ) (span : Span) (body : Core) → roll-Core record { node = node; span = span; form = Fun body } ≡ core node span (fun_form body)
unfolding block.shape-the_row-Core-0 block.hidden-the_row-Core-0 denote.Hole.Carrier.hidden
fun_here node span body = refl

pub fun_is : (node : ℕ) (span : Span) (body0 body : Core) → body0 ≡ body → roll-Core record { node = node; span = span; form = Fun body0 } ≡ core node span (fun_form body)
fun_is node span body0 body e = rw e (fun_here node span body)

app_here : (node : ℕ) (span : Span) (function : Core) (argument : Core) → roll-Core record { node = node; span = span; form = App function argument } ≡ core node span (app_form function argument)
unfolding block.shape-the_row-Core-0 block.hidden-the_row-Core-0 denote.Hole.Carrier.hidden
app_here node span function argument = refl

pub app_is : (node : ℕ) (span : Span) (function0 function : Core) (argument0 argument : Core) → function0 ≡ function → argument0 ≡ argument → roll-Core record { node = node; span = span; form = App function0 argument0 } ≡ core node span (app_form function argument)
app_is node span function0 function argument0 argument e f = rw (e, f) (app_here node span function argument)

let_here : (node : ℕ) (span : Span) (bound : Core) (body : Core) → roll-Core record { node = node; span = span; form = Let bound body } ≡ core node span (let_form bound body)
unfolding block.shape-the_row-Core-0 block.hidden-the_row-Core-0 denote.Hole.Carrier.hidden
let_here node span bound body = refl

pub let_is : (node : ℕ) (span : Span) (bound0 bound : Core) (body0 body : Core) → bound0 ≡ bound → body0 ≡ body → roll-Core record { node = node; span = span; form = Let bound0 body0 } ≡ core node span (let_form bound body)
let_is node span bound0 bound body0 body e f = rw (e, f) (let_here node span bound body)

let_rec_here : (node : ℕ) (span : Span) (name : List ℕ) (at : Span) (bound : Core) (body : Core) → roll-Core record { node = node; span = span; form = LetRec name at bound body } ≡ core node span (let_rec_form name at bound body)
unfolding block.shape-the_row-Core-0 block.hidden-the_row-Core-0 denote.Hole.Carrier.hidden
let_rec_here node span name at bound body = refl

pub let_rec_is : (node : ℕ) (span : Span) (name : List ℕ) (at : Span) (bound0 bound : Core) (body0 body : Core) → bound0 ≡ bound → body0 ≡ body → roll-Core record { node = node; span = span; form = LetRec name at bound0 body0 } ≡ core node span (let_rec_form name at bound body)
let_rec_is node span name at bound0 bound body0 body e f = rw (e, f) (let_rec_here node span name at bound body)

choice_here : (node : ℕ) (span : Span) (dim : ℕ) (left : Core) (right : Core) → roll-Core record { node = node; span = span; form = Choice dim left right } ≡ core node span (choice_form dim left right)
unfolding block.shape-the_row-Core-0 block.hidden-the_row-Core-0 denote.Hole.Carrier.hidden
choice_here node span dim left right = refl

pub choice_is : (node : ℕ) (span : Span) (dim : ℕ) (left0 left : Core) (right0 right : Core) → left0 ≡ left → right0 ≡ right → roll-Core record { node = node; span = span; form = Choice dim left0 right0 } ≡ core node span (choice_form dim left right)
choice_is node span dim left0 left right0 right e f = rw (e, f) (choice_here node span dim left right)
