use Rattle.std.proofs.Common.{◌≡◌, ℕ, List, refl}
use Rattle.vt_lex.specs.declared.span.Span.{Span}
use Rattle.vt_syntax.specs.declared.core_expr.Core.{Core}
use Rattle.vt_syntax.specs.declared.core_expr.Form.{Fun, App, Let, LetRec, Choice}
use Rattle.vt_syntax.specs.declared.core_expr.Form.TheBlock as block
use Rattle.vt_syntax.specs.CoreTrees.{fun_form, app_form, let_form, let_rec_form, choice_form}

-- The forms of the core that code sees are the patterns of the definitions.

fun_here : (body : Core) → Fun body ≡ fun_form body
unfolding block.shape-the_row-Core-0 block.hidden-the_row-Core-0 denote.Hole.Carrier.hidden
fun_here body = refl

pub fun_seen : (body seen : Core) → seen ≡ body → Fun body ≡ fun_form seen
fun_seen body seen p = rw p (fun_here body)

app_here : (e f : Core) → App e f ≡ app_form e f
unfolding block.shape-the_row-Core-0 block.hidden-the_row-Core-0 denote.Hole.Carrier.hidden
app_here e f = refl

pub app_seen : (e f x y : Core) → x ≡ e → y ≡ f → App e f ≡ app_form x y
app_seen e f x y p q = rw (p, q) (app_here e f)

let_here : (e f : Core) → Let e f ≡ let_form e f
unfolding block.shape-the_row-Core-0 block.hidden-the_row-Core-0 denote.Hole.Carrier.hidden
let_here e f = refl

pub let_seen : (e f x y : Core) → x ≡ e → y ≡ f → Let e f ≡ let_form x y
let_seen e f x y p q = rw (p, q) (let_here e f)

let_rec_here : (name : List ℕ) (at : Span) (e f : Core) → LetRec name at e f ≡ let_rec_form name at e f
unfolding block.shape-the_row-Core-0 block.hidden-the_row-Core-0 denote.Hole.Carrier.hidden
let_rec_here name at e f = refl

pub let_rec_seen : (name : List ℕ) (at : Span) (e f x y : Core) → x ≡ e → y ≡ f → LetRec name at e f ≡ let_rec_form name at x y
let_rec_seen name at e f x y p q = rw (p, q) (let_rec_here name at e f)

choice_here : (dim : ℕ) (e f : Core) → Choice dim e f ≡ choice_form dim e f
unfolding block.shape-the_row-Core-0 block.hidden-the_row-Core-0 denote.Hole.Carrier.hidden
choice_here dim e f = refl

pub choice_seen : (dim : ℕ) (e f x y : Core) → x ≡ e → y ≡ f → Choice dim e f ≡ choice_form dim x y
choice_seen dim e f x y p q = rw (p, q) (choice_here dim e f)
