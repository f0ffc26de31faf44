use Rattle.std.proofs.Common.{◌≡◌, ℕ, List, ap, ap₂, sym, ◌∙◌}
use Rattle.vt_lex.specs.declared.span.Span.{Span}
use Rattle.vt_syntax.specs.declared.core_expr.Core.{Core}
use Rattle.vt_syntax.specs.declared.core_expr.Form.{Form, Fun, App, Let, LetRec, Choice}
use Rattle.vt_syntax.specs.CoreTrees.{core, fun_form, app_form, let_form, let_rec_form, choice_form}
use Rattle.vt_syntax.specs.declared.leaf.Leaf.{Leaf}
use Rattle.vt_syntax.specs.Varying.{varied, core_varied}
use Rattle.vt_syntax.proofs.CoreSeen.{fun_seen, app_seen, let_seen, let_rec_seen, choice_seen}

-- What is built from an expression's parts with their leaves varied is the expression with its leaves varied.

varied_along : (leaves : List Leaf) (whole : Core) (form : Form) → whole.form ≡ form → varied leaves whole.node whole.span form ≡ core_varied leaves whole
varied_along leaves whole form is = ap (varied leaves whole.node whole.span) (sym is)

pub fun_varied : (leaves : List Leaf) (whole e x v : Core) → whole.form ≡ Fun e → x ≡ e → v ≡ core_varied leaves x → core whole.node whole.span (fun_form v) ≡ core_varied leaves whole
fun_varied leaves whole e x v is p made =
    ap (λ a. core whole.node whole.span (fun_form a)) made ∙ varied_along leaves whole (fun_form x) (is ∙ fun_seen e x p)

pub app_varied : (leaves : List Leaf) (whole e f x y v w : Core) → whole.form ≡ App e f → x ≡ e → y ≡ f → v ≡ core_varied leaves x → w ≡ core_varied leaves y → core whole.node whole.span (app_form v w) ≡ core_varied leaves whole
app_varied leaves whole e f x y v w is p q made also =
    ap₂ (λ a b. core whole.node whole.span (app_form a b)) made also ∙ varied_along leaves whole (app_form x y) (is ∙ app_seen e f x y p q)

pub let_varied : (leaves : List Leaf) (whole e f x y v w : Core) → whole.form ≡ Let e f → x ≡ e → y ≡ f → v ≡ core_varied leaves x → w ≡ core_varied leaves y → core whole.node whole.span (let_form v w) ≡ core_varied leaves whole
let_varied leaves whole e f x y v w is p q made also =
    ap₂ (λ a b. core whole.node whole.span (let_form a b)) made also ∙ varied_along leaves whole (let_form x y) (is ∙ let_seen e f x y p q)

pub let_rec_varied : (leaves : List Leaf) (whole : Core) (name copy : List ℕ) (at : Span) (e f x y v w : Core) → whole.form ≡ LetRec name at e f → copy ≡ name → x ≡ e → y ≡ f → v ≡ core_varied leaves x → w ≡ core_varied leaves y → core whole.node whole.span (let_rec_form copy at v w) ≡ core_varied leaves whole
let_rec_varied leaves whole name copy at e f x y v w is same p q made also =
    ap (λ n. core whole.node whole.span (let_rec_form n at v w)) same
    ∙ ap₂ (λ a b. core whole.node whole.span (let_rec_form name at a b)) made also
    ∙ varied_along leaves whole (let_rec_form name at x y) (is ∙ let_rec_seen name at e f x y p q)

pub choice_varied : (leaves : List Leaf) (whole : Core) (dim : ℕ) (e f x y v w : Core) → whole.form ≡ Choice dim e f → x ≡ e → y ≡ f → v ≡ core_varied leaves x → w ≡ core_varied leaves y → core whole.node whole.span (choice_form dim v w) ≡ core_varied leaves whole
choice_varied leaves whole dim e f x y v w is p q made also =
    ap₂ (λ a b. core whole.node whole.span (choice_form dim a b)) made also
    ∙ varied_along leaves whole (choice_form dim x y) (is ∙ choice_seen dim e f x y p q)
