use Rattle.std.proofs.Common.{◌≡◌, ℕ, ◌<◌, Option, refl, ap}
use Rattle.vt_dec.specs.declared.side.Side.{Side}
use Rattle.vt_lex.specs.declared.span.Span.{Span}
use Rattle.vt_syntax.specs.declared.core_expr.Form.{Form, Literal, Name, Const, Hole}
use Rattle.vt_syntax.specs.CoreTrees.{core, fun_of, app_of, let_of, let_rec_of, choice_of, fun_form, app_form, let_form, let_rec_form, choice_form}
use Rattle.vt_syntax.specs.Scoping.{HasDims}
use Rattle.vt_syntax.specs.Selection.{chosen, selected_form}

-- What is selected depends on the sides of the dimensions that stand in the program alone.

pub selected-alike : (count : ℕ) (one other : ℕ → Option Side) → ((dim : ℕ) → dim < count → one dim ≡ other dim)
    → (n : ℕ) (at : Span) (f : Form) → HasDims count f → selected_form one n at f ≡ selected_form other n at f
selected-alike count one other same n at (Literal literal) dims = refl
selected-alike count one other same n at (Name distance) dims = refl
selected-alike count one other same n at (Const id) dims = refl
selected-alike count one other same n at Hole dims = refl
selected-alike count one other same n at (fun_of m by body) dims = ap (λ b. core n at (fun_form b)) (selected-alike count one other same m by body dims)
selected-alike count one other same n at (app_of m by function o to argument) dims =
    let f = selected-alike count one other same m by function dims.0 in
    let g = selected-alike count one other same o to argument dims.1 in
    λ i. core n at (app_form (f i) (g i))
selected-alike count one other same n at (let_of m by bound o to body) dims =
    let f = selected-alike count one other same m by bound dims.0 in
    let g = selected-alike count one other same o to body dims.1 in
    λ i. core n at (let_form (f i) (g i))
selected-alike count one other same n at (let_rec_of name name_at m by bound o to body) dims =
    let f = selected-alike count one other same m by bound dims.0 in
    let g = selected-alike count one other same o to body dims.1 in
    λ i. core n at (let_rec_form name name_at (f i) (g i))
selected-alike count one other same n at (choice_of dim m by left o to right) dims =
    let f = selected-alike count one other same m by left dims.1 in
    let g = selected-alike count one other same o to right dims.2 in
    λ i. chosen (same dim dims.0 i) (f i) (g i) (core n at (choice_form dim (f i) (g i)))
