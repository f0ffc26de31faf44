use Rattle.std.specs.Prelude.{ℕ, suc, ◌<◌, ◌≤◌, List, [], ◌∷◌}
use Rattle.vt_syntax.specs.declared.core_expr.Core.{Core}
use Rattle.vt_syntax.specs.declared.core_expr.Form.{Form, Literal, Name, Const, Hole}
use Rattle.vt_syntax.specs.CoreTrees.{fun_of, app_of, let_of, let_rec_of, choice_of}
use Rattle.vt_syntax.specs.Checking.{numbers_of}
use Rattle.std.specs.List.{All}
use Rattle.vt_infer.specs.Places.{Place, At, Bound, Looped}

-- No choice stands in the form, and its nodes have numbers from a first one on and below a last one, in
-- checking order: a node comes after its parts, and these from left to right, but a `let` before its body.
abbrev pub IsNumbered : ℕ → ℕ → Form → ℕ → Type 0
IsNumbered first node (Literal literal) last = (first ≤ node) × (node < last)
IsNumbered first node (Name distance) last = (first ≤ node) × (node < last)
IsNumbered first node (Const id) last = (first ≤ node) × (node < last)
IsNumbered first node Hole last = (first ≤ node) × (node < last)
IsNumbered first node (fun_of n at body) last = IsNumbered first n body node × (node < last)
IsNumbered first node (app_of n at function m by argument) last =
    (middle : ℕ) × IsNumbered first n function middle × IsNumbered middle m argument node × (node < last)
IsNumbered first node (let_of n at bound m by body) last = IsNumbered first n bound node × IsNumbered (suc node) m body last
IsNumbered first node (let_rec_of name name_at n at bound m by body) last = IsNumbered first n bound node × IsNumbered (suc node) m body last
IsNumbered first node (choice_of dim n at left m by right) last = ⊥

abbrev pub IsNumberedCore : ℕ → Core → ℕ → Type 0
IsNumberedCore first e last = IsNumbered first e.node e.form last

-- the nodes of the expressions that names stand for come before a number
abbrev pub AreBefore : ℕ → List Place → Type 0
AreBefore first [] = Unit {0}
AreBefore first (At cell ∷ places) = AreBefore first places
AreBefore first (Bound bound ∷ places) = All (λ number. number < first) (numbers_of bound) × AreBefore first places
AreBefore first (Looped bound ∷ places) = All (λ number. number < first) (numbers_of bound) × AreBefore first places
