use Rattle.std.specs.Prelude.{◌≡◌, ◌⊎◌, ℕ, List}
use Rattle.vt_lex.specs.declared.span.Span.{Span}
use Rattle.vt_syntax.specs.declared.core_expr.Core.{Core}
use Rattle.vt_syntax.specs.declared.core_expr.Form.{Form, Literal, Name, Const, Hole}
use Rattle.vt_syntax.specs.CoreTrees.{core, fun_of, app_of, let_of, let_rec_of, choice_of, fun_form, app_form, let_form, let_rec_form}
use Rattle.vt_type.specs.declared.plain.Plain.{Plain}
use Rattle.vt_type.specs.Plain.{IsWellFormed}
use Rattle.vt_type.specs.Constants.{Constant, ◌⇒◌}
use Rattle.vt_rules.specs.Env.{Env, ◌▸◌, Mono, Def, Rec}
use Rattle.vt_rules.specs.Typing.{Ty}

-- Which types an expression has together with a hole that is written in it, the one with the marked
-- number: `TyAt K mark env e type wanted` says that there is a typing of `e` with the first of the two
-- types in which the marked hole has the second. The rules are those of typing, one for each part in
-- which the hole may stand; the other parts are typed as ever. Where the hole stands in a bound
-- expression, its type is the one in the premise of that binding, and no use of the bound name matters.
pub data TyAt (K : List Constant) (mark : ℕ) : Env → Core → Plain → Plain → Type 0 where
  here : (env : Env) (at : Span) (type : Plain)
      → IsWellFormed type
      → TyAt K mark env (core mark at Hole) type type
  in_fun : (env : Env) (n : ℕ) (at : Span) (body : Core) (from to wanted : Plain)
      → IsWellFormed from
      → TyAt K mark (env ▸ Mono from) body to wanted
      → TyAt K mark env (core n at (fun_form body)) (from ⇒ to) wanted
  in_function : (env : Env) (n : ℕ) (at : Span) (function argument : Core) (from to wanted : Plain)
      → TyAt K mark env function (from ⇒ to) wanted
      → Ty K env argument from
      → TyAt K mark env (core n at (app_form function argument)) to wanted
  in_argument : (env : Env) (n : ℕ) (at : Span) (function argument : Core) (from to wanted : Plain)
      → Ty K env function (from ⇒ to)
      → TyAt K mark env argument from wanted
      → TyAt K mark env (core n at (app_form function argument)) to wanted
  in_let_bound : (env : Env) (n : ℕ) (at : Span) (bound body : Core) (some type wanted : Plain)
      → TyAt K mark env bound some wanted
      → Ty K (env ▸ Def env bound) body type
      → TyAt K mark env (core n at (let_form bound body)) type wanted
  in_let_body : (env : Env) (n : ℕ) (at : Span) (bound body : Core) (some type wanted : Plain)
      → Ty K env bound some
      → TyAt K mark (env ▸ Def env bound) body type wanted
      → TyAt K mark env (core n at (let_form bound body)) type wanted
  in_rec_bound : (env : Env) (n : ℕ) (at : Span) (name : List ℕ) (name_at : Span) (bound body : Core) (some type wanted : Plain)
      → IsWellFormed some
      → TyAt K mark (env ▸ Mono some) bound some wanted
      → Ty K (env ▸ Rec env bound) body type
      → TyAt K mark env (core n at (let_rec_form name name_at bound body)) type wanted
  in_rec_body : (env : Env) (n : ℕ) (at : Span) (name : List ℕ) (name_at : Span) (bound body : Core) (some type wanted : Plain)
      → IsWellFormed some
      → Ty K (env ▸ Mono some) bound some
      → TyAt K mark (env ▸ Rec env bound) body type wanted
      → TyAt K mark env (core n at (let_rec_form name name_at bound body)) type wanted

-- the hole of this number is written in a form, whose own number is `node`
abbrev pub HoldsHole : ℕ → ℕ → Form → Type 0
HoldsHole mark node (Literal literal) = ⊥
HoldsHole mark node (Name distance) = ⊥
HoldsHole mark node (Const id) = ⊥
HoldsHole mark node Hole = node ≡ mark
HoldsHole mark node (fun_of n at body) = HoldsHole mark n body
HoldsHole mark node (app_of n at function m by argument) = HoldsHole mark n function ⊎ HoldsHole mark m argument
HoldsHole mark node (let_of n at bound m by body) = HoldsHole mark n bound ⊎ HoldsHole mark m body
HoldsHole mark node (let_rec_of name name_at n at bound m by body) = HoldsHole mark n bound ⊎ HoldsHole mark m body
HoldsHole mark node (choice_of dim n at left m by right) = HoldsHole mark n left ⊎ HoldsHole mark m right
