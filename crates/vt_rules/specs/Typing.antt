use Rattle.std.specs.Prelude.{◌≡◌, ℕ, List, Some}
use Rattle.vt_lex.specs.declared.span.Span.{Span}
use Rattle.vt_syntax.specs.declared.core_expr.Core.{Core}
use Rattle.vt_syntax.specs.declared.core_expr.Form.{Literal, Name, Const, Hole}
use Rattle.vt_syntax.specs.declared.core_expr.Lit.{Lit}
use Rattle.vt_syntax.specs.declared.core_expr.Lit.TheVariants.{Number, Quoted, Truth}
use Rattle.vt_syntax.specs.CoreTrees.{core, fun_form, app_form, let_form, let_rec_form}
use Rattle.vt_type.specs.declared.plain.Plain.{Plain}
use Rattle.vt_type.specs.Plain.{IsWellFormed, IsInstance}
use Rattle.vt_type.specs.Constants.{Constant, HasClosed, int, bool, string, ◌⇒◌}
use Rattle.vt_rules.specs.Env.{Env, ◌▸◌, Mono, Def, Rec, entry_at}

-- the type of a literal
abbrev pub literal_type : Lit → Plain
literal_type (Number value) = int
literal_type Quoted = string
literal_type (Truth value) = bool

-- Which types an expression without choices has in an environment: the least relation closed under
-- these rules, after Damas and Milner (1982). It differs from theirs in `let`: a use of a bound name
-- takes any type that the bound expression has where it stands, and so nothing is generalised. Types
-- are well formed: where a rule takes one from nowhere, it asks for that.
pub data Ty (K : List Constant) : Env → Core → Plain → Type 0 where
  literal : (env : Env) (n : ℕ) (at : Span) (l : Lit)
      → Ty K env (core n at (Literal l)) (literal_type l)
  -- a constant has each instance of its closed type
  constant : (env : Env) (n : ℕ) (at : Span) (id : ℕ) (closed type : Plain)
      → HasClosed K id closed → IsInstance type closed
      → Ty K env (core n at (Const id)) type
  -- a hole has every type
  hole : (env : Env) (n : ℕ) (at : Span) (type : Plain)
      → IsWellFormed type
      → Ty K env (core n at Hole) type
  -- a name bound by `fun` has the one type of its entry
  name_mono : (env : Env) (n : ℕ) (at : Span) (distance : ℕ) (type : Plain)
      → entry_at env distance ≡ Some (Mono type)
      → Ty K env (core n at (Name distance)) type
  -- a name bound by `let` has each type of its expression
  name_def : (env : Env) (n : ℕ) (at : Span) (distance : ℕ) (inner : Env) (bound : Core) (type : Plain)
      → entry_at env distance ≡ Some (Def inner bound)
      → Ty K inner bound type
      → Ty K env (core n at (Name distance)) type
  -- a name bound by `let rec` has each type that its expression has where the name has it too
  name_rec : (env : Env) (n : ℕ) (at : Span) (distance : ℕ) (inner : Env) (bound : Core) (type : Plain)
      → entry_at env distance ≡ Some (Rec inner bound) → IsWellFormed type
      → Ty K (inner ▸ Mono type) bound type
      → Ty K env (core n at (Name distance)) type
  fun : (env : Env) (n : ℕ) (at : Span) (body : Core) (from to : Plain)
      → IsWellFormed from
      → Ty K (env ▸ Mono from) body to
      → Ty K env (core n at (fun_form body)) (from ⇒ to)
  app : (env : Env) (n : ℕ) (at : Span) (function argument : Core) (from to : Plain)
      → Ty K env function (from ⇒ to)
      → Ty K env argument from
      → Ty K env (core n at (app_form function argument)) to
  -- the bound expression has to have a type, whether the name is used or not
  let_in : (env : Env) (n : ℕ) (at : Span) (bound body : Core) (some type : Plain)
      → Ty K env bound some
      → Ty K (env ▸ Def env bound) body type
      → Ty K env (core n at (let_form bound body)) type
  let_rec : (env : Env) (n : ℕ) (at : Span) (name : List ℕ) (name_at : Span) (bound body : Core) (some type : Plain)
      → IsWellFormed some
      → Ty K (env ▸ Mono some) bound some
      → Ty K (env ▸ Rec env bound) body type
      → Ty K env (core n at (let_rec_form name name_at bound body)) type
