use Rattle.std.specs.Prelude.{◌≡◌, ℕ, ◌≤◌, ◌<◌, List, Some}
use Rattle.vt_lex.specs.declared.span.Span.{Span}
use Rattle.vt_syntax.specs.declared.core_expr.Core.{Core}
use Rattle.vt_syntax.specs.declared.core_expr.Form.{Literal, Name, Const, Hole}
use Rattle.vt_syntax.specs.declared.core_expr.Lit.{Lit}
use Rattle.vt_syntax.specs.CoreTrees.{core, fun_form, app_form, let_form, let_rec_form}
use Rattle.vt_type.specs.declared.plain.Plain.{Plain}
use Rattle.vt_type.specs.Plain.{IsWellFormed, IsInstance}
use Rattle.vt_type.specs.Constants.{Constant, HasClosed, ◌⇒◌}
use Rattle.vt_rules.specs.Env.{Env, ◌▸◌, Mono, Def, Rec, entry_at}
use Rattle.vt_rules.specs.Typing.{literal_type}

-- Typing in which only the nodes up to a number meet their rules. A node with a larger number has any
-- type; but each of its parts has to have some type, in the environment in which its rule puts that
-- part. For `fun` and `let rec` this is so for some type of the bound name.
pub data TyUpTo (K : List Constant) (k : ℕ) : Env → Core → Plain → Type 0 where
  -- the rules of typing, for a node up to the number
  literal : (env : Env) (n : ℕ) (at : Span) (l : Lit)
      → n ≤ k
      → TyUpTo K k env (core n at (Literal l)) (literal_type l)
  constant : (env : Env) (n : ℕ) (at : Span) (id : ℕ) (closed type : Plain)
      → n ≤ k → HasClosed K id closed → IsInstance type closed
      → TyUpTo K k env (core n at (Const id)) type
  hole : (env : Env) (n : ℕ) (at : Span) (type : Plain)
      → n ≤ k → IsWellFormed type
      → TyUpTo K k env (core n at Hole) type
  name_mono : (env : Env) (n : ℕ) (at : Span) (distance : ℕ) (type : Plain)
      → n ≤ k → entry_at env distance ≡ Some (Mono type)
      → TyUpTo K k env (core n at (Name distance)) type
  name_def : (env : Env) (n : ℕ) (at : Span) (distance : ℕ) (inner : Env) (bound : Core) (type : Plain)
      → n ≤ k → entry_at env distance ≡ Some (Def inner bound)
      → TyUpTo K k inner bound type
      → TyUpTo K k env (core n at (Name distance)) type
  name_rec : (env : Env) (n : ℕ) (at : Span) (distance : ℕ) (inner : Env) (bound : Core) (type : Plain)
      → n ≤ k → entry_at env distance ≡ Some (Rec inner bound) → IsWellFormed type
      → TyUpTo K k (inner ▸ Mono type) bound type
      → TyUpTo K k env (core n at (Name distance)) type
  fun : (env : Env) (n : ℕ) (at : Span) (body : Core) (from to : Plain)
      → n ≤ k → IsWellFormed from
      → TyUpTo K k (env ▸ Mono from) body to
      → TyUpTo K k env (core n at (fun_form body)) (from ⇒ to)
  app : (env : Env) (n : ℕ) (at : Span) (function argument : Core) (from to : Plain)
      → n ≤ k
      → TyUpTo K k env function (from ⇒ to)
      → TyUpTo K k env argument from
      → TyUpTo K k env (core n at (app_form function argument)) to
  let_in : (env : Env) (n : ℕ) (at : Span) (bound body : Core) (some type : Plain)
      → n ≤ k
      → TyUpTo K k env bound some
      → TyUpTo K k (env ▸ Def env bound) body type
      → TyUpTo K k env (core n at (let_form bound body)) type
  let_rec : (env : Env) (n : ℕ) (at : Span) (name : List ℕ) (name_at : Span) (bound body : Core) (some type : Plain)
      → n ≤ k → IsWellFormed some
      → TyUpTo K k (env ▸ Mono some) bound some
      → TyUpTo K k (env ▸ Rec env bound) body type
      → TyUpTo K k env (core n at (let_rec_form name name_at bound body)) type
  -- a node above the number, by its parts
  literal_above : (env : Env) (n : ℕ) (at : Span) (l : Lit) (type : Plain)
      → k < n → IsWellFormed type
      → TyUpTo K k env (core n at (Literal l)) type
  constant_above : (env : Env) (n : ℕ) (at : Span) (id : ℕ) (type : Plain)
      → k < n → IsWellFormed type
      → TyUpTo K k env (core n at (Const id)) type
  hole_above : (env : Env) (n : ℕ) (at : Span) (type : Plain)
      → k < n → IsWellFormed type
      → TyUpTo K k env (core n at Hole) type
  name_above : (env : Env) (n : ℕ) (at : Span) (distance : ℕ) (type : Plain)
      → k < n → IsWellFormed type
      → TyUpTo K k env (core n at (Name distance)) type
  fun_above : (env : Env) (n : ℕ) (at : Span) (body : Core) (from to type : Plain)
      → k < n → IsWellFormed type → IsWellFormed from
      → TyUpTo K k (env ▸ Mono from) body to
      → TyUpTo K k env (core n at (fun_form body)) type
  app_above : (env : Env) (n : ℕ) (at : Span) (function argument : Core) (one other type : Plain)
      → k < n → IsWellFormed type
      → TyUpTo K k env function one
      → TyUpTo K k env argument other
      → TyUpTo K k env (core n at (app_form function argument)) type
  let_above : (env : Env) (n : ℕ) (at : Span) (bound body : Core) (one other type : Plain)
      → k < n → IsWellFormed type
      → TyUpTo K k env bound one
      → TyUpTo K k (env ▸ Def env bound) body other
      → TyUpTo K k env (core n at (let_form bound body)) type
  let_rec_above : (env : Env) (n : ℕ) (at : Span) (name : List ℕ) (name_at : Span) (bound body : Core) (from one other type : Plain)
      → k < n → IsWellFormed type → IsWellFormed from
      → TyUpTo K k (env ▸ Mono from) bound one
      → TyUpTo K k (env ▸ Rec env bound) body other
      → TyUpTo K k env (core n at (let_rec_form name name_at bound body)) type
