use Rattle.std.specs.Prelude.{◌≡◌, ◌⊎◌, ℕ, ◌<◌, List}
use Rattle.vt_syntax.specs.declared.core_expr.Core.{Core}
use Rattle.vt_syntax.specs.declared.core_expr.Form.{Form, Literal, Name, Const, Hole}
use Rattle.vt_syntax.specs.CoreTrees.{fun_of, app_of, let_of, let_rec_of, choice_of}
use Rattle.vt_type.specs.declared.plain.Plain.{Plain}
use Rattle.vt_type.specs.Constants.{Constant}
use Rattle.vt_rules.specs.Env.{Empty}
use Rattle.vt_rules.specs.TypingUpTo.{TyUpTo}

-- a program has a typing up to a number
abbrev pub IsTypedUpTo : List Constant → ℕ → Core → Type 0
IsTypedUpTo K k program = (type : Plain) × TyUpTo K k Empty program type

-- The first failing node: the least number up to which a program has no typing.
pub record FirstFailing (K : List Constant) (program : Core) (k : ℕ) : Type 0 where
  pub fails : IsTypedUpTo K k program → ⊥
  pub before : (m : ℕ) → m < k → IsTypedUpTo K m program

-- an application or a `let rec` of a form, whose own number is `node`, has the number `k`
abbrev pub HasJoin : ℕ → ℕ → Form → Type 0
HasJoin k node (Literal literal) = ⊥
HasJoin k node (Name distance) = ⊥
HasJoin k node (Const id) = ⊥
HasJoin k node Hole = ⊥
HasJoin k node (fun_of n at body) = HasJoin k n body
HasJoin k node (app_of n at function m by argument) = (node ≡ k) ⊎ (HasJoin k n function ⊎ HasJoin k m argument)
HasJoin k node (let_of n at bound m by body) = HasJoin k n bound ⊎ HasJoin k m body
HasJoin k node (let_rec_of name name_at n at bound m by body) = (node ≡ k) ⊎ (HasJoin k n bound ⊎ HasJoin k m body)
HasJoin k node (choice_of dim n at left m by right) = HasJoin k n left ⊎ HasJoin k m right
