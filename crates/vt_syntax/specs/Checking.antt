use Rattle.std.specs.Prelude.{◌≡◌, ◌≢◌, ◌⊎◌, ℕ, ◌<◌, ◌≤◌, List, [], ◌∷◌, ◌++◌, All, AllPairs, Contains, Some}
use Rattle.vt_dec.specs.declared.side.Side.{Side}
use Rattle.vt_syntax.specs.declared.core_expr.Core.{Core}
use Rattle.vt_syntax.specs.declared.core_expr.Form.{Form, Literal, Name, Const, Hole}
use Rattle.vt_syntax.specs.declared.core_program.CoreProgram.{CoreProgram}
use Rattle.vt_syntax.specs.CoreTrees.{fun_of, app_of, let_of, let_rec_of, choice_of}
use Rattle.vt_syntax.specs.Programs.{whole}
use Rattle.vt_syntax.specs.Selection.{selected_core_program}

-- The order in which nodes are checked: a node after its parts, and these from left to right; but a
-- `let` or `let rec` after its bound expression and before its body.

-- the numbers of an expression's nodes in this order, from its number and its form
abbrev pub numbers : ℕ → Form → List ℕ
numbers node (Literal literal) = node ∷ []
numbers node (Name distance) = node ∷ []
numbers node (Const id) = node ∷ []
numbers node Hole = node ∷ []
numbers node (fun_of n at body) = numbers n body ++ node ∷ []
numbers node (app_of n at function m by argument) = numbers n function ++ numbers m argument ++ node ∷ []
numbers node (let_of n at bound m by body) = numbers n bound ++ node ∷ numbers m body
numbers node (let_rec_of name name_at n at bound m by body) = numbers n bound ++ node ∷ numbers m body
numbers node (choice_of dim n at left m by right) = numbers n left ++ numbers m right ++ node ∷ []

abbrev pub numbers_of : Core → List ℕ
numbers_of c = numbers c.node c.form

-- each number is larger than those before it
abbrev pub Rise : List ℕ → Type 0
Rise numbers = AllPairs (λ one other. one < other) numbers

-- no number is that of two nodes
abbrev pub AreDifferent : List ℕ → Type 0
AreDifferent numbers = AllPairs (λ one other. one ≢ other) numbers

-- Whichever side is taken in each dimension, the numbers of what is left rise in checking order.
abbrev pub IsInCheckingOrder : CoreProgram → Type 0
IsInCheckingOrder program = (taken : ℕ → Side) → Rise (numbers_of (whole (selected_core_program (λ dim. Some (taken dim)) program)))

-- No number of the whole program is that of two nodes.
abbrev pub HasDistinctNumbers : CoreProgram → Type 0
HasDistinctNumbers program = AreDifferent (numbers_of (whole program))

-- the greater of two numbers
pub record IsGreater (result one other : ℕ) : Type 0 where
  pub either : (result ≡ one) ⊎ (result ≡ other)
  pub left : one ≤ result
  pub right : other ≤ result

-- the greatest of some numbers
pub record IsGreatest (number : ℕ) (numbers : List ℕ) : Type 0 where
  pub one_of : Contains numbers number
  pub greatest : All (λ other. other ≤ number) numbers
