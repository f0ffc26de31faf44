use Rattle.std.specs.Prelude.{◌≡◌, ◌⊎◌, ◌↔◌, ℕ, ◌<◌, ◌≤◌, List, [], ◌∷◌, Some, slice_get, map}
use Rattle.vt_lex.specs.declared.span.Span.{Span}
use Rattle.vt_syntax.specs.declared.core_expr.Core.{Core}
use Rattle.vt_syntax.specs.declared.core_expr.Form.{Form, Literal, Name, Const, Hole}
use Rattle.vt_syntax.specs.declared.core_program.CoreProgram.{CoreProgram}
use Rattle.vt_syntax.specs.declared.leaf.Class.{Class}
use Rattle.vt_syntax.specs.declared.leaf.Class.TheVariants as class
use Rattle.vt_syntax.specs.declared.leaf.Leaf.{Leaf}
use Rattle.vt_syntax.specs.CoreTrees.{fun_of, app_of, let_of, let_rec_of, choice_of}
use Rattle.vt_syntax.specs.Programs.{whole}
use Rattle.vt_syntax.specs.Checking.{AreDifferent}

-- The leaves of a program: the literals, the names and the constants that its text has.

-- the number by which a leaf names its class
abbrev pub class_number : Class → ℕ
class_number class.Literal = 0
class_number class.Parameter = 1
class_number class.Defined = 2
class_number class.Constant = 3

-- a leaf, from its class and its number
abbrev pub leaf : Span → Class → ℕ → Leaf
leaf at class node = record { span = at; class = class_number class; node = node }

-- a literal, a name or a constant of a form, whose own number is `node`, has the number of the leaf
abbrev pub HasLeaf : ℕ → ℕ → Form → Type 0
HasLeaf leaf node (Literal literal) = node ≡ leaf
HasLeaf leaf node (Name distance) = node ≡ leaf
HasLeaf leaf node (Const id) = node ≡ leaf
HasLeaf leaf node Hole = ⊥
HasLeaf leaf node (fun_of n at body) = HasLeaf leaf n body
HasLeaf leaf node (app_of n at function m by argument) = HasLeaf leaf n function ⊎ HasLeaf leaf m argument
HasLeaf leaf node (let_of n at bound m by body) = HasLeaf leaf n bound ⊎ HasLeaf leaf m body
HasLeaf leaf node (let_rec_of name name_at n at bound m by body) = HasLeaf leaf n bound ⊎ HasLeaf leaf m body
HasLeaf leaf node (choice_of dim n at left m by right) = HasLeaf leaf n left ⊎ HasLeaf leaf m right

-- A constant that pairs, lists, `if` and `match` stand for. No text has its name.
abbrev pub IsImplied : ℕ → Type 0
IsImplied id = (13 ≤ id) × (id < 18)

-- A leaf of a form, whose own number and span are given, under binders of these classes, the newest one
-- first. A name has the class of its binder, and a constant is a leaf unless it is implied.
abbrev pub IsLeafIn : List Class → Leaf → ℕ → Span → Form → Type 0
IsLeafIn classes one node at (Literal literal) = one ≡ leaf at class.Literal node
IsLeafIn classes one node at (Name distance) = (own : Class) × (slice_get classes distance ≡ Some own) × (one ≡ leaf at own node)
IsLeafIn classes one node at (Const id) = (IsImplied id → ⊥) × (one ≡ leaf at class.Constant node)
IsLeafIn classes one node at Hole = ⊥
IsLeafIn classes one node at (fun_of n by body) = IsLeafIn (class.Parameter ∷ classes) one n by body
IsLeafIn classes one node at (app_of n by function m to argument) = IsLeafIn classes one n by function ⊎ IsLeafIn classes one m to argument
IsLeafIn classes one node at (let_of n by bound m to body) = IsLeafIn classes one n by bound ⊎ IsLeafIn (class.Defined ∷ classes) one m to body
IsLeafIn classes one node at (let_rec_of name name_at n by bound m to body) =
    IsLeafIn (class.Defined ∷ classes) one n by bound ⊎ IsLeafIn (class.Defined ∷ classes) one m to body
IsLeafIn classes one node at (choice_of dim n by left m to right) = IsLeafIn classes one n by left ⊎ IsLeafIn classes one m to right

-- a leaf of an expression
abbrev pub IsLeafOf : List Class → Leaf → Core → Type 0
IsLeafOf classes one c = IsLeafIn classes one c.node c.span c.form

-- the leaf stands at some place of the list
abbrev pub IsListed : List Leaf → Leaf → Type 0
IsListed leaves one = (place : ℕ) × (slice_get leaves place ≡ Some one)

-- no two of the leaves have one number
abbrev pub HaveDifferentNumbers : List Leaf → Type 0
HaveDifferentNumbers leaves = AreDifferent (map (λ one. one.node) leaves)

-- Exactly the leaves of a program are listed, each of them once.
pub record AreLeaves (program : CoreProgram) (leaves : List Leaf) : Type 0 where
  pub exactly : (one : Leaf) → IsLeafOf [] one (whole program) ↔ IsListed leaves one
  pub different : HaveDifferentNumbers leaves
