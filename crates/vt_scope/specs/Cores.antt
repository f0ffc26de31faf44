use Rattle.std.specs.Prelude.{◌≡◌, ℕ, suc, ◌-◌, ◌≤◌, Bool, true, false, List, [], ◌∷◌, ◌++◌, length, Some, None, slice_get}
use Rattle.vt_lex.specs.declared.span.Span.{Span}
use Rattle.vt_type.specs.Constants.{Constant, HasName}
use Rattle.vt_syntax.specs.declared.expr.Op.{Op}
use Rattle.vt_syntax.specs.declared.expr.Op.TheVariants as op
use Rattle.vt_syntax.specs.declared.expr.Expr.{Expr}
use Rattle.vt_syntax.specs.declared.expr.Exprs.{Exprs, Nil}
use Rattle.vt_syntax.specs.declared.expr.ExprForm as form
use Rattle.vt_syntax.specs.declared.program.Def.{Def}
use Rattle.vt_syntax.specs.declared.program.Program.{Program}
use Rattle.vt_syntax.specs.declared.core_expr.Core.{Core}
use Rattle.vt_syntax.specs.declared.core_expr.Form.{Form, Literal, Name, Const, Hole}
use Rattle.vt_syntax.specs.declared.core_expr.Lit.TheVariants as lit
use Rattle.vt_syntax.specs.declared.core_program.CoreDef.{CoreDef}
use Rattle.vt_syntax.specs.declared.core_program.CoreProgram.{CoreProgram}
use Rattle.vt_syntax.specs.declared.leaf.Leaf.{Leaf}
use Rattle.vt_syntax.specs.declared.leaf.Class.TheVariants as class
use Rattle.vt_syntax.specs.Leaves.{leaf, IsImplied}
use Rattle.vt_syntax.specs.SurfaceTrees as surface
use Rattle.vt_syntax.specs.SurfaceTrees.{expr, exprs, exprs_of}
use Rattle.vt_syntax.specs.CoreTrees.{core, fun_form, app_form, let_form, let_rec_form, choice_form}
use Rattle.vt_scope.specs.declared.scope.Binder.{Binder}
use Rattle.vt_scope.specs.declared.scope.Found.{Found}
use Rattle.vt_scope.specs.Scopes.{parameter, defined, bound_under, found}

-- The core of a program as it is written: `if`, `match`, operators, pairs and lists are constants that
-- are applied, names are their binders or constants, and the nodes have their numbers.

-- the constant of an operator
abbrev pub op_id : Op → ℕ
op_id op.Add = 0
op_id op.Sub = 1
op_id op.Mul = 2
op_id op.Cat = 3
op_id op.Equal = 4
op_id op.Less = 5
op_id op.Cons = 6
op_id op.And = 7
op_id op.Or = 8

-- the constants that no text writes
abbrev pub pair_id : ℕ
pair_id = 13

abbrev pub nil_id : ℕ
nil_id = 14

abbrev pub cons_id : ℕ
cons_id = 15

abbrev pub cond_id : ℕ
cond_id = 16

abbrev pub split_id : ℕ
split_id = 17

-- a table that has all of these
abbrev pub HasImplied : List Constant → Type 0
HasImplied constants = 18 ≤ length constants

-- a table that names none of them
abbrev pub NamesNoImplied : List Constant → Type 0
NamesNoImplied constants = (id : ℕ) (name : List ℕ) → IsImplied id → HasName constants id name → ⊥

-- one expression applied to another, and a function, under a number and a span
abbrev pub applied : ℕ → Span → Core → Core → Core
applied node at function argument = core node at (app_form function argument)

abbrev pub function : ℕ → Span → Core → Core
function node at body = core node at (fun_form body)

abbrev pub constant : ℕ → Span → ℕ → Core
constant node at id = core node at (Const id)

-- a `let` or a `let rec`
abbrev pub bound_form : Bool → List ℕ → Span → Core → Core → Form
bound_form true name name_at bound body = let_rec_form name name_at bound body
bound_form false name name_at bound body = let_form bound body

-- from the start of one span to the end of another
abbrev pub up_to : Span → Span → Span
up_to from whole = record { start = from.start; end = whole.end }

-- the span of what is left of a list that is written out: from its first item, or the closing bracket
abbrev pub left_span : Span → Exprs → Span
left_span whole Nil = record { start = whole.end - 1; end = whole.end }
left_span whole (exprs_of at first rest) = up_to at whole

-- The core of an expression under these binders, with its nodes numbered from a first number on, its
-- leaves in the order of the text, and the first number that is free after it. A node comes after its
-- parts, and a `let` between its bound expression and its body. `dims` has the names of the dimensions.
mutual
  pub data IsCore (constants : List Constant) (dims : List (List ℕ)) : List Binder → ℕ → Expr → Core → List Leaf → ℕ → Type 0 where
    number : (s : List Binder) (n : ℕ) (at : Span) (value : ℕ)
        → IsCore constants dims s n (expr at (form.Number value)) (core n at (Literal (lit.Number value))) (leaf at class.Literal n ∷ []) (suc n)
    quoted : (s : List Binder) (n : ℕ) (at : Span)
        → IsCore constants dims s n (expr at form.Quoted) (core n at (Literal lit.Quoted)) (leaf at class.Literal n ∷ []) (suc n)
    truth : (s : List Binder) (n : ℕ) (at : Span) (value : Bool)
        → IsCore constants dims s n (expr at (form.Truth value)) (core n at (Literal (lit.Truth value))) (leaf at class.Literal n ∷ []) (suc n)
    bound : (s : List Binder) (n : ℕ) (at : Span) (name : List ℕ) (binder : Found)
        → found s name ≡ Some binder
        → IsCore constants dims s n (expr at (form.Name name)) (core n at (Name binder.distance)) (leaf at binder.class n ∷ []) (suc n)
    named : (s : List Binder) (n : ℕ) (at : Span) (name : List ℕ) (id : ℕ)
        → found s name ≡ None → HasName constants id name
        → IsCore constants dims s n (expr at (form.Name name)) (constant n at id) (leaf at class.Constant n ∷ []) (suc n)
    hole : (s : List Binder) (n : ℕ) (at : Span)
        → IsCore constants dims s n (expr at form.Hole) (core n at Hole) [] (suc n)
    fun : (s : List Binder) (n m : ℕ) (at : Span) (name : List ℕ) (name_at : Span) (e : Expr) (c : Core) (ls : List Leaf)
        → IsCore constants dims (parameter name ∷ s) n e c ls m
        → IsCore constants dims s n (expr at (surface.fun_form name name_at e)) (function m at c) ls (suc m)
    let_in : (s : List Binder) (n m k : ℕ) (at : Span) (recursive : Bool) (name : List ℕ) (name_at : Span) (e b : Expr) (c d : Core) (ls ks : List Leaf)
        → IsCore constants dims (bound_under recursive name s) n e c ls m → IsCore constants dims (defined name ∷ s) (suc m) b d ks k
        → IsCore constants dims s n (expr at (surface.let_form recursive name name_at e b)) (core m at (bound_form recursive name name_at c d)) (ls ++ ks) k
    if_else : (s : List Binder) (n i j k : ℕ) (at : Span) (e f g : Expr) (c d h : Core) (ls ks js : List Leaf)
        → IsCore constants dims s (suc n) e c ls i → IsCore constants dims s (suc i) f d ks j → IsCore constants dims s (suc j) g h js k
        → IsCore constants dims s n (expr at (surface.if_form e f g))
        (applied k at (applied j at (applied i at (constant n at cond_id) c) d) h) (ls ++ ks ++ js) (suc k)
    match_list : (s : List Binder) (n i j k : ℕ) (at : Span) (first : List ℕ) (first_at : Span) (rest : List ℕ) (rest_at : Span)
        (e f g : Expr) (c d h : Core) (ls ks js : List Leaf)
        → IsCore constants dims s (suc n) e c ls i → IsCore constants dims s (suc i) f d ks j
        → IsCore constants dims (parameter rest ∷ parameter first ∷ s) (suc j) g h js k
        → IsCore constants dims s n (expr at (surface.match_form e f first first_at rest rest_at g))
        (applied (suc (suc k)) at (applied j at (applied i at (constant n at split_id) c) d)
        (function (suc k) (up_to first_at at) (function k (up_to first_at at) h)))
        (ls ++ ks ++ js) (suc (suc (suc k)))
    operation : (s : List Binder) (n i k : ℕ) (at : Span) (op : Op) (op_at : Span) (e f : Expr) (c d : Core) (ls ks : List Leaf)
        → IsCore constants dims s (suc n) e c ls i → IsCore constants dims s (suc i) f d ks k
        → IsCore constants dims s n (expr at (surface.op_form op op_at e f))
        (applied k at (applied i at (constant n op_at (op_id op)) c) d) (ls ++ leaf op_at class.Constant n ∷ [] ++ ks) (suc k)
    apply : (s : List Binder) (n i k : ℕ) (at : Span) (e f : Expr) (c d : Core) (ls ks : List Leaf)
        → IsCore constants dims s n e c ls i → IsCore constants dims s i f d ks k
        → IsCore constants dims s n (expr at (surface.apply_form e f)) (applied k at c d) (ls ++ ks) (suc k)
    pair : (s : List Binder) (n i k : ℕ) (at : Span) (e f : Expr) (c d : Core) (ls ks : List Leaf)
        → IsCore constants dims s (suc n) e c ls i → IsCore constants dims s (suc i) f d ks k
        → IsCore constants dims s n (expr at (surface.pair_form e f)) (applied k at (applied i at (constant n at pair_id) c) d) (ls ++ ks) (suc k)
    list : (s : List Binder) (n m : ℕ) (at : Span) (items : Exprs) (c : Core) (ls : List Leaf)
        → AreItems constants dims s at at n items c ls m
        → IsCore constants dims s n (expr at (form.List items)) c ls m
    choice : (s : List Binder) (n i k : ℕ) (at : Span) (name : List ℕ) (dim : ℕ) (name_at : Span) (e f : Expr) (c d : Core) (ls ks : List Leaf)
        → slice_get dims dim ≡ Some name
        → IsCore constants dims s n e c ls i → IsCore constants dims s i f d ks k
        → IsCore constants dims s n (expr at (surface.choice_form name name_at e f)) (core k at (choice_form dim c d)) (ls ++ ks) (suc k)

  -- the items that are left of a list, from the span of the whole and the span of what is left
  pub data AreItems (constants : List Constant) (dims : List (List ℕ)) : List Binder → Span → Span → ℕ → Exprs → Core → List Leaf → ℕ → Type 0 where
    none : (s : List Binder) (whole here : Span) (n : ℕ)
        → AreItems constants dims s whole here n Nil (constant n here nil_id) [] (suc n)
    more : (s : List Binder) (whole here : Span) (n i k : ℕ) (e : Expr) (es : Exprs) (c d : Core) (ls ks : List Leaf)
        → IsCore constants dims s (suc n) e c ls i → AreItems constants dims s whole (left_span whole es) (suc i) es d ks k
        → AreItems constants dims s whole here n (exprs e es) (applied k here (applied i here (constant n whole cons_id) c) d) (ls ++ ks) (suc k)

-- a definition of the core, from its number and its body
abbrev pub core_def : Def → ℕ → Core → CoreDef
core_def def node body = record { name = def.name; name_span = def.name_span; node = node; recursive = def.recursive; body = body }

-- The core of definitions and then an expression. A definition has its number after its body.
pub data AreNested (constants : List Constant) (dims : List (List ℕ)) : List Binder → ℕ → List Def → Expr → List CoreDef → Core → List Leaf → ℕ → Type 0 where
  main : (s : List Binder) (n m : ℕ) (e : Expr) (c : Core) (ls : List Leaf)
      → IsCore constants dims s n e c ls m
      → AreNested constants dims s n [] e [] c ls m
  def : (s : List Binder) (n m k : ℕ) (def : Def) (defs : List Def) (e : Expr) (c : Core) (cores : List CoreDef) (main : Core) (ls ks : List Leaf)
      → IsCore constants dims (bound_under def.recursive def.name s) n def.body c ls m
      → AreNested constants dims (defined def.name ∷ s) (suc m) defs e cores main ks k
      → AreNested constants dims s n (def ∷ defs) e (core_def def m c ∷ cores) main (ls ++ ks) k

-- The core of a program, numbered from 1 on, with its leaves.
pub record IsCoreProgram (constants : List Constant) (dims : List (List ℕ)) (program : Program) (core : CoreProgram) (leaves : List Leaf) : Type 0 where
  pub next : ℕ
  pub nested : AreNested constants dims [] 1 program.defs program.main core.defs core.main leaves next
