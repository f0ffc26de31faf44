use Rattle.std.specs.Prelude.{◌≡◌, ℕ, ◌||◌, nat_lt, is_some, if◌then◌else◌, List, [], ◌∷◌, ◌++◌, length, Option, Some, None}
use Rattle.std.specs.List.{list_any}
use Rattle.std.specs.Str.{bytes_eq}
use Rattle.vt_lex.specs.declared.span.Span.{Span}
use Rattle.vt_type.specs.Constants.{Constant}
use Rattle.vt_syntax.specs.declared.expr.Expr.{Expr}
use Rattle.vt_syntax.specs.declared.expr.Exprs.{Exprs, Nil}
use Rattle.vt_syntax.specs.declared.expr.ExprForm.{ExprForm}
use Rattle.vt_syntax.specs.declared.expr.ExprForm as form
use Rattle.vt_syntax.specs.declared.program.Def.{Def}
use Rattle.vt_syntax.specs.declared.program.Program.{Program}
use Rattle.vt_syntax.specs.SurfaceTrees.{fun_of, let_of, if_of, match_of, op_of, apply_of, pair_of, choice_of, exprs_of}
use Rattle.vt_scope.specs.declared.fault.ScopeFault.{ScopeFault}
use Rattle.vt_scope.specs.declared.fault.ScopeFault.TheVariants.{Unbound, TooManyDimensions, Memory}
use Rattle.vt_scope.specs.declared.scope.Binder.{Binder}
use Rattle.vt_scope.specs.Scopes.{parameter, defined, bound_under, found, is_constant}

-- What scope meets in a text, in the order of the text, and what it refuses. Each alternative of a
-- choice is looked at, also one that no decision reaches.

-- a name that nothing binds, or a dimension with the span of its token
pub data Event : Type 0 where
  Nameless : (at : Span) → Event
  Dimension : (name : List ℕ) (at : Span) → Event

-- a name that no binder around it binds, and that no constant has
abbrev pub name_events : List Constant → List Binder → Span → List ℕ → List Event
name_events constants scope at name = if is_some (found scope name) || is_constant constants name then [] else (Nameless at ∷ [])

abbrev mutual
  pub events : List Constant → List Binder → Span → ExprForm → List Event
  events constants scope at (form.Number value) = []
  events constants scope at form.Quoted = []
  events constants scope at (form.Truth value) = []
  events constants scope at (form.Name name) = name_events constants scope at name
  events constants scope at form.Hole = []
  events constants scope at (fun_of name name_at by body) = events constants (parameter name ∷ scope) by body
  events constants scope at (let_of recursive name name_at by bound to body) =
      events constants (bound_under recursive name scope) by bound ++ events constants (defined name ∷ scope) to body
  events constants scope at (if_of by condition to met on unmet) =
      events constants scope by condition ++ events constants scope to met ++ events constants scope on unmet
  events constants scope at (match_of by list to empty first first_at rest rest_at on cell) =
      events constants scope by list ++ events constants scope to empty ++ events constants (parameter rest ∷ parameter first ∷ scope) on cell
  events constants scope at (op_of op op_at by left to right) = events constants scope by left ++ events constants scope to right
  events constants scope at (apply_of by function to argument) = events constants scope by function ++ events constants scope to argument
  events constants scope at (pair_of by left to right) = events constants scope by left ++ events constants scope to right
  events constants scope at (form.List items) = item_events constants scope items
  events constants scope at (choice_of dim dim_at by left to right) =
      Dimension dim dim_at ∷ events constants scope by left ++ events constants scope to right

  pub item_events : List Constant → List Binder → Exprs → List Event
  item_events constants scope Nil = []
  item_events constants scope (exprs_of at first rest) = events constants scope at first ++ item_events constants scope rest

abbrev pub events_of : List Constant → List Binder → Expr → List Event
events_of constants scope e = events constants scope e.span e.form

-- definitions, each in the scope of those before it, and then an expression
abbrev pub nested_events : List Constant → List Binder → List Def → Expr → List Event
nested_events constants scope [] main = events_of constants scope main
nested_events constants scope (def ∷ defs) main =
    events_of constants (bound_under def.recursive def.name scope) def.body ++ nested_events constants (defined def.name ∷ scope) defs main

abbrev pub program_events : List Constant → Program → List Event
program_events constants program = nested_events constants [] program.defs program.main

-- names and one more at the end, where it is not among them
abbrev pub with_dim : List (List ℕ) → List ℕ → List (List ℕ)
with_dim dims name = if list_any (bytes_eq name) dims then dims else (dims ++ name ∷ [])

-- the dimensions after some events, from those before them: each name once, where it stands first
abbrev pub dims_after : List (List ℕ) → List Event → List (List ℕ)
dims_after dims [] = dims
dims_after dims (Nameless at ∷ others) = dims_after dims others
dims_after dims (Dimension name at ∷ others) = dims_after (with_dim dims name) others

-- the dimensions of a program, by their numbers
abbrev pub dims_of : Program → List (List ℕ)
dims_of program = dims_after [] (program_events [] program)

-- how many dimensions a program may have
abbrev pub most_dims : ℕ
most_dims = 64

-- what is refused at an event, after these dimensions: an unbound name, or a new dimension past the most
abbrev pub refused : List (List ℕ) → Event → Option ScopeFault
refused dims (Nameless at) = Some (Unbound at)
refused dims (Dimension name at) = if list_any (bytes_eq name) dims || nat_lt (length dims) most_dims then None else Some (TooManyDimensions at)

-- the first of two, if any
abbrev pub first_of : Option ScopeFault → Option ScopeFault → Option ScopeFault
first_of (Some fault) later = Some fault
first_of None later = later

-- what is refused first, after these dimensions
abbrev pub first_fault : List (List ℕ) → List Event → Option ScopeFault
first_fault dims [] = None
first_fault dims (event ∷ others) = first_of (refused dims event) (first_fault (dims_after dims (event ∷ [])) others)

-- The fault is the one that comes first. A fault of memory says nothing.
abbrev pub IsFault : Option ScopeFault → ScopeFault → Type 0
IsFault first (Unbound at) = first ≡ Some (Unbound at)
IsFault first (TooManyDimensions at) = first ≡ Some (TooManyDimensions at)
IsFault first Memory = Unit {0}
