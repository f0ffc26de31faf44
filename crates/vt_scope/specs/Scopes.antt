use Rattle.std.specs.Prelude.{ℕ, suc, Bool, true, false, if◌then◌else◌, List, [], ◌∷◌, Option, Some, None}
use Rattle.std.specs.List.{list_any}
use Rattle.std.specs.Option.{option_map}
use Rattle.std.specs.Str.{bytes_eq}
use Rattle.vt_type.specs.Constants.{Constant}
use Rattle.vt_syntax.specs.declared.leaf.Class.TheVariants as class
use Rattle.vt_scope.specs.declared.scope.Binder.{Binder}
use Rattle.vt_scope.specs.declared.scope.Found.{Found}

-- The binders that stand around an expression, the newest one first. The class of a binder is that of
-- the leaves that stand for it.

-- a name that `fun` or an arm of `match` binds
abbrev pub parameter : List ℕ → Binder
parameter name = record { name = name; class = class.Parameter }

-- a name that `let` or `def` binds
abbrev pub defined : List ℕ → Binder
defined name = record { name = name; class = class.Defined }

-- where the bound expression stands: under its own name where that is recursive
abbrev pub bound_under : Bool → List ℕ → List Binder → List Binder
bound_under true name scope = defined name ∷ scope
bound_under false name scope = scope

-- one binder further away
abbrev pub further : Found → Found
further found = record found { distance = suc found.distance }

-- the first binder of a name: how many binders stand before it, and its class
abbrev pub found : List Binder → List ℕ → Option Found
found [] name = None
found (binder ∷ scope) name =
    if bytes_eq binder.name name then Some (record { distance = 0; class = binder.class }) else option_map further (found scope name)

-- whether a constant is written by this name
abbrev pub is_written : List ℕ → Option (List ℕ) → Bool
is_written name (Some own) = bytes_eq own name
is_written name None = false

-- whether some constant is
abbrev pub is_constant : List Constant → List ℕ → Bool
is_constant constants name = list_any (λ constant. is_written name constant.name) constants
