use Rattle.std.specs.Prelude.{ℕ, List}
use Rattle.vt_syntax.specs.declared.core_expr.Core.{Core}
use Rattle.vt_type.specs.declared.plain.Plain.{Plain}
use Rattle.vt_type.specs.Plain.{IsInstance}
use Rattle.vt_type.specs.Constants.{Constant, pair}
use Rattle.vt_rules.specs.Env.{Empty}
use Rattle.vt_rules.specs.Typing.{Ty}
use Rattle.vt_rules.specs.TypingAt.{TyAt}

-- a program has a type
abbrev pub IsTyped : List Constant → Core → Type 0
IsTyped K program = (type : Plain) × Ty K Empty program type

-- A principal type of a program: it has this type, and each of its types is an instance of it.
pub record Principal (K : List Constant) (program : Core) (type : Plain) : Type 0 where
  pub typed : Ty K Empty program type
  pub general : (other : Plain) → Ty K Empty program other → IsInstance other type

-- A principal pair of a program with a marked hole: the hole and the program have these two types in one
-- typing, and those of each typing are an instance of them, by one substitution for both.
pub record PrincipalAt (K : List Constant) (mark : ℕ) (program : Core) (wanted type : Plain) : Type 0 where
  pub typed : TyAt K mark Empty program type wanted
  pub general : (own other : Plain) → TyAt K mark Empty program other own → IsInstance (pair own other) (pair wanted type)
