use Rattle.std.proofs.Common.{◌≡◌, ℕ, sym, ap, subst, ◌∙◌, arith}
use Rattle.std.proofs.lemmas.Option.{same_Some}
use Rattle.vt_lex.specs.declared.span.Span.{Span}
use Rattle.vt_syntax.specs.declared.core_expr.Form.{Const}
use Rattle.vt_syntax.specs.CoreTrees.{core}
use Rattle.vt_type.specs.declared.plain.Plain.{Plain, Var, Con}
use Rattle.vt_type.specs.declared.plain.PlainKids.{Nil}
use Rattle.vt_type.specs.Plain.{kids_of, plain_nodes, IsInstance}
use Rattle.vt_type.specs.Constants.{core_constants, HasClosed, int, bool, pair, ◌⇒◌}
use Rattle.vt_type.proofs.Renaming.{first_kid}
use Rattle.vt_rules.specs.Env.{Env}
use Rattle.vt_rules.specs.Typing.{Ty}
use Rattle.vt_rules.proofs.Inversion.{of_constant}

-- Equal types have equal parts.

-- the first child, and the second
abbrev first : Plain → Plain
first (Var name) = int
first (Con top Nil) = int
first (Con top (kids_of kid kids)) = kid

abbrev second : Plain → Plain
second (Var name) = int
second (Con top Nil) = int
second (Con top (kids_of kid kids)) = first_kid int kids

pub arrow_parts : (from to one other : Plain) → from ⇒ to ≡ one ⇒ other → (from ≡ one) × (to ≡ other)
arrow_parts from to one other e = (ap first e, ap second e)

pub pair_parts : (left right one other : Plain) → pair left right ≡ pair one other → (left ≡ one) × (right ≡ other)
pair_parts left right one other e = (ap first e, ap second e)

pub int_is_no_arrow : (from to : Plain) → from ⇒ to ≡ int → ⊥
int_is_no_arrow from to e = cc

pub no_int_and_bool : (one other : Plain) → one ≡ int → other ≡ bool → one ≡ other → ⊥
no_int_and_bool one other e f g = cc

-- two types that are equal to a third
pub met : (shared one other : Plain) → shared ≡ one → shared ≡ other → one ≡ other
met shared one other e f = sym e ∙ f

-- a function to a pair, by its parts
pub arrow_to_pair : (whole from to left right x y z : Plain) → whole ≡ from ⇒ to → to ≡ pair left right → from ≡ x → left ≡ y → right ≡ z → x ⇒ pair y z ≡ whole
arrow_to_pair whole from to left right x y z e f g h k = sym (e ∙ (λ j. g j ⇒ (f ∙ (λ i. pair (h i) (k i))) j))

-- no type is a part of itself
pub no_endless : (from to : Plain) → from ⇒ to ≡ from → ⊥
no_endless from to e = let n = ap plain_nodes e in omega arith

pub no_endless_to : (from to : Plain) → from ⇒ to ≡ to → ⊥
no_endless_to from to e = let n = ap plain_nodes e in omega arith

-- a constant of the language has the instances of its type
pub constant_has : (id : ℕ) (closed : Plain) → HasClosed core_constants id closed → (env : Env) (n : ℕ) (at : Span) (type : Plain)
    → Ty core_constants env (core n at (Const id)) type → IsInstance type closed
constant_has id closed has env n at type d =
    let (other, found, instance) = of_constant core_constants env n at id type d in
    subst (IsInstance type) (same_Some other closed (sym found ∙ has)) instance
