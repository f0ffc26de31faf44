use Rattle.std.proofs.Common.{◌≡◌, ℕ, zero, suc, ◌+◌, List, [], ◌∷◌, Some, refl, sym, ◌∙◌, subst, true}
use Rattle.vt_syntax.specs.declared.core_expr.Form.{Literal}
use Rattle.vt_syntax.specs.declared.core_expr.Lit.{Lit}
use Rattle.vt_syntax.specs.CoreTrees.{core}
use Rattle.vt_type.specs.declared.plain.Plain.{Plain, Var}
use Rattle.vt_type.specs.Plain.{IsWellFormed}
use Rattle.vt_type.specs.Canonical.{canonical}
use Rattle.vt_type.specs.Constants.{core_constants, int, bool, pair, ◌⇒◌, a, b}
use Rattle.vt_rules.specs.Env.{Env, Entry, entry_at}
use Rattle.vt_rules.specs.Typing.{Ty, literal_type}
use Rattle.vt_rules.specs.Typing as ty
use Rattle.vt_rules.specs.Examples.{nowhere, number, truth, name, constant, apply, two_uses}
use Rattle.vt_rules.proofs.Inversion.{Allows, by_entry, of_literal, of_known, of_app}
use Rattle.vt_rules.proofs.Shapes.{arrow_parts, constant_has}

-- Some constants of the language, and two uses of one name.

pub bool_is : IsWellFormed bool
bool_is = (refl, tt)

-- the first variable of a canonical type becomes one type, each other one another
abbrev pub two_images : Plain → Plain → List ℕ → Plain
two_images one other [] = other
two_images one other (zero ∷ rest) = one
two_images one other (suc n ∷ rest) = other

pub two_images-well_formed : (one other : Plain) → IsWellFormed one → IsWellFormed other → (path : List ℕ) → IsWellFormed (two_images one other path)
two_images-well_formed one other w v [] = v
two_images-well_formed one other w v (zero ∷ rest) = w
two_images-well_formed one other w v (suc n ∷ rest) = v

module _ (env : Env) (n : ℕ) where
  pub pair_typed : (one other : Plain) → IsWellFormed one → IsWellFormed other → Ty core_constants env (constant n 13) (one ⇒ (other ⇒ pair one other))
  pair_typed one other w v =
      ty.constant env n nowhere 13 (canonical (a ⇒ (b ⇒ pair a b))) _ refl
      (record { images = two_images one other; well_formed = two_images-well_formed one other w v; same = refl })

  pub pair_has : (one other type : Plain) → Ty core_constants env (constant n 13) (one ⇒ (other ⇒ type)) → type ≡ pair one other
  pair_has one other type d =
      let i = constant_has 13 (canonical (a ⇒ (b ⇒ pair a b))) refl env n nowhere (one ⇒ (other ⇒ type)) d in
      let (e, rest) = arrow_parts (i.images (0 ∷ [])) (i.images (1 ∷ 0 ∷ []) ⇒ pair (i.images (0 ∷ [])) (i.images (1 ∷ 0 ∷ []))) one (other ⇒ type) i.same in
      let (f, g) = arrow_parts (i.images (1 ∷ 0 ∷ [])) (pair (i.images (0 ∷ [])) (i.images (1 ∷ 0 ∷ []))) other type rest in
      sym g ∙ (λ j. pair (e j) (f j))

  pub condition_has : (condition one other type : Plain) → Ty core_constants env (constant n 16) (condition ⇒ (one ⇒ (other ⇒ type))) → (one ≡ type) × (other ≡ type)
  condition_has condition one other type d =
      let i = constant_has 16 (canonical (bool ⇒ (a ⇒ (a ⇒ a)))) refl env n nowhere (condition ⇒ (one ⇒ (other ⇒ type))) d in
      let var = i.images (1 ∷ 0 ∷ []) in
      let rest = (arrow_parts bool (var ⇒ (var ⇒ var)) condition (one ⇒ (other ⇒ type)) i.same).1 in
      let (e, more) = arrow_parts var (var ⇒ var) one (other ⇒ type) rest in
      let (f, g) = arrow_parts var var other type more in
      (sym e ∙ g, sym f ∙ g)

-- a name is used at integers and at truth values
module _ (env : Env) (entry : Entry) (is : entry_at env 0 ≡ Some entry) (n : ℕ) where
  pub uses_typed : (one other : Plain) → IsWellFormed one → IsWellFormed other → Allows core_constants entry (int ⇒ one) → Allows core_constants entry (bool ⇒ other) → Ty core_constants env (two_uses n) (pair one other)
  uses_typed one other w v first second =
      ty.app env (n + 8) nowhere _ _ other (pair one other)
      (ty.app env (n + 4) nowhere _ _ one (other ⇒ pair one other) (pair_typed env n one other w v)
      (ty.app env (n + 3) nowhere _ _ int one (by_entry core_constants env (n + 1) nowhere 0 entry (int ⇒ one) is first) (ty.literal env (n + 2) nowhere _)))
      (ty.app env (n + 7) nowhere _ _ bool other (by_entry core_constants env (n + 5) nowhere 0 entry (bool ⇒ other) is second) (ty.literal env (n + 6) nowhere _))

  -- a use of the name
  use_has : (m k j : ℕ) (type : Plain) (literal : Lit) → Ty core_constants env (apply m (name k 0) (core j nowhere (Literal literal))) type → Allows core_constants entry (literal_type literal ⇒ type)
  use_has m k j type literal d =
      let (from, f, g) = of_app core_constants env m nowhere (name k 0) (core j nowhere (Literal literal)) type d in
      subst (λ x. Allows core_constants entry (x ⇒ type)) (of_literal core_constants env j nowhere literal from g) (of_known core_constants env k nowhere 0 entry (from ⇒ type) is f)

  pub uses_have : (type : Plain) → Ty core_constants env (two_uses n) type
      → (one other : Plain) × Allows core_constants entry (int ⇒ one) × Allows core_constants entry (bool ⇒ other) × (type ≡ pair one other)
  uses_have type d =
      let (other, f, g) = of_app core_constants env (n + 8) nowhere (apply (n + 4) (constant n 13) (apply (n + 3) (name (n + 1) 0) (number (n + 2) 1))) (apply (n + 7) (name (n + 5) 0) (truth (n + 6) true)) type d in
      let (one, h, k) = of_app core_constants env (n + 4) nowhere (constant n 13) (apply (n + 3) (name (n + 1) 0) (number (n + 2) 1)) (other ⇒ type) f in
      (one, other, use_has (n + 3) (n + 1) (n + 2) one _ k, use_has (n + 7) (n + 5) (n + 6) other _ g, pair_has env n one other type h)

-- the sum and the negation
module _ (env : Env) (n : ℕ) where
  pub plus_typed : Ty core_constants env (constant n 0) (int ⇒ (int ⇒ int))
  plus_typed = ty.constant env n nowhere 0 (int ⇒ (int ⇒ int)) _ refl (record { images = Var; well_formed = λ path. tt; same = refl })

  pub plus_has : (one other type : Plain) → Ty core_constants env (constant n 0) (one ⇒ (other ⇒ type)) → (one ≡ int) × (other ≡ int) × (type ≡ int)
  plus_has one other type d =
      let i = constant_has 0 (int ⇒ (int ⇒ int)) refl env n nowhere (one ⇒ (other ⇒ type)) d in
      let (e, rest) = arrow_parts int (int ⇒ int) one (other ⇒ type) i.same in
      let (f, g) = arrow_parts int int other type rest in
      (sym e, sym f, sym g)

  pub not_typed : Ty core_constants env (constant n 9) (bool ⇒ bool)
  not_typed = ty.constant env n nowhere 9 (bool ⇒ bool) _ refl (record { images = Var; well_formed = λ path. tt; same = refl })

  pub not_has : (one type : Plain) → Ty core_constants env (constant n 9) (one ⇒ type) → (one ≡ bool) × (type ≡ bool)
  not_has one type d =
      let i = constant_has 9 (bool ⇒ bool) refl env n nowhere (one ⇒ type) d in
      let (e, f) = arrow_parts bool bool one type i.same in
      (sym e, sym f)
