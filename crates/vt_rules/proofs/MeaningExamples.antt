use Rattle.std.proofs.Common.{◌≡◌, ℕ, [], refl, sym, ap, ◌∙◌, true}
use Rattle.vt_type.specs.declared.plain.Plain.{Plain, Var}
use Rattle.vt_type.specs.Plain.{IsWellFormed}
use Rattle.vt_type.specs.Constants.{core_constants, int, bool, pair, ◌⇒◌, a}
use Rattle.vt_rules.specs.Env.{Env, Empty, ◌▸◌, Mono, Def, Rec}
use Rattle.vt_rules.specs.Typing.{Ty}
use Rattle.vt_rules.specs.Typing as ty
use Rattle.vt_rules.specs.Principal.{IsTyped, Principal}
use Rattle.vt_rules.specs.Examples.{nowhere, number, truth, name, constant, lambda, apply, bind, two_uses}
use Rattle.vt_rules.specs.Witnesses.{NumberOrItself, OneOrAll, TwoLaterUses}
use Rattle.vt_rules.proofs.Inversion.{of_literal, of_known, of_fun, of_app, of_let, of_let_rec}
use Rattle.vt_rules.proofs.Shapes.{arrow_parts, no_int_and_bool}
use Rattle.vt_rules.proofs.NodesAbove.{int_is}
use Rattle.vt_rules.proofs.Uses.{bool_is, condition_has, uses_typed, uses_have}

-- What small programs mean.

identity : Principal core_constants (lambda 4 (name 1 0)) (a ⇒ a)
identity = record {
  typed = ty.fun Empty 4 nowhere (name 1 0) a a tt (ty.name_mono (Empty ▸ Mono a) 1 nowhere 0 a refl);
  general = λ other d. (
      let (from, to, w, f, e) = of_fun core_constants Empty 4 nowhere (name 1 0) other d in
      let is = of_known core_constants (Empty ▸ Mono from) 1 nowhere 0 (Mono from) to refl f in
      record { images = λ path. from; well_formed = λ path. w; same = ap (λ t. from ⇒ t) (sym is) ∙ sym e }
      );
}

to_number : Principal core_constants (lambda 4 (number 2 1)) (a ⇒ int)
to_number = record {
  typed = ty.fun Empty 4 nowhere (number 2 1) a int tt (ty.literal (Empty ▸ Mono a) 2 nowhere _);
  general = λ other d. (
      let (from, to, w, f, e) = of_fun core_constants Empty 4 nowhere (number 2 1) other d in
      let is = of_literal core_constants (Empty ▸ Mono from) 2 nowhere _ to f in
      record { images = λ path. from; well_formed = λ path. w; same = ap (λ t. from ⇒ t) (sym is) ∙ sym e }
      );
}

pub number_or_itself-means : NumberOrItself
number_or_itself-means = (λ decision e. rw e (identity, refl), λ decision e. rw e (to_number, refl))

-- `fun x -> x` in any environment
module _ (env : Env) (n m : ℕ) where
  identity_typed : (type : Plain) → IsWellFormed type → Ty core_constants env (lambda n (name m 0)) (type ⇒ type)
  identity_typed type w = ty.fun env n nowhere (name m 0) type type w (ty.name_mono (env ▸ Mono type) m nowhere 0 type refl)

  identity_has : (one other : Plain) → Ty core_constants env (lambda n (name m 0)) (one ⇒ other) → other ≡ one
  identity_has one other d =
      let (from, to, w, f, e) = of_fun core_constants env n nowhere (name m 0) (one ⇒ other) d in
      let is = of_known core_constants (env ▸ Mono from) m nowhere 0 (Mono from) to refl f in
      let (g, h) = arrow_parts one other from to e in
      h ∙ is ∙ sym g

both_used : Principal core_constants (lambda 21 (bind 11 (lambda 10 (name 8 0)) (two_uses 12))) (a ⇒ pair int bool)
both_used = record {
  typed =
      let env = Empty ▸ Mono a in
      let inner = lambda 10 (name 8 0) in
      ty.fun Empty 21 nowhere _ a (pair int bool) tt
      (ty.let_in env 11 nowhere inner (two_uses 12) (a ⇒ a) (pair int bool) (identity_typed env 10 8 a tt)
      (uses_typed (env ▸ Def env inner) (Def env inner) refl 12 int bool int_is bool_is (identity_typed env 10 8 int int_is) (identity_typed env 10 8 bool bool_is)));
  general = λ other d. (
      let inner = lambda 10 (name 8 0) in
      let (from, to, w, f, e) = of_fun core_constants Empty 21 nowhere (bind 11 inner (two_uses 12)) other d in
      let env = Empty ▸ Mono from in
      let (some, _, g) = of_let core_constants env 11 nowhere inner (two_uses 12) to f in
      let (x, y, h, k, is) = uses_have (env ▸ Def env inner) (Def env inner) refl 12 to g in
      let x_is = identity_has env 10 8 int x h in
      let y_is = identity_has env 10 8 bool y k in
      let whole : to ≡ pair int bool = is ∙ (λ j. pair (x_is j) (y_is j)) in
      record { images = λ path. from; well_formed = λ path. w; same = ap (λ t. from ⇒ t) (sym whole) ∙ sym e }
      );
}

-- `fun z -> if true then y else z`, under `y`
module _ (from : Plain) where
  abbrev under : Env
  under = Empty ▸ Mono from

  chosen_has : (one other : Plain)
      → Ty core_constants under (lambda 10 (apply 7 (apply 5 (apply 3 (constant 1 16) (truth 2 true)) (name 4 1)) (name 6 0))) (one ⇒ other) → from ≡ one
  chosen_has one other d =
      let first = apply 3 (constant 1 16) (truth 2 true) in
      let (arg, to, w, f, e) = of_fun core_constants under 10 nowhere (apply 7 (apply 5 first (name 4 1)) (name 6 0)) (one ⇒ other) d in
      let env = under ▸ Mono arg in
      let (z, g, h) = of_app core_constants env 7 nowhere (apply 5 first (name 4 1)) (name 6 0) to f in
      let (y, k, l) = of_app core_constants env 5 nowhere first (name 4 1) (z ⇒ to) g in
      let (c, m, _) = of_app core_constants env 3 nowhere (constant 1 16) (truth 2 true) (y ⇒ (z ⇒ to)) k in
      let (y_is, z_is) = condition_has env 1 c y z to m in
      let y_from : y ≡ from = of_known core_constants env 4 nowhere 1 (Mono from) y refl l in
      let z_arg : z ≡ arg = of_known core_constants env 6 nowhere 0 (Mono arg) z refl h in
      let one_arg = (arrow_parts one other arg to e).0 in
      sym y_from ∙ y_is ∙ sym z_is ∙ z_arg ∙ sym one_arg

one_for_all : IsTyped core_constants (lambda 21 (bind 11 (lambda 10 (apply 7 (apply 5 (apply 3 (constant 1 16) (truth 2 true)) (name 4 1)) (name 6 0))) (two_uses 12))) → ⊥
one_for_all (type, d) =
    let inner = lambda 10 (apply 7 (apply 5 (apply 3 (constant 1 16) (truth 2 true)) (name 4 1)) (name 6 0)) in
    let (from, to, w, f, e) = of_fun core_constants Empty 21 nowhere (bind 11 inner (two_uses 12)) type d in
    let env = under from in
    let (some, _, g) = of_let core_constants env 11 nowhere inner (two_uses 12) to f in
    let (x, y, h, k, is) = uses_have (env ▸ Def env inner) (Def env inner) refl 12 to g in
    no_int_and_bool from from (chosen_has from int x h) (chosen_has from bool y k) refl

pub one_or_all-means : OneOrAll
one_or_all-means = (λ decision e. rw e one_for_all, λ decision e. rw e (both_used, refl))

pub two_later_uses-means : TwoLaterUses
two_later_uses-means = record {
  typed =
      let body = lambda 2 (name 1 0) in
      ty.let_rec Empty 3 nowhere [] nowhere body (two_uses 4) (int ⇒ int) (pair int bool) (refl, (int_is, (int_is, tt))) (identity_typed (Empty ▸ Mono (int ⇒ int)) 2 1 int int_is)
      (uses_typed (Empty ▸ Rec Empty body) (Rec Empty body) refl 4 int bool int_is bool_is
      ((refl, (int_is, (int_is, tt))), identity_typed (Empty ▸ Mono (int ⇒ int)) 2 1 int int_is)
      ((refl, (bool_is, (bool_is, tt))), identity_typed (Empty ▸ Mono (bool ⇒ bool)) 2 1 bool bool_is));
  general = λ other d. (
      let body = lambda 2 (name 1 0) in
      let (some, w, _, g) = of_let_rec core_constants Empty 3 nowhere [] nowhere body (two_uses 4) other d in
      let (x, y, (v, h), (u, k), is) = uses_have (Empty ▸ Rec Empty body) (Rec Empty body) refl 4 other g in
      let x_is = identity_has (Empty ▸ Mono (int ⇒ x)) 2 1 int x h in
      let y_is = identity_has (Empty ▸ Mono (bool ⇒ y)) 2 1 bool y k in
      let whole : other ≡ pair int bool = is ∙ (λ j. pair (x_is j) (y_is j)) in
      record { images = Var; well_formed = λ path. tt; same = sym whole }
      );
}
