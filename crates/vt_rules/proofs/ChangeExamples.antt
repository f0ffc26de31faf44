use Rattle.std.proofs.Common.{◌≡◌, ℕ, zero, suc, ◌<◌, List, [], ◌∷◌, Some, slice_get, get_or, Contains, refl, sym, subst, true, inl, inr, arith, lit<}
use Rattle.std.proofs.lemmas.Option.{same_Some, none-some}
use Rattle.vt_syntax.specs.declared.core_expr.Core.{Core}
use Rattle.vt_syntax.specs.declared.core_expr.Form.{Hole}
use Rattle.vt_syntax.specs.declared.leaf.Leaf.{Leaf}
use Rattle.vt_syntax.specs.CoreTrees.{core}
use Rattle.vt_type.specs.declared.change.ChangeLine.{ChangeLine}
use Rattle.vt_type.specs.declared.plain.Plain.{Plain, Var}
use Rattle.vt_type.specs.Plain.{IsWellFormed, IsInstance}
use Rattle.vt_type.specs.Constants.{core_constants, int, bool, pair, ◌⇒◌, a}
use Rattle.vt_type.proofs.Renaming.{renaming-canonical}
use Rattle.vt_rules.specs.Env.{Empty, ◌▸◌, Mono, Def}
use Rattle.vt_rules.specs.Typing.{Ty}
use Rattle.vt_rules.specs.Typing as ty
use Rattle.vt_rules.specs.TypingAt.{TyAt}
use Rattle.vt_rules.specs.TypingAt as at
use Rattle.vt_rules.specs.Principal.{IsTyped, PrincipalAt}
use Rattle.vt_rules.specs.Changes.{Cures, IsChangeOf}
use Rattle.vt_rules.specs.Examples.{nowhere, number, truth, name, constant, lambda, apply, bind, leaf_at, pair_with_error}
use Rattle.vt_rules.specs.Witnesses.{WrongSum, WrongUse, NumberAndTruth, PairWithError}
use Rattle.vt_rules.proofs.Inversion.{of_literal, of_known, of_fun, of_app}
use Rattle.vt_rules.proofs.InversionAt.{at_hole, at_fun, at_function, at_argument, at_let_bound}
use Rattle.vt_rules.proofs.WellFormedTypes.{result-well_formed}
use Rattle.vt_rules.proofs.Shapes.{met, arrow_to_pair, int_is_no_arrow}
use Rattle.vt_rules.proofs.NodesAbove.{int_is}
use Rattle.vt_rules.proofs.Uses.{bool_is, two_images, two_images-well_formed, pair_typed, pair_has, plus_typed, plus_has, not_typed, not_has}

-- The changes of small programs.

abbrev hole : ℕ → Core
hole n = core n nowhere Hole

same_type : (special general : Plain) → general ≡ special → IsInstance special general
same_type special general e = subst (λ t. IsInstance t general) e (renaming-canonical general general refl).0

-- 1 + ?
sum_pair : PrincipalAt core_constants 4 (apply 5 (apply 3 (constant 1 0) (number 2 1)) (hole 4)) int int
sum_pair = record {
  typed =
      at.in_argument Empty 5 nowhere (apply 3 (constant 1 0) (number 2 1)) (hole 4) int int int
      (ty.app Empty 3 nowhere (constant 1 0) (number 2 1) int (int ⇒ int) (plus_typed Empty 1) (ty.literal Empty 2 nowhere _)) (at.here Empty nowhere int int_is);
  general = λ own other d. (
      let (from, f, g) = at_argument core_constants 4 Empty 5 nowhere (apply 3 (constant 1 0) (number 2 1)) (hole 4) other own (elim [ inl h ↦ h | inr h ↦ h ]) d in
      let (is, _) = at_hole core_constants 4 Empty 4 nowhere from own g in
      let (one, h, _) = of_app core_constants Empty 3 nowhere (constant 1 0) (number 2 1) (from ⇒ other) f in
      let (_, from_is, other_is) = plus_has Empty 1 one from other h in
      let e = met from int own from_is is in
      same_type (pair own other) (pair int int) (λ j. pair (e j) (sym other_is j))
      );
}

pub wrong_sum-change : WrongSum
wrong_sum-change = record { class_is = refl; principal = sum_pair; canonical = refl }

-- def x = ?; x + 1
use_pair : PrincipalAt core_constants 1 (bind 2 (hole 1) (apply 7 (apply 5 (constant 3 0) (name 4 0)) (number 6 1))) a int
use_pair = record {
  typed =
      let env = Empty ▸ Def Empty (hole 1) in
      at.in_let_bound Empty 2 nowhere (hole 1) (apply 7 (apply 5 (constant 3 0) (name 4 0)) (number 6 1)) a int a (at.here Empty nowhere a tt)
      (ty.app env 7 nowhere (apply 5 (constant 3 0) (name 4 0)) (number 6 1) int int
      (ty.app env 5 nowhere (constant 3 0) (name 4 0) int (int ⇒ int) (plus_typed env 3) (ty.name_def env 4 nowhere 0 Empty (hole 1) int refl (ty.hole Empty 1 nowhere int int_is)))
      (ty.literal env 6 nowhere _));
  general = λ own other d. (
      let body = apply 7 (apply 5 (constant 3 0) (name 4 0)) (number 6 1) in
      let env = Empty ▸ Def Empty (hole 1) in
      let (some, f, g) = at_let_bound core_constants 1 Empty 2 nowhere (hole 1) body other own (elim [ inl h ↦ elim h [ inl k ↦ k | inr k ↦ k ] | inr h ↦ h ]) d in
      let (is, w) = at_hole core_constants 1 Empty 1 nowhere some own f in
      let (from, h, _) = of_app core_constants env 7 nowhere (apply 5 (constant 3 0) (name 4 0)) (number 6 1) other g in
      let (one, k, _) = of_app core_constants env 5 nowhere (constant 3 0) (name 4 0) (from ⇒ other) h in
      let (_, _, other_is) = plus_has env 3 one from other k in
      record { images = λ path. own; well_formed = λ path. subst IsWellFormed {x = some} is w; same = λ j. pair own (sym other_is j) }
      );
}

pub wrong_use-change : WrongUse
wrong_use-change = record { class_is = refl; principal = use_pair; canonical = refl }

-- (x + 1, not ?), under `x`
abbrev left_part : Core
left_part = apply 7 (constant 1 13) (apply 6 (apply 4 (constant 2 0) (name 3 0)) (number 5 1))

abbrev right_part : Core
right_part = apply 10 (constant 8 9) (hole 9)

truth_pair : PrincipalAt core_constants 9 (lambda 12 (apply 11 left_part right_part)) bool (int ⇒ pair int bool)
truth_pair = record {
  typed =
      let env = Empty ▸ Mono int in
      at.in_fun Empty 12 nowhere (apply 11 left_part right_part) int (pair int bool) bool int_is
      (at.in_argument env 11 nowhere left_part right_part bool (pair int bool) bool
      (ty.app env 7 nowhere (constant 1 13) (apply 6 (apply 4 (constant 2 0) (name 3 0)) (number 5 1)) int (bool ⇒ pair int bool) (pair_typed env 1 int bool int_is bool_is)
      (ty.app env 6 nowhere (apply 4 (constant 2 0) (name 3 0)) (number 5 1) int int
      (ty.app env 4 nowhere (constant 2 0) (name 3 0) int (int ⇒ int) (plus_typed env 2) (ty.name_mono env 3 nowhere 0 int refl)) (ty.literal env 5 nowhere _)))
      (at.in_argument env 10 nowhere (constant 8 9) (hole 9) bool bool bool (not_typed env 8) (at.here env nowhere bool bool_is)));
  general = λ own other d. (
      let (from, to, w, f, e) = at_fun core_constants 9 Empty 12 nowhere (apply 11 left_part right_part) other own d in
      let env = Empty ▸ Mono from in
      let (second, g, h) = at_argument core_constants 9 env 11 nowhere left_part right_part to own
      (elim [ inl k ↦ k | inr k ↦ elim k [ inl l ↦ elim l [ inl m ↦ m | inr m ↦ m ] | inr l ↦ l ] ]) f in
      let (arg, k, l) = at_argument core_constants 9 env 10 nowhere (constant 8 9) (hole 9) second own (λ m. m) h in
      let (is, _) = at_hole core_constants 9 env 9 nowhere arg own l in
      let (arg_is, second_is) = not_has env 8 arg second k in
      let (first, m, p) = of_app core_constants env 7 nowhere (constant 1 13) (apply 6 (apply 4 (constant 2 0) (name 3 0)) (number 5 1)) (second ⇒ to) g in
      let to_is = pair_has env 1 first second to m in
      let (q, r, _) = of_app core_constants env 6 nowhere (apply 4 (constant 2 0) (name 3 0)) (number 5 1) first p in
      let (s, t, u) = of_app core_constants env 4 nowhere (constant 2 0) (name 3 0) (q ⇒ first) r in
      let (s_is, _, first_is) = plus_has env 2 s q first t in
      let s_from : s ≡ from = of_known core_constants env 3 nowhere 0 (Mono from) s refl u in
      let from_is = met s from int s_from s_is in
      let own_is = met arg bool own arg_is is in
      let result_is = arrow_to_pair other from to first second int int bool e to_is from_is first_is second_is in
      same_type (pair own other) (pair bool (int ⇒ pair int bool)) (λ j. pair (own_is j) (result_is j))
      );
}

pub number_and_truth-change : NumberAndTruth
number_and_truth-change = record { class_is = refl; principal = truth_pair; canonical = refl }

-- (y, ? true), under `y`
abbrev first_part : Core
first_part = apply 3 (constant 1 13) (name 2 0)

abbrev second_part : Core
second_part = apply 6 (hole 4) (truth 5 true)

-- two variables, by their first places in the pair
abbrev applied : Plain
applied = Var (0 ∷ 1 ∷ [])

abbrev given : Plain
given = Var (1 ∷ 0 ∷ [])

applied_pair : PrincipalAt core_constants 4 (lambda 8 (apply 7 first_part second_part)) (bool ⇒ applied) (given ⇒ pair given applied)
applied_pair = record {
  typed =
      let env = Empty ▸ Mono given in
      at.in_fun Empty 8 nowhere (apply 7 first_part second_part) given (pair given applied) (bool ⇒ applied) tt
      (at.in_argument env 7 nowhere first_part second_part applied (pair given applied) (bool ⇒ applied)
      (ty.app env 3 nowhere (constant 1 13) (name 2 0) given (applied ⇒ pair given applied) (pair_typed env 1 given applied tt tt) (ty.name_mono env 2 nowhere 0 given refl))
      (at.in_function env 6 nowhere (hole 4) (truth 5 true) bool applied (bool ⇒ applied) (at.here env nowhere (bool ⇒ applied) (refl, (bool_is, (tt, tt)))) (ty.literal env 5 nowhere _)));
  general = λ own other d. (
      let (from, to, w, f, e) = at_fun core_constants 4 Empty 8 nowhere (apply 7 first_part second_part) other own d in
      let env = Empty ▸ Mono from in
      let (second, g, h) = at_argument core_constants 4 env 7 nowhere first_part second_part to own (elim [ inl k ↦ k | inr k ↦ k ]) f in
      let (arg, k, l) = at_function core_constants 4 env 6 nowhere (hole 4) (truth 5 true) second own (λ m. m) h in
      let (is, v) = at_hole core_constants 4 env 4 nowhere (arg ⇒ second) own k in
      let arg_is = of_literal core_constants env 5 nowhere _ arg l in
      let (first, m, p) = of_app core_constants env 3 nowhere (constant 1 13) (name 2 0) (second ⇒ to) g in
      let to_is = pair_has env 1 first second to m in
      let first_is : first ≡ from = of_known core_constants env 2 nowhere 0 (Mono from) first refl p in
      let own_is = met (arg ⇒ second) (bool ⇒ second) own (λ j. arg_is j ⇒ second) is in
      let result_is = arrow_to_pair other from to first second from from second e to_is refl first_is refl in
      record {
        images = two_images second from;
        well_formed = two_images-well_formed second from (result-well_formed arg second v) w;
        same = λ j. pair (own_is j) (result_is j);
      }
      );
}

-- a number applied to something is no second part of a pair
applied_number : (first argument : Core) → IsTyped core_constants (lambda 8 (apply 7 first (apply 6 (number 4 1) argument))) → ⊥
applied_number first argument (type, d) =
    let (from, to, _, f, _) = of_fun core_constants Empty 8 nowhere (apply 7 first (apply 6 (number 4 1) argument)) type d in
    let env = Empty ▸ Mono from in
    let (second, _, g) = of_app core_constants env 7 nowhere first (apply 6 (number 4 1) argument) to f in
    let (arg, h, _) = of_app core_constants env 6 nowhere (number 4 1) argument second g in
    int_is_no_arrow arg second (of_literal core_constants env 4 nowhere _ (arg ⇒ second) h)

abbrev change : ChangeLine
change = record { leaf = 1; class = 0; wanted = bool ⇒ applied; result = given ⇒ pair given applied }

abbrev leaves : List Leaf
leaves = leaf_at 2 1 ∷ leaf_at 4 0 ∷ leaf_at 5 0 ∷ []

only_line : (i : ℕ) (d : ChangeLine) → i < 1 → (leaf : Leaf) × (slice_get leaves (get_or (change ∷ []) i d).leaf ≡ Some leaf) × IsChangeOf core_constants pair_with_error leaf (get_or (change ∷ []) i d)
only_line zero d within = (leaf_at 4 0, refl, record { class_is = refl; principal = applied_pair; canonical = refl })
only_line (suc i) d within = absurd (omega arith)

curing_leaf : (i : ℕ) (leaf : Leaf) → slice_get leaves i ≡ Some leaf → Cures core_constants pair_with_error leaf → Contains (1 ∷ []) i
curing_leaf zero leaf e cures = absurd (applied_number (apply 3 (constant 1 13) (hole 2)) (truth 5 true) (subst (Cures core_constants pair_with_error) (sym (same_Some (leaf_at 2 1) leaf e)) cures))
curing_leaf (suc zero) leaf e cures = (0, lit< tt, refl)
curing_leaf (suc (suc zero)) leaf e cures = absurd (applied_number first_part (hole 5) (subst (Cures core_constants pair_with_error) (sym (same_Some (leaf_at 5 0) leaf e)) cures))
curing_leaf (suc (suc (suc i))) leaf e cures = absurd (none-some leaf e)

pub pair_with_error-changes : PairWithError
pair_with_error-changes = record { lines_are = only_line; complete = curing_leaf; in_order = λ i j d less within. absurd (omega arith) }
