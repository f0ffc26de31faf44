use Rattle.std.proofs.Common.{ℕ, ◌<◌, refl, sym, ◌∙◌, true, arith, lit≤, lit<}
use Rattle.vt_syntax.specs.declared.core_expr.Core.{Core}
use Rattle.vt_type.specs.Constants.{core_constants, int, bool, ◌⇒◌}
use Rattle.vt_type.proofs.ConstantTable.{core_is_table}
use Rattle.vt_rules.specs.Env.{Env, Empty, ◌▸◌, Mono, Rec}
use Rattle.vt_rules.specs.TypingUpTo.{TyUpTo}
use Rattle.vt_rules.specs.TypingUpTo as to
use Rattle.vt_rules.specs.Failing.{IsTypedUpTo}
use Rattle.vt_rules.specs.Examples.{nowhere, number, truth, name, lambda, number_applied, number_applied_within, endless}
use Rattle.vt_rules.specs.Witnesses.{NumberApplied, NumberAppliedWithin, Endless}
use Rattle.vt_rules.proofs.Inversion.{of_known, of_fun}
use Rattle.vt_rules.proofs.InversionUpTo.{fun_parts, let_rec_within}
use Rattle.vt_rules.proofs.UpTo.{up_to-smaller}
use Rattle.vt_rules.proofs.UpToAll.{up_to-ty}
use Rattle.vt_rules.proofs.Shapes.{no_endless_to}
use Rattle.vt_rules.proofs.Untyped.{number_applied-untyped}

-- The first failing nodes of small programs.

-- a typing up to 2 is enough for one up to each number below 3
below_three : (program : Core) → IsTypedUpTo core_constants 2 program → (m : ℕ) → m < 3 → IsTypedUpTo core_constants m program
below_three program (type, d) m less = (type, up_to-smaller core_constants core_is_table m 2 (omega arith) Empty program type d tt)

-- up to 2 a number applied to a truth value has each type
applied_up_to_two : (env : Env) → TyUpTo core_constants 2 env number_applied int
applied_up_to_two env = to.app_above env 3 nowhere (number 1 1) (truth 2 true) int bool int (lit< tt) (refl, tt) (to.literal env 1 nowhere _ (lit≤ tt)) (to.literal env 2 nowhere _ (lit≤ tt))

pub number_applied-fails : NumberApplied
number_applied-fails = record {
  fails = λ (type, d). number_applied-untyped Empty type (up_to-ty core_constants 3 Empty number_applied type d tt (lit≤ tt, lit≤ tt, lit≤ tt));
  before = below_three number_applied (int, applied_up_to_two Empty);
}

pub number_applied_within-fails : NumberAppliedWithin
number_applied_within-fails = record {
  fails = λ (type, d). (
      let (from, some, w, f) = fun_parts core_constants 3 Empty 4 nowhere number_applied type d in
      number_applied-untyped (Empty ▸ Mono from) some (up_to-ty core_constants 3 (Empty ▸ Mono from) number_applied some f (tt, tt) (lit≤ tt, lit≤ tt, lit≤ tt))
      );
  before = below_three number_applied_within (int, to.fun_above Empty 4 nowhere number_applied int int int (lit< tt) (refl, tt) (refl, tt) (applied_up_to_two (Empty ▸ Mono int)));
}

endless-fails_at : IsTypedUpTo core_constants 3 endless → ⊥
endless-fails_at (type, d) =
    let body = lambda 2 (name 1 1) in
    let (some, _, f, _) = let_rec_within core_constants 3 Empty 3 nowhere _ nowhere body (number 4 1) type (lit≤ tt) d in
    let g = up_to-ty core_constants 3 (Empty ▸ Mono some) body some f (tt, tt) (lit≤ tt, lit≤ tt) in
    let (from, result, w, h, e) = of_fun core_constants (Empty ▸ Mono some) 2 nowhere (name 1 1) some g in
    let is = of_known core_constants (Empty ▸ Mono some ▸ Mono from) 1 nowhere 1 (Mono some) result refl h in
    no_endless_to from result (sym e ∙ sym is)

pub endless-fails : Endless
endless-fails = record {
  fails = endless-fails_at;
  before =
      below_three endless (
        int,
        to.let_rec_above Empty 3 nowhere _ nowhere (lambda 2 (name 1 1)) (number 4 1) int (int ⇒ int) int int (lit< tt) (refl, tt) (refl, tt)
            (to.fun (Empty ▸ Mono int) 2 nowhere (name 1 1) int int (lit≤ tt) (refl, tt) (to.name_mono (Empty ▸ Mono int ▸ Mono int) 1 nowhere 1 int (lit≤ tt) refl))
            (to.literal_above (Empty ▸ Rec Empty (lambda 2 (name 1 1))) 4 nowhere _ int (lit< tt) (refl, tt)),
      );
}
