use Rattle.std.proofs.Common.{refl, sym, ◌∙◌, true}
use Rattle.vt_type.specs.declared.plain.Plain.{Plain}
use Rattle.vt_type.specs.Constants.{core_constants, ◌⇒◌}
use Rattle.vt_rules.specs.Env.{Env, Empty, ◌▸◌, Mono, Rec}
use Rattle.vt_rules.specs.Typing.{Ty}
use Rattle.vt_rules.specs.Examples.{nowhere, number, truth, name, lambda, apply, number_applied}
use Rattle.vt_rules.specs.Witnesses.{SelfApplication, UnusedError, TwoRecursiveUses}
use Rattle.vt_rules.proofs.Inversion.{of_literal, of_known, of_fun, of_app, of_let, of_let_rec}
use Rattle.vt_rules.proofs.Shapes.{arrow_parts, int_is_no_arrow, no_int_and_bool, no_endless}

-- Programs without a type.

pub self_application-untyped : SelfApplication
self_application-untyped (type, d) =
    let (from, to, w, f, _) = of_fun core_constants Empty 4 nowhere (apply 3 (name 1 0) (name 2 0)) type d in
    let (own, g, h) = of_app core_constants (Empty ▸ Mono from) 3 nowhere (name 1 0) (name 2 0) to f in
    let is = of_known core_constants (Empty ▸ Mono from) 1 nowhere 0 (Mono from) (own ⇒ to) refl g in
    let also = of_known core_constants (Empty ▸ Mono from) 2 nowhere 0 (Mono from) own refl h in
    no_endless own to (is ∙ sym also)

pub number_applied-untyped : (env : Env) (type : Plain) → Ty core_constants env number_applied type → ⊥
number_applied-untyped env type d =
    let (from, f, g) = of_app core_constants env 3 nowhere (number 1 1) (truth 2 true) type d in
    int_is_no_arrow from type (of_literal core_constants env 1 nowhere _ (from ⇒ type) f)

pub unused_error-untyped : UnusedError
unused_error-untyped (type, d) =
    let (some, f, _) = of_let core_constants Empty 4 nowhere number_applied (number 5 2) type d in
    number_applied-untyped Empty some f

pub two_recursive_uses-untyped : TwoRecursiveUses
two_recursive_uses-untyped (type, d) =
    let body = lambda 4 (apply 3 (name 1 1) (number 2 1)) in
    let (some, w, f, g) = of_let_rec core_constants Empty 5 nowhere _ nowhere body (apply 8 (name 6 0) (truth 7 true)) type d in
    let (from, h, k) = of_app core_constants (Empty ▸ Rec Empty body) 8 nowhere (name 6 0) (truth 7 true) type g in
    let (v, used) = of_known core_constants (Empty ▸ Rec Empty body) 6 nowhere 0 (Rec Empty body) (from ⇒ type) refl h in
    let is_bool = of_literal core_constants (Empty ▸ Rec Empty body) 7 nowhere _ from k in
    let env = Empty ▸ Mono (from ⇒ type) in
    let (arg, result, u, inside, e) = of_fun core_constants env 4 nowhere (apply 3 (name 1 1) (number 2 1)) (from ⇒ type) used in
    let (own, p, q) = of_app core_constants (env ▸ Mono arg) 3 nowhere (name 1 1) (number 2 1) result inside in
    let is = of_known core_constants (env ▸ Mono arg) 1 nowhere 1 (Mono (from ⇒ type)) (own ⇒ result) refl p in
    let is_int = of_literal core_constants (env ▸ Mono arg) 2 nowhere _ own q in
    no_int_and_bool own from is_int is_bool (arrow_parts own result from type is).0
