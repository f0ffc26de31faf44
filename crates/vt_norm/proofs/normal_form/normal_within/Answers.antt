use Rattle.std.proofs.Common.{◌≤◌, arith}
use Rattle.std.proofs.lemmas.Result.{IfOk-weaker}
use Rattle.vt_type.specs.Variational.{IsWellFormedV, nodes}
use Rattle.vt_type.specs.NormalForm.{IsNormalFormOf, map_of}
use Rattle.vt_norm.proofs.Normalized.{normalizes-type, normalizes-well_formed}
use Rattle.vt_norm.proofs.normal_form.normal_within.Goals as goal

pub returns-clause-normal : goal.returns-clause-normal
returns-clause-normal c =
    IfOk-weaker c.build.result _ (λ v. IsNormalFormOf v (map_of c.args.vtype.now) × (nodes v ≤ c.args.limit))
    (λ v h. (normalizes-type v c.has_error-careful.result _ c.requires c.has_error-careful.ensures.1 h.0, omega (arith, h.1))) c.build.ensures.built

pub returns-clause-well_formed : goal.returns-clause-well_formed
returns-clause-well_formed c =
    IfOk-weaker c.build.result _ IsWellFormedV (λ v h. normalizes-well_formed v c.has_error-careful.result c.args.vtype.now c.requires h.0) c.build.ensures.built

pub returns-clause-too_big : goal.returns-clause-too_big
returns-clause-too_big c e =
    let beyond = c.build.ensures.too_big e in
    (beyond.0, normalizes-type beyond.0 c.has_error-careful.result _ c.requires c.has_error-careful.ensures.1 beyond.1, beyond.2)
