-- The step of each form, from the steps of its parts.

pub use Rattle.vt_infer.proofs.LeafSteps.{literal_step, constant_step, hole_step, mono_step, poly_step, frozen_poly}
pub use Rattle.vt_infer.proofs.FunStep.{fun_step}
pub use Rattle.vt_infer.proofs.AppStep.{app_step}
pub use Rattle.vt_infer.proofs.LetStep.{let_step}
pub use Rattle.vt_infer.proofs.LetRecSteps.{looped, let_rec_step}
