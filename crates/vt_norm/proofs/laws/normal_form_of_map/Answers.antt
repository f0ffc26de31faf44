use Rattle.vt_norm.proofs.Congruence.{normal_form_along}
use Rattle.vt_norm.proofs.Soundness.{sound}
use Rattle.vt_norm.proofs.Uniqueness.{unique}
use Rattle.vt_norm.proofs.laws.normal_form_of_map.Goals as goal

pub returns-clause-sound : goal.returns-clause-sound
returns-clause-sound g c = sound g.M.Outcomes.map g.M.Outcomes.set

pub returns-clause-unique : goal.returns-clause-unique
returns-clause-unique g c = unique g.M.Outcomes.map g.M.Outcomes.set

pub returns-clause-congruent : goal.returns-clause-congruent
returns-clause-congruent g c same agree type = normal_form_along type _ _ _ _ (record { decisions = same; outcomes = agree })
