use Rattle.vt_norm.proofs.Types.{sound_for_types, unique_for_types, one_form_selects_alike, alike_have_one_form}
use Rattle.vt_norm.proofs.laws.normal_form_of_type.Goals as goal

pub returns-clause-sound : goal.returns-clause-sound
returns-clause-sound c = sound_for_types

pub returns-clause-unique : goal.returns-clause-unique
returns-clause-unique c = unique_for_types

pub returns-clause-alike : goal.returns-clause-alike
returns-clause-alike c = one_form_selects_alike

pub returns-clause-one_form : goal.returns-clause-one_form
returns-clause-one_form c = alike_have_one_form
