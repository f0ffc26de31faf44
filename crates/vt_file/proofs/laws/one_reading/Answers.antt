use Rattle.vt_file.proofs.OneReading.{core_once, one_refusal, never_refused}
use Rattle.vt_file.proofs.laws.one_reading.Goals as goal

pub returns-clause-source : goal.returns-clause-source
returns-clause-source c = core_once

pub returns-clause-cause : goal.returns-clause-cause
returns-clause-cause c = one_refusal

pub returns-clause-never_both : goal.returns-clause-never_both
returns-clause-never_both c = never_refused
