use Rattle.vt_lex.proofs.OneReading.{one_list, one_miss, never_both}
use Rattle.vt_lex.proofs.laws.one_reading.Goals as goal

pub returns-clause-tokens : goal.returns-clause-tokens
returns-clause-tokens c = one_list

pub returns-clause-miss : goal.returns-clause-miss
returns-clause-miss c = one_miss

pub returns-clause-never_both : goal.returns-clause-never_both
returns-clause-never_both c = never_both
