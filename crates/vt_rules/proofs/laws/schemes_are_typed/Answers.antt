use Rattle.vt_rules.proofs.GeneralisingIsTyping.{typed_with_schemes}
use Rattle.vt_rules.proofs.laws.schemes_are_typed.Goals as goal

pub returns : goal.returns
returns c K e type d = typed_with_schemes K e type d
