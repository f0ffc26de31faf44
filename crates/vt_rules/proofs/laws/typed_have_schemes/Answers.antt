use Rattle.vt_rules.proofs.TypingGeneralises.{schemes_of_typed}
use Rattle.vt_rules.proofs.laws.typed_have_schemes.Goals as goal

pub returns : goal.returns
returns c K most e type d = schemes_of_typed K most e type d
