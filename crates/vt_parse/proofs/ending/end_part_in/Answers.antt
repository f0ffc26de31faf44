use Rattle.std.proofs.Common.{◌∷◌, sym, ap}
use Rattle.vt_grammar.specs.declared.frame.Frame.{Frame}
use Rattle.vt_grammar.specs.Machine.{end_part}
use Rattle.vt_parse.proofs.StepLemmas.{answers-as}
use Rattle.vt_parse.proofs.ending.end_part_in.Goals as goal

pub enclose-requires : goal.enclose-requires
enclose-requires c = rw c.in-Right.is at c.requires.admitted

pub paren_mark-requires : goal.paren_mark-requires
paren_mark-requires c = rw c.in-Paren.is at c.requires.admitted

pub returns-in-Middle : goal.returns-in-Middle
returns-in-Middle c = answers-as c.pass.result _ _ (sym (ap (λ (f : Frame). end_part c.args.mark c.args.at c.args.reader (f ∷ c.args.reader.stack) c.args.operand) c.in-Middle.is)) c.pass.ensures

pub returns-in-Right : goal.returns-in-Right
returns-in-Right c = answers-as c.enclose.result _ _ (sym (ap (λ (f : Frame). end_part c.args.mark c.args.at c.args.reader (f ∷ c.args.reader.stack) c.args.operand) c.in-Right.is)) c.enclose.ensures

pub returns-in-Paren : goal.returns-in-Paren
returns-in-Paren c = answers-as c.paren_mark.result _ _ (sym (ap (λ (f : Frame). end_part c.args.mark c.args.at c.args.reader (f ∷ c.args.reader.stack) c.args.operand) c.in-Paren.is)) c.paren_mark.ensures

pub returns-in-Body : goal.returns-in-Body
returns-in-Body c = answers-as c.end_body.result _ _ (sym (ap (λ (f : Frame). end_part c.args.mark c.args.at c.args.reader (f ∷ c.args.reader.stack) c.args.operand) c.in-Body.is)) c.end_body.ensures
