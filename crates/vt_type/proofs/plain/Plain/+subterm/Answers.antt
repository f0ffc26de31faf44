use Rattle.std.proofs.Common.{sym, ◌∙◌}
use Rattle.vt_type.proofs.SubtermsFit.{subterm-Var}
use Rattle.vt_type.proofs.plain.Plain.+subterm.Goals as goal

pub returns-in-Var : goal.returns-in-Var
returns-in-Var t c = rw c.in-Var.is (sym (subterm-Var _ c.args.path.now (sym c.is_empty.ensures ∙ c.if-is_empty.false)))
