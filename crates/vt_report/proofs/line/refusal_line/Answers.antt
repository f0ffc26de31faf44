use Rattle.vt_report.proofs.line.refusal_line.Goals as goal

pub returns-in-Unbound : goal.returns-in-Unbound
returns-in-Unbound c = rw (c.in-Unbound.is, ← c.as_str-in-Unbound.ensures) c.at_place-in-Unbound.ensures
