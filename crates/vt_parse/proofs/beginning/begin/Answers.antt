use Rattle.std.proofs.Common.{ap, ◌∙◌}
use Rattle.vt_grammar.specs.declared.start.Start.TheVariants.{Opens}
use Rattle.vt_parse.proofs.beginning.begin.Goals as goal

pub opened-requires-clause-sign : goal.opened-requires-clause-sign
opened-requires-clause-sign c = λ e. c.requires.sign (c.in-Opens.is ∙ ap Opens e)
