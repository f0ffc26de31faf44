use Rattle.vt_grammar.proofs.DepthLemmas.{over-fits}
use Rattle.vt_parse.proofs.ending.paren_mark.Goals as goal

pub wrapped-whole-requires : goal.wrapped-whole-requires
wrapped-whole-requires c = over-fits c.args.reader.stack _ c.requires
