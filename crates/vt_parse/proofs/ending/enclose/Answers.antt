use Rattle.vt_grammar.proofs.DepthLemmas.{over-fits}
use Rattle.vt_parse.proofs.ending.enclose.Goals as goal

pub enclosed-requires : goal.enclosed-requires
enclosed-requires c = over-fits c.args.reader.stack _ c.requires
