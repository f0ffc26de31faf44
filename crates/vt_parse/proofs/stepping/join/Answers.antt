use Rattle.vt_parse.proofs.stepping.join.Goals as goal

pub reduce-requires : goal.reduce-requires
reduce-requires c = c.requires
