use Rattle.std.proofs.lemmas.Bool.Decides.{Decides-eqb}
use Rattle.std.proofs.lemmas.Slice.Eq.{strip_prefix_is}
use Rattle.vt_show.proofs.Signs.{after_is}
use Rattle.vt_show.proofs.reader.after.Goals as goal

pub returns-clause-rest : goal.returns-clause-rest
returns-clause-rest c =
    after_is (λ x. x.now) c.strip_prefix.result c.args.sign.now c.args.text.now (strip_prefix_is Decides-eqb c.args.text.now c.args.sign.now _ c.strip_prefix.ensures.cases)
