use Rattle.std.proofs.Common.{◌∙◌, ap}
use Rattle.vt_store.specs.Patterns.{fate_at}
use Rattle.vt_change.proofs.AnswerLemmas.{fate_none}
use Rattle.vt_change.proofs.typing.Varied.plain_fate.Goals as goal

pub returns : goal.returns
returns c = record {
  fate = rw (← c.self.view_is) (λ K core leaves h plain. fate_none K core leaves _ h plain c.fate.result (c.fate.ensures ∙ ap (fate_at c.self.inside.typed.pattern) c.all_left.ensures));
}
