use Rattle.std.proofs.Common.{rules, ◌^◌, ◌<◌, sym, ◌∙◌, slice_index_or, true≢false, arith}
use Rattle.std.proofs.lemmas.List.Sorted.{answers_always, sorted_far, All-permutation}
use Rattle.std.proofs.lemmas.List.MinMax.{ranks_by}
use Rattle.vt_type.specs.declared.change.ChangeLine.{ChangeLine}
use Rattle.vt_type.specs.Plain.{plain_nodes}
use Rattle.vt_change.specs.Ranking.{standing}
use Rattle.vt_change.proofs.Ranks.{by_standing-total, lower}
use Rattle.vt_change.proofs.ranking.rank.Goals as goal

pub returns-clause-ranked : goal.returns-clause-ranked
returns-clause-ranked c = λ i j d below within before.
    let sorted = c.in_ok-sort_by_key.ensures.sorted standing (answers_always _ _ _ (λ f a r g h. search rules)) in
    let far = sorted_far _ (ranks_by by_standing-total standing) _ sorted i j d (omega (arith, below)) within in
    let counted = All-permutation (λ (line : ChangeLine). plain_nodes line.wanted < 2 ^ 32) _ _ c.sort_by_key.ensures.permutation c.requires.counted in
    let ahead = lower (slice_index_or c.sort_by_key.new.self.items j d) (slice_index_or c.sort_by_key.new.self.items i d) (counted j d within) (counted i d (omega (arith, below, within))) before in
    absurd (true≢false (sym ahead ∙ far))
