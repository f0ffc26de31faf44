use Rattle.std.proofs.Common.{nat_eq, ap, sym, ◌∙◌}
use Rattle.std.specs.List.{position}
use Rattle.vt_change.proofs.Indexing.{leaf_index-position}
use Rattle.vt_change.proofs.leaf_numbers.LeafNumbers.dim.Goals as goal

pub returns-in_err-index : goal.returns-in_err-index
returns-in_err-index c = λ leaves are.
    c.from_residual.ensures ∙ sym (c.in_err-index.was) ∙ c.get_index_of.ensures.index
    ∙ ap (position (nat_eq c.args.node)) (c.self.view_is ∙ are.are) ∙ sym (leaf_index-position leaves c.args.node)

pub returns : goal.returns
returns c = λ leaves are.
    sym (c.in_ok-index.was) ∙ c.get_index_of.ensures.index
    ∙ ap (position (nat_eq c.args.node)) (c.self.view_is ∙ are.are) ∙ sym (leaf_index-position leaves c.args.node)
