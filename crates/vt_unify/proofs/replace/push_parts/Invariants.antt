use Rattle.std.proofs.Common.{◌≡◌, ◌++◌}
use Rattle.std.specs.Slice.Iter.{iter_rest}
use Rattle.std.specs.Iterator.Adapters.{zip_first, zip_second}
use Rattle.vt_unify.specs.Pairs.{pairs_of}
use Rattle.vt_unify.proofs.replace.push_parts.Given as goal

abbrev pub invariant-loop-left : goal.invariant-loop-left
invariant-loop-left g l = record {
  list : l.pairs.list.items ++ pairs_of l.context (iter_rest (zip_first l.left-iterator)) (iter_rest (zip_second l.left-iterator)) ≡ l.fn.pairs.list.items ++ pairs_of l.context l.lefts l.rights;
  narrowed : l.pairs.narrowed.items ≡ l.fn.pairs.narrowed.items;
}
