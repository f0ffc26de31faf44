use Rattle.vt_scheme.proofs.Merging.{IsFrozen-both}
use Rattle.vt_scheme.proofs.scheme.freeze.Goals as goal

pub turns-init : goal.turns-init
turns-init g c = IsFrozen-both g.row.N c.args.store.now c.args.monos.now c.args.root c.in_ok-scheme.scheme c.in_ok-scheme-2.scheme c.in_ok-scheme.ensures c.in_ok-scheme-2.ensures

pub turns-preserved : goal.turns-preserved
turns-preserved g c = IsFrozen-both g.row.N c.args.store.now c.args.monos.now c.args.root c.turns.scheme c.in_ok-merged.merged c.turns.invariant c.in_ok-merged.ensures

pub returns-then-count : goal.returns-then-count
returns-then-count g c = record {
  frozen = IsFrozen-both g.row.N c.args.store.now c.args.monos.now c.args.root c.turns.scheme c.in_ok-merged.merged c.turns.invariant c.in_ok-merged.ensures;
}
