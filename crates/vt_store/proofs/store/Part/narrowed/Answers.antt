use Rattle.std.proofs.Common.{subst, ◌∙◌, arith}
use Rattle.vt_store.specs.declared.store.Part.{Part}
use Rattle.vt_store.specs.Narrowing.{IsWhole}
use Rattle.vt_store.proofs.Narrowed.{IsNarrowed-itself, IsNarrowed-both, IsWhole-else}
use Rattle.vt_store.proofs.store.Part.narrowed.Goals as goal

pub returns-in-AtMost : goal.returns-in-AtMost
returns-in-AtMost g c = IsNarrowed-itself g.row.N c.args.self c.requires

pub loop-dim-init : goal.loop-dim-init
loop-dim-init g c = record {
  narrowed = IsNarrowed-itself g.row.N c.args.self c.requires;
  whole = subst (λ (own : Part g.row.N). IsWhole own.store.space) c.self.view_is (IsWhole-else c.self.inside.0.0.space c.in_default.not-AtMost);
}

pub loop-dim-preserved : goal.loop-dim-preserved
loop-dim-preserved g c = c.loop-dim.invariant

pub loop-dim-preserved-then-dim : goal.loop-dim-preserved-then-dim
loop-dim-preserved-then-dim g c = record {
  narrowed = IsNarrowed-both g.row.N c.args.self.store c.args.self.cells c.args.self.root c.loop-dim.part c.in_ok-part.part c.loop-dim.invariant.narrowed c.in_ok-part.ensures;
  whole = c.in_ok-part.ensures.space ∙ c.loop-dim.invariant.whole;
}

pub narrowed_at-requires : goal.narrowed_at-requires
narrowed_at-requires g c = (omega arith, (c.loop-dim.invariant.narrowed.inside, (c.loop-dim.invariant.whole, omega (arith, c.if-dim.true))))

pub returns : goal.returns
returns g c = c.loop-dim.invariant.narrowed
