use Rattle.std.proofs.Common.{◌≡◌, ◌-◌, ℕ, List, suc, subst, arith}
use Rattle.vt_store.specs.Sharing.{AreRepresentatives, IsFoundFor}
use Rattle.vt_store.proofs.Representing.{AreRepresentatives-more}
use Rattle.vt_store.proofs.sharing.representatives.Goals as goal

pub loop-cell-preserved : goal.loop-cell-preserved
loop-cell-preserved c =
    let last : c.loop-cell.cell ≡ suc (c.loop-cell.cell - 1) = omega (arith, c.loop-cell-test.true) in
    record {
      within = omega (arith, c.loop-cell.invariant.within);
      are =
          AreRepresentatives-more c.args.diagrams.now c.loop-cell.names.items (c.loop-cell.cell - 1) c.in_ok-name.name c.requires
          (subst (λ from. AreRepresentatives c.args.diagrams.now from c.loop-cell.names.items) last c.loop-cell.invariant.are)
          (omega (arith, c.loop-cell-test.true, c.loop-cell.invariant.within))
          (subst (λ (own : List ℕ). IsFoundFor c.args.diagrams.now own (c.loop-cell.cell - 1) c.in_ok-name.name) c.deref.ensures.value c.in_ok-name.ensures);
    }
