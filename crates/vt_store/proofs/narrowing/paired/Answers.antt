use Rattle.std.proofs.Common.{◌≡◌, length, refl, ap, arith}
use Rattle.vt_store.proofs.Pairing.{ArePairedBelow-none, ArePairedBelow-more}
use Rattle.vt_store.proofs.narrowing.paired.Goals as goal

pub loop-place-init : goal.loop-place-init
loop-place-init c = ArePairedBelow-none c.args.diagrams.now c.args.ones.now c.args.others.now c.in_ok-names.names.items c.in_ok-names.ensures

pub loop-place-preserved : goal.loop-place-preserved
loop-place-preserved c =
    let ones : c.as_slice-ones.result.now ≡ c.args.ones.now = c.as_slice-ones.ensures.cells in
    let others : c.as_slice-others.result.now ≡ c.args.others.now = c.as_slice-others.ensures.cells in
    let ones : length c.as_slice-ones.result.now ≡ length c.args.ones.now = ap length ones in
    let others : length c.as_slice-others.result.now ≡ length c.args.others.now = ap length others in
    rw (c.as_slice-ones.ensures.cells, c.as_slice-others.ensures.cells)
    (ArePairedBelow-more (length c.args.diagrams.now) c.args.ones.now c.args.others.now c.loop-place.names.items c.loop-place.place _ _ c.loop-place.invariant c.requires
    (omega (arith, c.loop-place-test.true, c.min-place-end.ensures, ones), refl)
    (omega (arith, c.loop-place-test.true, c.min-place-end.ensures, others), refl))

pub returns : goal.returns
returns c = record { sized = c.loop-place.invariant.sized; distinct = c.as_slice-ones.ensures.distinct; each = c.loop-place.invariant.each }
