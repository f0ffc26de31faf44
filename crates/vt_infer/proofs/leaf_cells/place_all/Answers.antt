use Rattle.std.proofs.Common.{rules, ◌∙◌, ap, sym, subst, add-one, take, refl, arith}
use Rattle.std.specs.List.{Contains}
use Rattle.vt_infer.specs.Mixing.{ArePlaced, cell_in}
use Rattle.vt_infer.proofs.InferredLemmas.{item_at}
use Rattle.vt_infer.proofs.KnownLemmas.{take-at}
use Rattle.vt_infer.proofs.MixingLemmas.{grows-then, placed-next}
use Rattle.vt_infer.proofs.leaf_cells.place_all.Goals as goal

pub place-requires : goal.place-requires
place-requires g c =
    let is : Contains c.args.met.now c.hole-item.result = (c.loop-hole.hole-index, c.loop-hole-test.true, sym c.hole-item.is) in (
      search rules,
      (
        search rules,
        (
          omega (arith, c.requires.cells c.hole-item.result is, c.loop-hole.invariant.0.more),
          (c.requires.spaces c.hole-item.result is ∙ sym c.loop-hole.invariant.0.space, c.loop-hole.invariant.1.cells c.hole-item.result.node),
        ),
      ),
    )

pub loop-hole-preserved : goal.loop-hole-preserved
loop-hole-preserved g c =
    let is = item_at c.args.met.now c.args.met.now c.loop-hole.hole-index c.hole-item.result refl c.loop-hole-test.true c.hole-item.is in (
      grows-then g.row.N c.args.store.now c.loop-hole.store c.place.new.store c.loop-hole.invariant.0 c.in_ok-place.ensures.made.grows,
      subst (λ list. ArePlaced {N = g.row.N} c.place.new.store list (cell_in c.place.new.known c.args.main)) (sym (ap (λ count. take count c.args.met.now) (add-one c.loop-hole.hole-index) ∙ take-at c.args.met.now c.loop-hole.hole-index c.hole-item.result is))
          (placed-next g.row.N c.loop-hole.store c.place.new.store (take c.loop-hole.hole-index c.args.met.now) c.hole-item.result c.loop-hole.known c.place.new.known c.args.main c.loop-hole.invariant.1 c.in_ok-place.ensures),
    )
