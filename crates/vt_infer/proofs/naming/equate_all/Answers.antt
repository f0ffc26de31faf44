use Rattle.std.proofs.Common.{◌≡◌, length, refl, arith, slice_get, Some}
use Rattle.std.proofs.lemmas.Option.{slice_get_read}
use Rattle.vt_infer.proofs.Uses.{equated-none, equated-next}
use Rattle.vt_infer.proofs.naming.equate_all.Goals as goal

pub loop-index-init : goal.loop-index-init
loop-index-init g c = record {
  equated = equated-none g.row.N c.args.within.now c.args.store.now c.args.pattern.now c.args.copies.now c.args.originals.now c.args.node;
}

pub loop-index-preserved : goal.loop-index-preserved
loop-index-preserved g c =
    let of_copies : slice_get c.args.copies.now c.loop-index.index ≡ Some c.index-copies-index.result = slice_get_read c.args.copies.now (length c.args.copies.now) c.loop-index.index c.index-copies-index.result refl (omega arith) c.index-copies-index.is in
    let of_originals : slice_get c.args.originals.now c.loop-index.index ≡ Some c.index-originals-index.result = slice_get_read c.args.originals.now (length c.args.originals.now) c.loop-index.index c.index-originals-index.result refl (omega arith) c.index-originals-index.is in
    record {
      equated = equated-next g.row.N c.args.within.now c.args.store.now c.loop-index.store c.unify.new.store c.args.pattern.now c.loop-index.pattern c.unify.new.pattern
          c.loop-index.index c.index-copies-index.result c.index-originals-index.result c.args.node c.args.copies.now c.args.originals.now of_copies of_originals c.loop-index.invariant.equated c.in_ok-unify.ensures.ok;
    }
