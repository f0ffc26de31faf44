use Rattle.std.proofs.Common.{◌≡◌, Some, slice_get, ap, sym, ◌∙◌, arith}
use Rattle.std.specs.Option.{option_copied}
use Rattle.vt_show.proofs.Signs.{position-here, position-later, same_bytes, other_bytes}
use Rattle.vt_show.proofs.Writing.{named}
use Rattle.vt_show.proofs.reader.number_of.Goals as goal

pub unwrap-known-requires : goal.unwrap-known-requires
unwrap-known-requires c = named _ _ c.args.dims.now c.loop-number.number c.name.ensures (omega arith)

pub returns-then-eq : goal.returns-then-eq
returns-then-eq c =
    let at : slice_get c.args.dims.now c.loop-number.number ≡ Some c.unwrap-known.result.now = sym c.name.ensures ∙ ap option_copied c.unwrap-known.ensures in
    sym (position-here _ c.args.dims.now c.loop-number.number _ at (same_bytes _ _ _ c.as_bytes.ensures.value (sym c.eq.ensures ∙ c.if-eq.true)) c.loop-number.invariant)

pub loop-number-preserved : goal.loop-number-preserved
loop-number-preserved c =
    let at : slice_get c.args.dims.now c.loop-number.number ≡ Some c.unwrap-known.result.now = sym c.name.ensures ∙ ap option_copied c.unwrap-known.ensures in
    position-later _ c.args.dims.now c.loop-number.number _ at (other_bytes _ _ _ c.as_bytes.ensures.value (sym c.eq.ensures ∙ c.if-eq.false)) c.loop-number.invariant
