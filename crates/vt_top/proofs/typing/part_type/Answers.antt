use Rattle.std.proofs.Common.{ap, Err, arith}
use Rattle.vt_top.proofs.PartTypes.{taken, part_normal}
use Rattle.vt_top.proofs.typing.part_type.Goals as goal

pub returns-in-Ok-clause-typed : goal.returns-in-Ok-clause-typed
returns-in-Ok-clause-typed c =
    let typed = c.args.typed.now in
    let is = c.requires.inferred in
    let scheme = taken typed.schemes c.as_slice.result.now c.args.part c.index-as_slice-part.result c.index-as_slice-part.is c.as_slice.ensures (omega (arith, is.scheme_count, c.requires.within)) in
    let mark = taken typed.marks c.as_slice-2.result.now c.args.part c.index-as_slice-part-2.result c.index-as_slice-part-2.is c.as_slice-2.ensures (omega (arith, is.mark_count, c.requires.within)) in
    record {
      normal = part_normal c.args.core.now typed is c.args.part c.index-as_slice-part.result c.index-as_slice-part-2.result scheme mark c.in-Ok.normal c.in-Ok.ensures.normal.0;
      small = c.in-Ok.ensures.normal.1;
    }

pub returns-in-Ok-part_name-clause-fault : goal.returns-in-Ok-part_name-clause-fault
returns-in-Ok-part_name-clause-fault c =
    let typed = c.args.typed.now in
    let is = c.requires.inferred in
    let scheme = taken typed.schemes c.as_slice.result.now c.args.part c.index-as_slice-part.result c.index-as_slice-part.is c.as_slice.ensures (omega (arith, is.scheme_count, c.requires.within)) in
    let mark = taken typed.marks c.as_slice-2.result.now c.args.part c.index-as_slice-part-2.result c.index-as_slice-part-2.is c.as_slice-2.ensures (omega (arith, is.mark_count, c.requires.within)) in
    let large = c.in-Err-TooBig.ensures.too_big (ap Err c.in-Err-TooBig.field-0-is) in (
      record {
        type = large.0;
        normal = part_normal c.args.core.now typed is c.args.part c.index-as_slice-part.result c.index-as_slice-part-2.result scheme mark large.0 large.1;
        large = large.2;
      },
      c.in-Ok-part_name.ensures,
    )
