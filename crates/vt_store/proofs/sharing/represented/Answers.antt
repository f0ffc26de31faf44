use Rattle.std.proofs.Common.{◌≡◌, ◌∙◌, length, arith}
use Rattle.vt_store.specs.Sharing.{IsRepresented}
use Rattle.vt_store.proofs.Representing.{copies-more}
use Rattle.vt_store.proofs.sharing.represented.Goals as goal

pub loop-diagram-preserved : goal.loop-diagram-preserved
loop-diagram-preserved c =
    let made =
    copies-more (λ cell. IsRepresented c.args.names.now) c.args.diagrams.now c.loop-diagram.copies.items c.push.new.self.items c.loop-diagram.diagram-index c.diagram-item.result c.in_ok-represented.field-0 c.loop-diagram-test.true
    c.diagram-item.is c.in_ok-push.ensures.items c.loop-diagram.invariant.sized c.loop-diagram.invariant.each c.in_ok-represented.ensures
    in
    record { sized = made.0; each = made.1 }

pub returns : goal.returns
returns c =
    let all : c.loop-diagram.diagram-index ≡ length c.args.diagrams.now = omega (arith, c.loop-diagram-test.false, c.loop-diagram.auto.diagram-index-end) in
    record { sized = c.loop-diagram.invariant.sized ∙ all; each = λ cell within. c.loop-diagram.invariant.each cell (omega (arith, all)) }
