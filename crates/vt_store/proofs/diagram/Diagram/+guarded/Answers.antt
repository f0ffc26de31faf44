use Rattle.std.proofs.Common.{ap, subst, ◌∙◌}
use Rattle.vt_dec.specs.declared.side.Side.{Side}
use Rattle.vt_store.specs.declared.diagram.Diagram.{Diagram}
use Rattle.vt_store.specs.Writes.{IsWrite, IsNextAt}
use Rattle.vt_store.specs.Diagrams.{end_in, choice}
use Rattle.vt_store.proofs.Writing.{guarded_left, guarded_right, next_start, if_ok}
use Rattle.vt_store.proofs.DiagramShapes.{IsBehind-from, guard_left, guard_right, end_in-made}
use Rattle.vt_store.proofs.diagram.Diagram.+guarded.Goals as goal

pub returns-in-None-clause-ordered : goal.returns-in-None-clause-ordered
returns-in-None-clause-ordered g t c long start behind written = IsBehind-from _ _ _ _ start written

pub returns-in-Left-clause-ordered : goal.returns-in-Left-clause-ordered
returns-in-Left-clause-ordered g t c long start behind written =
    let found = c.in-Some.ensures in
    let next = next_start c.args.below.now c.in-Some.decided.0 c.in_ok-next-in-Some.next c.in_ok-next-in-Some.ensures found.before in
    if_ok _ _ c.choice.result (λ diagram is. guard_left _ c.args.within.now _ c.args.below.now c.in-Some.decided.0 c.in_ok-next-in-Some.next c.in-Some.decided.1 c.args.self.now c.in_ok-written-in-Some.written diagram
    long c.in_ok-next-in-Some.ensures found next behind (c.in_ok-written-in-Some.ensures.ordered long next behind written) (is ∙ ap (choice _ _) c.in_ok-kept-in-Some.ensures)) c.choice.ensures

pub returns-in-Right-clause-ordered : goal.returns-in-Right-clause-ordered
returns-in-Right-clause-ordered g t c long start behind written =
    let found = c.in-Some.ensures in
    let next = next_start c.args.below.now c.in-Some.decided.0 c.in_ok-next-in-Some.next c.in_ok-next-in-Some.ensures found.before in
    if_ok _ _ c.choice-in-Right.result (λ diagram is. guard_right _ c.args.within.now _ c.args.below.now c.in-Some.decided.0 c.in_ok-next-in-Some.next c.in-Some.decided.1 c.args.self.now c.in_ok-written-in-Some.written diagram
    long c.in_ok-next-in-Some.ensures found next behind (c.in_ok-written-in-Some.ensures.ordered long next behind written) (is ∙ ap (λ (kept : Diagram). choice c.in-Some.decided.0 kept c.in_ok-written-in-Some.written) c.in_ok-kept-in-Some.ensures)) c.choice-in-Right.ensures

pub returns-in-Left-clause-writes : goal.returns-in-Left-clause-writes
returns-in-Left-clause-writes g t c =
    let found = subst (λ (side : Side). IsNextAt c.args.within.now c.args.from c.args.below.now c.in-Some.decided.0 side) c.in-Left.is c.in-Some.ensures in
    if_ok _ _ c.choice.result (λ diagram is change long behind.
    subst (IsWrite g.row.N c.args.within.now c.args.from change (λ d. end_in d c.args.self.now)) (end_in-made c.in-Some.decided.0 c.in_ok-written-in-Some.written c.args.self.now diagram (is ∙ ap (choice _ _) c.in_ok-kept-in-Some.ensures))
    (guarded_left g.row.N c.args.within.now c.args.from c.args.below.now c.in-Some.decided.0 c.in_ok-next-in-Some.next change
    (λ d. end_in d c.args.self.now) (λ d. end_in d c.in_ok-written-in-Some.written) (λ d. end_in d c.args.written)
    long c.in_ok-next-in-Some.ensures (c.in_ok-written-in-Some.ensures.writes change long) behind found)) c.choice.ensures

pub returns-in-Right-clause-writes : goal.returns-in-Right-clause-writes
returns-in-Right-clause-writes g t c =
    let found = subst (λ (side : Side). IsNextAt c.args.within.now c.args.from c.args.below.now c.in-Some.decided.0 side) c.in-Right.is c.in-Some.ensures in
    if_ok _ _ c.choice-in-Right.result (λ diagram is change long behind.
    subst (IsWrite g.row.N c.args.within.now c.args.from change (λ d. end_in d c.args.self.now)) (end_in-made c.in-Some.decided.0 c.args.self.now c.in_ok-written-in-Some.written diagram (is ∙ ap (λ (kept : Diagram). choice c.in-Some.decided.0 kept c.in_ok-written-in-Some.written) c.in_ok-kept-in-Some.ensures))
    (guarded_right g.row.N c.args.within.now c.args.from c.args.below.now c.in-Some.decided.0 c.in_ok-next-in-Some.next change
    (λ d. end_in d c.args.self.now) (λ d. end_in d c.in_ok-written-in-Some.written) (λ d. end_in d c.args.written)
    long c.in_ok-next-in-Some.ensures (c.in_ok-written-in-Some.ensures.writes change long) behind found)) c.choice-in-Right.ensures
