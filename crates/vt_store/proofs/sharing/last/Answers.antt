use Rattle.std.proofs.Common.{◌≡◌, ◌∙◌, ◌-◌, ℕ, get_or, length, ap, sym, subst, arith}
use Rattle.std.proofs.lemmas.List.{get_or_read}
use Rattle.vt_store.specs.declared.diagram.Diagram.{Open, Link}
use Rattle.vt_store.specs.Diagrams.{HasCells}
use Rattle.vt_store.specs.Sharing.{diagram_of, followed}
use Rattle.vt_store.proofs.Straight.{followed-step, followed-end}
use Rattle.vt_store.proofs.sharing.last.Goals as goal

pub loop-preserved : goal.loop-preserved
loop-preserved c =
    let read = subst (λ (place : ℕ). c.index-diagrams-last.result ≡ get_or c.args.diagrams.now place c.index-diagrams-last.result) c.last.view_is c.index-diagrams-last.is in
    let is : diagram_of c.args.diagrams.now c.loop.last ≡ Link c.in-Some.next = sym (get_or_read c.args.diagrams.now c.loop.last c.index-diagrams-last.result c.loop.invariant.within read Open) ∙ c.in-Some.ensures.link in
    record {
      within = subst (HasCells (length c.args.diagrams.now)) is (c.requires.diagrams c.loop.last Open c.loop.invariant.within);
      same = followed-step c.args.diagrams.now (length c.args.diagrams.now) c.loop.counter c.loop.last c.in-Some.next _ c.loop-test.true is c.loop.invariant.same;
    }

pub returns-in-None : goal.returns-in-None
returns-in-None c =
    let read = subst (λ (place : ℕ). c.index-diagrams-last.result ≡ get_or c.args.diagrams.now place c.index-diagrams-last.result) c.last.view_is c.index-diagrams-last.is in
    followed-end c.args.diagrams.now (length c.args.diagrams.now - c.loop.counter) c.loop.last _
    (λ next is. c.target.ensures.none c.in-None.is next (get_or_read c.args.diagrams.now c.loop.last c.index-diagrams-last.result c.loop.invariant.within read Open ∙ is)) c.loop.invariant.same

pub returns : goal.returns
returns c =
    let none : length c.args.diagrams.now - c.loop.counter ≡ 0 = omega (arith, c.loop-test.false) in
    sym (ap (λ (own : ℕ). followed c.args.diagrams.now own c.loop.last) none) ∙ c.loop.invariant.same
