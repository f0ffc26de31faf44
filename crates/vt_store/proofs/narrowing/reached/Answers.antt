use Rattle.std.proofs.Common.{◌≡◌, ◌∙◌, List, ℕ, ◌++◌, ◌∷◌, [], get_or, subst, ap, arith}
use Rattle.vt_store.specs.Narrowing.{IsAdded}
use Rattle.vt_store.proofs.Walking.{IsWalked-start, IsWalked-again, IsWalked-onward, ahead_of-again, ahead_of-onward, IsReached-end}
use Rattle.vt_store.proofs.narrowing.reached.Goals as goal

pub loop-cell-init : goal.loop-cell-init
loop-cell-init c =
    let cells = c.in_ok-ahead.ensures.items ∙ c.as_slice.ensures in
    IsWalked-start c.args.diagrams.now c.args.dim c.args.side c.args.cells.now c.args.root c.new-found.result c.push.new.self.items c.new-found.ensures
    (c.in_ok-push.ensures.items ∙ ap (λ (own : List ℕ). own ++ c.args.root ∷ []) cells) c.requires.cells c.requires.root

pub loop-cell-preserved : goal.loop-cell-preserved
loop-cell-preserved c =
    IsWalked-again c.args.diagrams.now c.args.dim c.args.side c.args.cells.now c.args.root c.loop-cell.found c.loop-cell.ahead.items c.pop.new.self.items c.add.new.self c.in-Some.cell
    c.loop-cell.invariant c.in-Some.ensures.items (subst (IsAdded c.loop-cell.found c.add.new.self c.in-Some.cell) c.if-branch.false c.in_ok-add.ensures.added)

pub loop-cell-smaller : goal.loop-cell-smaller
loop-cell-smaller c =
    let added = subst (IsAdded c.loop-cell.found c.add.new.self c.in-Some.cell) c.if-branch.false c.in_ok-add.ensures.added in
    ahead_of-again c.args.diagrams.now c.args.dim c.args.side c.args.cells.now c.args.root c.loop-cell.found c.loop-cell.ahead.items c.pop.new.self.items c.add.new.self c.in-Some.cell
    c.loop-cell.invariant c.in-Some.ensures.items added.0

pub loop-cell-preserved-in-Continue-branch-4 : goal.loop-cell-preserved-in-Continue-branch-4
loop-cell-preserved-in-Continue-branch-4 c =
    let added = subst (IsAdded c.loop-cell.found c.add.new.self c.in-Some.cell) c.if-branch.true c.in_ok-add.ensures.added in
    let read = subst (λ (place : ℕ). c.index-diagrams-cell.result ≡ get_or c.args.diagrams.now place c.index-diagrams-cell.result) c.cell.view_is c.index-diagrams-cell.is in
    IsWalked-onward c.args.diagrams.now c.args.dim c.args.side c.args.cells.now c.args.root c.loop-cell.found c.loop-cell.ahead.items c.pop.new.self.items c.add.new.self c.in-Some.cell
    c.loop-cell.invariant c.in-Some.ensures.items c.push_named.new.cells.items c.index-diagrams-cell.result read added c.in_ok-push_named.ensures c.requires.diagrams

pub loop-cell-smaller-in-Continue-branch-4 : goal.loop-cell-smaller-in-Continue-branch-4
loop-cell-smaller-in-Continue-branch-4 c =
    let added = subst (IsAdded c.loop-cell.found c.add.new.self c.in-Some.cell) c.if-branch.true c.in_ok-add.ensures.added in
    let read = subst (λ (place : ℕ). c.index-diagrams-cell.result ≡ get_or c.args.diagrams.now place c.index-diagrams-cell.result) c.cell.view_is c.index-diagrams-cell.is in
    ahead_of-onward c.args.diagrams.now c.args.dim c.args.side c.args.cells.now c.args.root c.loop-cell.found c.loop-cell.ahead.items c.pop.new.self.items c.add.new.self c.in-Some.cell
    c.loop-cell.invariant c.in-Some.ensures.items c.push_named.new.cells.items c.index-diagrams-cell.result read added c.in_ok-push_named.ensures c.in_ok-add.ensures.few

pub returns : goal.returns
returns c = IsReached-end c.args.diagrams.now c.args.dim c.args.side c.args.cells.now c.args.root c.loop-cell.found c.loop-cell.ahead.items c.loop-cell.invariant (omega (arith, c.in_default.ensures.cases.0, c.loop-cell.ahead.ok))
