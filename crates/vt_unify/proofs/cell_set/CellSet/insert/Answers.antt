use Rattle.std.proofs.lemmas.Map.Views.{length-le_from_below}
use Rattle.vt_unify.proofs.WalkSets.{IsInserted-set}
use Rattle.vt_unify.proofs.cell_set.CellSet.insert.Goals as goal

pub returns-in_err-insert-clause-few : goal.returns-in_err-insert-clause-few
returns-in_err-insert-clause-few c = λ count. length-le_from_below count c.insert.new.self.keys c.insert.ensures.ordered

pub returns-clause-inserted : goal.returns-clause-inserted
returns-clause-inserted c =
    let e = c.in_ok-insert.ensures in
    let done = IsInserted-set c.cell.inside.0 c.self.inside.numbers c.insert.new.self c.in_ok-insert.field-0 e.added e.updates e.unchanged e.len in
    rw (← c.cell.view_is, ← c.self.view_is) done

pub returns-clause-few : goal.returns-clause-few
returns-clause-few c = λ count. length-le_from_below count c.insert.new.self.keys c.insert.ensures.ordered
