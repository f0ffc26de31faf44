use Rattle.std.proofs.Common.{◌≡◌, refl, rules}
use Rattle.vt_store.proofs.Representing.{AreAlike-choice}
use Rattle.vt_store.proofs.diagram.Diagram.+is_alike.Goals as goal

pub returns-else-not-is_alike : goal.returns-else-not-is_alike
returns-else-not-is_alike t c same =
    let dims : c.in-Choice.dim ≡ c.in-Choice-other.own = search rules in
    let left = rw (c.get.ensures, c.get-in-Choice-other.ensures) at (c.if-not-is_alike.ensures refl) in
    let right = rw (c.get-in-Choice-other-2.ensures, c.get-in-Choice-other-3.ensures) at (c.is_alike-in-Choice-other-2.ensures same) in
    AreAlike-choice c.args.names.now c.in-Choice.dim c.in-Choice-other.own c.args.self.now c.args.other.now c.in-Choice.left c.in-Choice.right c.in-Choice-other.one c.in-Choice-other.other
    c.in-Choice.is c.in-Choice-other.is dims left right
