use Rattle.vt_norm.proofs.Nodes.{restricted-left, restricted-right, restricted-other, kids_restricted-more}
use Rattle.vt_norm.proofs.parts.+restrict.Goals as goal

pub kids_restricted-returns-in_ok-others-in-More :
    goal.kids_restricted-returns-in_ok-others-in-More
kids_restricted-returns-in_ok-others-in-More t c =
    rw (kids_restricted-more _ _ _ _ _ c.in-More.is, ← c.get.ensures, ← c.in_ok-first-in-More.ensures, ← c.get-in-More.ensures, ← c.in_ok-others-in-More.ensures) c.more.ensures

pub restricted-returns-in-Left : goal.restricted-returns-in-Left
restricted-returns-in-Left t c =
    rw (restricted-left _ _ _ _ _ _ c.in-Choice.is c.if-eq.ensures c.in-Left.is, ← c.get.ensures) c.restricted.ensures

pub restricted-returns-in-Right : goal.restricted-returns-in-Right
restricted-returns-in-Right t c =
    rw (restricted-right _ _ _ _ _ _ c.in-Choice.is c.if-eq.ensures c.in-Right.is, ← c.get-in-Right.ensures) c.restricted-in-Right.ensures

pub restricted-returns-in_ok-right-in-Choice : goal.restricted-returns-in_ok-right-in-Choice
restricted-returns-in_ok-right-in-Choice t c =
    rw (restricted-other _ _ _ _ _ _ c.in-Choice.is c.if-eq.ensures, ← c.get-in-Choice.ensures, ← c.in_ok-left-in-Choice.ensures, ← c.get-in-Choice-2.ensures, ← c.in_ok-right-in-Choice.ensures) c.choice.ensures
