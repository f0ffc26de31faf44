use Rattle.std.proofs.lemmas.List.Sorted.{All-permutation}
use Rattle.vt_syntax.specs.Programs.{whole}
use Rattle.vt_change.specs.Curing.{IsSmall, AreFormed}
use Rattle.vt_change.proofs.ListedLemmas.{listed-ranked, listed-counted}
use Rattle.vt_change.proofs.listing.changes.Goals as goal

pub rank-requires : goal.rank-requires
rank-requires c =
    let listed = c.in_ok-lines.ensures.listed c.args.constants.now c.args.core.now c.args.leaves.now c.in_ok-varied.ensures.stands c.requires.plain c.requires.leaves in
    record { counted = listed-counted c.in_ok-lines.lines.items listed.small }

pub returns-in-Ok-clause-changes : goal.returns-in-Ok-clause-changes
returns-in-Ok-clause-changes c =
    let listed = c.in_ok-lines.ensures.listed c.args.constants.now c.args.core.now c.args.leaves.now c.in_ok-varied.ensures.stands c.requires.plain c.requires.leaves in
    listed-ranked c.args.constants.now (whole c.args.core.now) c.args.leaves.now c.in_ok-lines.lines.items c.rank.new.lines.items listed c.rank.ensures.same c.in-Ok.ensures.ranked

pub returns-in-Ok-clause-small : goal.returns-in-Ok-clause-small
returns-in-Ok-clause-small c =
    let listed = c.in_ok-lines.ensures.listed c.args.constants.now c.args.core.now c.args.leaves.now c.in_ok-varied.ensures.stands c.requires.plain c.requires.leaves in
    All-permutation IsSmall c.in_ok-lines.lines.items c.rank.new.lines.items c.rank.ensures.same listed.small

pub returns-in-Ok-clause-formed : goal.returns-in-Ok-clause-formed
returns-in-Ok-clause-formed c =
    let listed = c.in_ok-lines.ensures.listed c.args.constants.now c.args.core.now c.args.leaves.now c.in_ok-varied.ensures.stands c.requires.plain c.requires.leaves in
    All-permutation AreFormed c.in_ok-lines.lines.items c.rank.new.lines.items c.rank.ensures.same listed.formed
