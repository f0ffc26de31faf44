use Rattle.std.proofs.Common.{◌<◌, ◌≤◌, arith}
use Rattle.vt_dec.proofs.WordBits.{size_of, size_of_more, size_of_all}
use Rattle.vt_dec.proofs.dim_set.DimSet.has_at_most.Goals as goal

pub returns-then-left-ones : goal.returns-then-left-ones
returns-then-left-ones g c =
    let words = c.self.inside.words in
    let over : c.args.bound < size_of words = omega (arith, size_of_more g.row.N words c.self.invariant c.loop-word.word-index (omega arith)) in
    rw (← c.self.view_is) (grind arith)

pub loop-word-preserved : goal.loop-word-preserved
loop-word-preserved g c =
    omega (arith, size_of_more g.row.N c.self.inside.words c.self.invariant c.loop-word.word-index (omega arith))

pub returns : goal.returns
returns g c =
    let words = c.self.inside.words in
    let under : size_of words ≤ c.args.bound = omega (arith, size_of_all words c.loop-word.word-index (omega arith)) in
    rw (← c.self.view_is) (grind arith)
