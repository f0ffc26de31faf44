use Rattle.std.proofs.Common.{◌*◌, sym}
use Rattle.vt_diagram.specs.Renaming.{AreRenamed, IsRenamed}
use Rattle.vt_diagram.proofs.Renamings.{known-grown, known-more, renamed-leaf, renamed-choice}
use Rattle.vt_diagram.proofs.table.Table.+renamed_from.Goals.{in-Leaf+in_ok-own-in-Leaf, in-Choice+in_ok-left-in-Choice+in_ok-right-in-Choice+in_ok-own-in-Choice}
use Rattle.vt_diagram.proofs.table.Table.+renamed_from.Goals as goal

pub returns-in-Some-clause-renamed : goal.returns-in-Some-clause-renamed
returns-in-Some-clause-renamed g t c = c.requires.known c.args.id c.in-Some.own.now (sym c.in-Some.ensures.value)

pub returns-clause-known : goal.returns-clause-known
returns-clause-known g t c =
    let all : AreRenamed (64 * g.row.N) c.args.names.now c.args.other.now c.match-top.self c.match-top.known = elim c.match-top.branch [
      | in-Leaf+in_ok-own-in-Leaf w ↦ rw (w.self-is, w.known-is) (known-grown (64 * g.row.N) c.args.names.now c.args.other.now c.args.self.now w.leaf.new.self c.args.known.now w.leaf.ensures.grows c.requires.known)
      | in-Choice+in_ok-left-in-Choice+in_ok-right-in-Choice+in_ok-own-in-Choice w ↦ rw (w.self-is, w.known-is)
          (known-grown (64 * g.row.N) c.args.names.now c.args.other.now w.renamed_from-in-Choice.new.self w.choice.new.self w.renamed_from-in-Choice.new.known w.choice.ensures.grows w.in_ok-right-in-Choice.ensures.known)
    ] in
    let one : IsRenamed (64 * g.row.N) c.args.names.now c.args.other.now c.match-top.self c.args.id c.match-top.own = elim c.match-top.branch [
      | in-Leaf+in_ok-own-in-Leaf w ↦ rw (w.self-is, w.own-is)
          (renamed-leaf (64 * g.row.N) c.args.names.now c.args.other.now w.leaf.new.self c.args.id _ _ _ c.requires.held w.in-Leaf.ensures w.in_ok-own-in-Leaf.ensures.is.0 w.in_ok-own-in-Leaf.ensures.is.1 w.name_of.ensures)
      | in-Choice+in_ok-left-in-Choice+in_ok-right-in-Choice+in_ok-own-in-Choice w ↦ rw (w.self-is, w.own-is)
          (renamed-choice (64 * g.row.N) c.args.names.now c.args.other.now w.renamed_from.new.self w.renamed_from-in-Choice.new.self w.choice.new.self c.args.id _ _ _ _ _ _ c.requires.held w.in-Choice.ensures
          w.renamed_from-in-Choice.ensures.grows w.in_ok-left-in-Choice.ensures.renamed w.in_ok-right-in-Choice.ensures.renamed w.choice.ensures.grows w.in_ok-own-in-Choice.ensures.is)
    ] in
    known-more (64 * g.row.N) c.args.names.now c.args.other.now c.match-top.self c.match-top.known c.insert.new.self c.args.id c.match-top.own all one c.in_ok-insert.ensures.updates
