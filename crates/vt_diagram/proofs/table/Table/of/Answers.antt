use Rattle.std.proofs.Common.{◌*◌}
use Rattle.std.proofs.lemmas.Result.{IfOk-weaker}
use Rattle.vt_dec.specs.Decisions.{Admits}
use Rattle.vt_diagram.specs.Regions.{IsRegion, IsRegionFrom}
use Rattle.vt_diagram.proofs.Contexts.{region-whole}
use Rattle.vt_diagram.proofs.table.Table.of.Goals as goal

pub returns-clause-of : goal.returns-clause-of
returns-clause-of g c =
    IfOk-weaker c.of_from.result (IsRegionFrom (64 * g.row.N) c.args.within.now 0 c.of_from.new.self) (IsRegion g.row.N c.args.within.now.space c.of_from.new.self (Admits c.args.within.now))
    (λ id known. region-whole g.row.N c.args.within.now c.of_from.new.self id c.sized.ensures.sized known) c.of_from.ensures.of
