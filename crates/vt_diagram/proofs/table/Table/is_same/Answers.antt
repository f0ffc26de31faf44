use Rattle.std.proofs.Common.{◌≡◌, ◌↔◌, IsTrue, ap, rules}
use Rattle.vt_diagram.specs.Tables.{tree_at}
use Rattle.vt_diagram.specs.Trees.{value_in}
use Rattle.vt_diagram.proofs.table.Table.is_same.Goals as goal

pub returns : goal.returns
returns g c =
    let equal : IsTrue c.eq.result ↔ (c.args.one ≡ c.args.other) = search rules in
    (λ same d long. ap (λ id. value_in d (tree_at c.args.self.now id)) (equal.0 same), λ agree. equal.1 (c.reduced.ensures.one c.args.one c.args.other c.requires.0 c.requires.1 agree))
