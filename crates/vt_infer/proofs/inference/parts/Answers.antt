use Rattle.std.proofs.Common.{◌∙◌, rules, refl, subst, sym}
use Rattle.vt_infer.specs.Environments.{IsHeld}
use Rattle.vt_infer.proofs.FoundLemmas.{found_as}
use Rattle.vt_infer.proofs.GoingOn.{held-later}
use Rattle.vt_infer.proofs.InferredLemmas.{main_ready, inferred_as}
use Rattle.vt_infer.proofs.inference.parts.Goals as goal

pub expression-requires : goal.expression-requires
expression-requires g c = (
  search rules,
  (
    search rules,
    (
      search rules,
      main_ready g.row.N c.args.constants.now c.requires.table c.args.within.now c.args.core.now c.requires.covers c.definitions.new.work c.definitions.new.marks c.in_ok-definitions.ensures.reached,
    ),
  ),
)

pub generalise-requires : goal.generalise-requires
generalise-requires g c =
    let expressed = c.in_ok-main.ensures.expressed in
    let old = c.definitions.new.work in
    let new = c.expression.new.work in (
      search rules,
      (expressed.is_cell, subst (IsHeld new.store) (sym expressed.environment) (held-later old.store new.store old.environment expressed.goes_on.space expressed.goes_on.grows c.in_ok-definitions.ensures.reached.held)),
    )

pub returns : goal.returns
returns g c = record {
  inferred = inferred_as g.row.N c.args.constants.now c.requires.table c.args.within.now c.args.core.now c.requires.covers c.definitions.new.work c.definitions.new.marks c.in_ok-definitions.ensures.reached
      c.in_ok-main.main c.expression.new.work c.in_ok-main.ensures.expressed c.solvable.ensures c.solvable-2.ensures c.generalise.new.work.environment c.in_ok-generalise.ensures.entry c.last_node.result c.last_node.ensures
      c.generalise.new.work c.push.new.self c.in_ok-generalise.ensures.store c.in_ok-generalise.ensures.pattern refl c.in_ok-push.ensures;
  found = found_as g.row.N c.args.constants.now c.args.within.now c.args.core.now c.requires.covers c.definitions.new.work c.definitions.new.marks c.in_ok-definitions.ensures.reached c.definitions.new.holes c.in_ok-definitions.ensures.gathered
      c.in_ok-main.main c.expression.new.work c.expression.new.holes c.in_ok-main.ensures.expressed c.in_ok-main.ensures.marked c.solvable.ensures c.generalise.new.work c.in_ok-generalise.ensures.store c.in_ok-generalise.ensures.pattern;
  asked = c.in_ok-main.ensures.marked.asked ∙ c.in_ok-definitions.ensures.asked;
}
