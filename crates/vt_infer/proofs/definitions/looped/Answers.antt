use Rattle.std.proofs.Common.{◌∙◌, rules, subst, sym}
use Rattle.vt_infer.specs.declared.environment.Entry.TheVariants.{Mono}
use Rattle.vt_infer.specs.Inferring.{IsReady}
use Rattle.vt_infer.specs.Meetings.{IsLookedAt}
use Rattle.vt_infer.proofs.DefinedLemmas.{looped_ready, looped_defined}
use Rattle.vt_infer.proofs.GatheringLemmas.{looped_marked}
use Rattle.vt_infer.proofs.Popping.{popped}
use Rattle.vt_infer.proofs.definitions.looped.Goals as goal

pub expression-requires : goal.expression-requires
expression-requires g c = (
  search rules,
  (
    search rules,
    (
      search rules,
      subst (λ env. IsReady g.row.N c.args.constants.now c.args.within.now c.args.def.now.body.form (record { store = c.open_cell.new.store; pattern = c.args.work.now.pattern; environment = env })) (sym c.in_ok-push.ensures)
          (looped_ready g.row.N c.args.constants.now c.args.within.now c.args.def.now c.args.work.now c.requires.definable c.requires.recursive c.in_ok-parameter.parameter c.open_cell.new.store c.in_ok-parameter.ensures.is_new c.in_ok-parameter.ensures.later),
    ),
  ),
)

pub returns : goal.returns
returns g c =
    let looked =
    subst (λ env. IsLookedAt g.row.N c.args.constants.now c.args.within.now c.args.def.now.body c.in_ok-own.own (record { store = c.open_cell.new.store; pattern = c.args.work.now.pattern; environment = env }) c.expression.new.work c.args.holes.now c.expression.new.holes)
    c.in_ok-push.ensures c.in_ok-own.ensures
    in
    record {
      defined = looped_defined g.row.N c.args.constants.now c.args.within.now c.args.def.now c.args.work.now c.requires.definable c.requires.recursive c.in_ok-parameter.parameter c.open_cell.new.store c.in_ok-parameter.ensures.is_new c.in_ok-parameter.ensures.later
          c.in_ok-own.own c.expression.new.work c.equate.new.work looked.expressed c.in_ok-equate.ensures.equated
          (c.in_ok-equate.ensures.environment ∙ popped c.pop.result (Mono c.in_ok-parameter.parameter) c.expression.new.work.environment c.pop.new.self c.args.work.now.environment c.pop.ensures looked.expressed.environment);
      marked = looped_marked g.row.N c.args.constants.now c.args.within.now c.args.def.now c.args.work.now c.requires.recursive c.in_ok-parameter.parameter c.open_cell.new.store c.in_ok-parameter.ensures.is_new
          c.in_ok-own.own c.expression.new.work c.equate.new.work looked.expressed c.in_ok-equate.ensures.equated c.args.holes.now c.expression.new.holes looked.marked;
    }
