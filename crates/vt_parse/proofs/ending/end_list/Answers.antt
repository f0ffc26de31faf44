use Rattle.std.proofs.Common.{suc, ◌∙◌, ap, arith}
use Rattle.vt_grammar.specs.Machine.{end_list}
use Rattle.vt_grammar.proofs.DepthLemmas.{depth_over-grows}
use Rattle.vt_parse.proofs.StepLemmas.{list-closed, list-longer, list-deeper, list-none}
use Rattle.vt_parse.proofs.ending.end_list.Goals as goal

pub loop-before-init : goal.loop-before-init
loop-before-init c = record {
  same = ap (λ es. end_list c.args.at es (suc c.args.last.depth) c.args.reader c.args.reader.stack) c.in-Ok.ensures;
  admitted = c.requires;
}

pub loop-before-preserved : goal.loop-before-preserved
loop-before-preserved c =
    let reader = c.loop-before.reader in
    record {
      same =
          list-longer c.args.at c.loop-before.items c.loop-before.deepest reader c.pop_element.new.self c.in-Some.before c.in-Ok-more.items c.max-deepest.result
          c.in-Some.ensures c.in-Ok-more.ensures c.max-deepest.ensures
          ∙ c.loop-before.invariant.same;
      admitted =
          list-deeper c.args.at c.loop-before.items c.loop-before.deepest reader c.pop_element.new.self c.in-Some.before c.max-deepest.result
          c.in-Some.ensures c.max-deepest.ensures c.loop-before.invariant.admitted;
    }

pub list_of-whole-requires : goal.list_of-whole-requires
list_of-whole-requires c =
    let k = depth_over-grows c.loop-before.reader.stack c.loop-before.deepest in
    omega (arith, c.loop-before.invariant.admitted)

pub overflow_add-deepest : goal.overflow_add-deepest
overflow_add-deepest c =
    let k = depth_over-grows c.loop-before.reader.stack c.loop-before.deepest in
    omega (arith, c.loop-before.invariant.admitted)

pub returns-in-Some-pop_square : goal.returns-in-Some-pop_square
returns-in-Some-pop_square c =
    list-closed c.args.at c.loop-before.items c.loop-before.deepest c.loop-before.reader c.pop_square.new.self c.pop_element.new.self c.in-Some-pop_square.from c.across.result c.list_of-whole.result c.placed.result
    c.in_default.ensures.1 c.in-Some-pop_square.ensures c.across.ensures c.list_of-whole.ensures c.placed.ensures
    ∙ c.loop-before.invariant.same

pub returns-in-None : goal.returns-in-None
returns-in-None c =
    list-none c.args.at c.loop-before.items _ c.loop-before.reader c.pop_element.new.self c.in_default.ensures.1 c.in_default.ensures.0 c.in-None.ensures.0
    ∙ c.loop-before.invariant.same
