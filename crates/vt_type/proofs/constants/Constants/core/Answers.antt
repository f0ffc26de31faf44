use Rattle.std.proofs.Common.{subst, sym, ◌∙◌}
use Rattle.vt_type.specs.Constants.{core_constants, IsTable}
use Rattle.vt_type.proofs.ConstantTable.{one_more, core_is_table, whole_core}
use Rattle.vt_type.proofs.constants.Constants.core.Goals as goal

pub loop-number-preserved : goal.loop-number-preserved
loop-number-preserved c =
    rw c.in_ok-push.ensures.items (one_more core_constants _ _ c.loop-number.number c.loop-number.invariant c.in_ok-core_entry.ensures)

pub invariant_of-result : goal.invariant_of-result
invariant_of-result c =
    subst IsTable (sym (c.loop-number.invariant ∙ whole_core c.loop-number.number c.loop-number-test.false c.loop-number.auto.number-end)) core_is_table

pub returns : goal.returns
returns c = c.loop-number.invariant ∙ whole_core c.loop-number.number c.loop-number-test.false c.loop-number.auto.number-end
