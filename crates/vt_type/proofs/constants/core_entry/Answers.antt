use Rattle.std.proofs.Common.{sym, ap, Some, ◌∙◌}
use Rattle.vt_type.specs.Canonical.{canonical}
use Rattle.vt_type.specs.Constants.{core_constants}
use Rattle.vt_type.proofs.ConstantTable.{both_seen}
use Rattle.vt_type.proofs.constants.core_entry.Goals as goal

pub returns : goal.returns
returns c =
    both_seen core_constants c.args.number _ _ (c.core_name.ensures ∙ ap Some (sym c.in_ok-name.ensures))
    (c.in_ok-core.ensures.closed ∙ ap Some (sym (c.in_ok-closed.ensures ∙ c.in_ok-canon.ensures.canonical ∙ ap canonical c.get.ensures)))
