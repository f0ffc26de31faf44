use Rattle.std.proofs.Common.{subst, sym}
use Rattle.vt_scope.specs.Cores.{NamesNoImplied}
use Rattle.vt_file.proofs.ScopeRefusals.{source_is, typable}
use Rattle.vt_file.proofs.LeafSpans.{leaves_stand}
use Rattle.vt_file.proofs.Unnamed.{core_unnamed}
use Rattle.vt_file.proofs.reading.resolved_of.Goals as goal

pub returns-in-Ok-resolve-clause-source : goal.returns-in-Ok-resolve-clause-source
returns-in-Ok-resolve-clause-source c =
    let is = c.in-Ok-resolve.ensures in
    source_is _ c.args.program _ _ _ c.in-Ok.ensures c.args.text.now c.args.tokens.now c.requires.read c.requires.spans is.core is.dims is.fault

pub returns-in-Ok-resolve-clause-places : goal.returns-in-Ok-resolve-clause-places
returns-in-Ok-resolve-clause-places c =
    leaves_stand c.args.text.now c.args.tokens.now c.args.program _ _ _ _ c.requires.read c.requires.spans c.in-Ok-resolve.ensures.core

pub returns-in-Ok-resolve-clause-leaves : goal.returns-in-Ok-resolve-clause-leaves
returns-in-Ok-resolve-clause-leaves c = c.in-Ok-resolve.ensures.leaves (subst NamesNoImplied (sym c.in-Ok.ensures) core_unnamed)

pub returns-in-Ok-resolve-clause-typable : goal.returns-in-Ok-resolve-clause-typable
returns-in-Ok-resolve-clause-typable c =
    let is = c.in-Ok-resolve.ensures in
    typable _ c.args.program _ c.in-Ok-resolve.resolved.leaves _ c.in-Ok.ensures is.closed is.few is.numbered

pub returns-in-Err-resolve-clause-fault : goal.returns-in-Err-resolve-clause-fault
returns-in-Err-resolve-clause-fault c = c.refused.ensures c.args.text.now c.out_of_scope-refusal.ensures
