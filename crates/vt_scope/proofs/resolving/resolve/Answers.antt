use Rattle.std.proofs.Common.{[], refl, sym, subst, ◌∙◌}
use Rattle.vt_syntax.specs.declared.core_program.CoreProgram.{CoreProgram}
use Rattle.vt_scope.specs.declared.walk.Walk.{Walk}
use Rattle.vt_syntax.specs.Leaves.{AreLeaves}
use Rattle.vt_scope.specs.Faults.{dims_of}
use Rattle.vt_scope.specs.Cores.{IsCoreProgram}
use Rattle.vt_scope.specs.Definitions.{scope_after}
use Rattle.vt_scope.proofs.Closing.{closed-program}
use Rattle.vt_scope.proofs.Leaves.{program-leaves}
use Rattle.vt_scope.proofs.Numbering.{numbered_program, distinct_program}
use Rattle.vt_scope.proofs.Programs.{program_given, program_core, program_free, defs_refused, main_refused, program_dims, program_few, fault_exit}
use Rattle.vt_scope.proofs.resolving.resolve.Goals as goal

pub returns : goal.returns
returns c =
    rw c.into_inner.ensures (
    let constants = c.args.constants.now in
    let program = c.args.program.now in
    let start : Walk = record { next = 1; scope = c.new.result; dims = c.new-2.result; leaves = c.new-3.result } in
    let end = c.expression.new.walk in
    let core : CoreProgram = record { defs = c.in_ok-defs.defs; main = c.in_ok-main.main } in
    let defs = rw c.as_slice.ensures at (c.in_ok-defs.ensures [] c.new.ensures) in
    let main = c.in_ok-main.ensures (scope_after [] program.defs) defs.scope in
    let whole = program_given constants program start c.new.ensures refl c.new-2.ensures c.new-3.ensures c.definitions.new.walk end c.in_ok-defs.defs c.in_ok-main.main defs main in
    let dims = program_dims constants program start c.new.ensures refl c.new-2.ensures c.new-3.ensures end _ whole in
    let is_core = program_core constants program start c.new.ensures refl c.new-2.ensures c.new-3.ensures end core whole in
    record {
      core =
          subst (λ leaves. IsCoreProgram constants (dims_of program) program core leaves) (sym (c.new-5.ensures ∙ c.in_ok-leaves.ensures.items ∙ c.as_slice-2.ensures))
          (subst (λ names. IsCoreProgram constants names program core end.leaves) dims is_core);
      dims = dims;
      datas = c.new-4.ensures;
      fault = program_free constants program start c.new.ensures refl c.new-2.ensures c.new-3.ensures end _ whole;
      few = program_few constants program start c.new.ensures refl c.new-2.ensures c.new-3.ensures end _ whole;
      closed = λ implied. closed-program constants end.dims program core end.leaves is_core implied;
      leaves = λ unnamed.
          subst (λ leaves. AreLeaves core leaves) (sym (c.new-5.ensures ∙ c.in_ok-leaves.ensures.items ∙ c.as_slice-2.ensures))
          (program-leaves constants end.dims unnamed program core end.leaves is_core);
      numbered = numbered_program constants end.dims program core end.leaves is_core;
      distinct = distinct_program constants end.dims program core end.leaves is_core;
    })

pub returns-in_err-defs-clause-fault : goal.returns-in_err-defs-clause-fault
returns-in_err-defs-clause-fault c =
    fault_exit _ c.from_residual.result _ c.in_err-defs.field-0.0 c.from_residual.ensures.1
    (defs_refused c.args.constants.now c.args.program.now (record { next = 1; scope = c.new.result; dims = c.new-2.result; leaves = c.new-3.result }) c.new.ensures refl c.new-2.ensures c.new-3.ensures
    c.in_err-defs.field-0.0 (rw c.as_slice.ensures at (c.in_err-defs.ensures [] c.new.ensures)))

pub returns-in_err-main-clause-fault : goal.returns-in_err-main-clause-fault
returns-in_err-main-clause-fault c =
    let defs = rw c.as_slice.ensures at (c.in_ok-defs.ensures [] c.new.ensures) in
    fault_exit _ c.from_residual-in_err-main.result _ c.in_err-main.field-0.0 c.from_residual-in_err-main.ensures.1
    (main_refused c.args.constants.now c.args.program.now (record { next = 1; scope = c.new.result; dims = c.new-2.result; leaves = c.new-3.result }) c.new.ensures refl c.new-2.ensures c.new-3.ensures
    c.definitions.new.walk _ c.in_err-main.field-0.0 defs (c.in_err-main.ensures (scope_after [] c.args.program.now.defs) defs.scope))
