use Rattle.std.proofs.Common.{◌≤◌, arith, rules, refl, subst, sym}
use Rattle.std.proofs.lemmas.Grind.{common_steps}
use Rattle.std.proofs.lemmas.Map.Text.{btree_map_updates_text}
use Rattle.vt_io.specs.Memory.{MemoryFiles, faults_in, raised}
use Rattle.vt_io.proofs.KeptLemmas.{get-files_of, files_of-updated}
use Rattle.vt_io.proofs.FaultLemmas.{with_fault_never_falls}
use Rattle.vt_io.proofs.mem_files.MemFiles.count_fault.Goals as goal

pub returns-in-Some-clause-after : goal.returns-in-Some-clause-after
returns-in-Some-clause-after c =
    let file = c.count_fault.new.self in
    let old = c.self.inside.files in
    let new = c.get_mut.follows.lender file in
    let name = c.args.name.now in
    let updates = btree_map_updates_text name old new _ ((c.get_mut.follows.holds file).3 (search rules)) in
    let found = get-files_of old name in
    let set = files_of-updated old new name file updates in
    grind (arith, common_steps)

pub returns-in-Some-clause-never_falls : goal.returns-in-Some-clause-never_falls
returns-in-Some-clause-never_falls c =
    let m = c.args.self.now in
    let name = c.args.name.now in
    let found = get-files_of c.self.inside.files name in
    let rises : faults_in m name ≤ raised (faults_in m name) = grind (arith, common_steps) in
    λ other. subst (λ (n : MemoryFiles). faults_in m other ≤ faults_in n other) (sym (returns-in-Some-clause-after c)) (with_fault_never_falls m name _ refl rises other)

pub returns-in-None-clause-after : goal.returns-in-None-clause-after
returns-in-None-clause-after c =
    let found = get-files_of c.self.inside.files c.args.name.now in
    grind (arith, common_steps)
