use Rattle.std.proofs.Common.{arith, sym, ap, ◌∙◌, subst}
use Rattle.std.proofs.lemmas.Grind.{common_steps}
use Rattle.vt_io.specs.Memory.{MemoryFiles, held_in, faults_in, IsCalm}
use Rattle.vt_io.specs.Counts.{Rose}
use Rattle.vt_io.proofs.FaultLemmas.{held-after_fetch, rose-after_fetch, calm-after_fetch}
use Rattle.vt_io.proofs.mem_files.MemFilesFiles.fetch.Goals as goal

pub returns-in_default-clause-after : goal.returns-in_default-clause-after
returns-in_default-clause-after c = grind (arith, common_steps)

pub returns-in_default-clause-exact : goal.returns-in_default-clause-exact
returns-in_default-clause-exact c = grind (arith, common_steps)

pub returns-in_default-clause-failed : goal.returns-in_default-clause-failed
returns-in_default-clause-failed c = λ failed.
    let name = c.args.name.now in
    subst (λ (m : MemoryFiles). Rose (faults_in c.args.self.now name) (faults_in m name)) (sym (returns-in_default-clause-after c)) (rose-after_fetch c.args.self.now name ((returns-in_default-clause-exact c).0 failed))

pub returns-in_default-clause-same : goal.returns-in_default-clause-same
returns-in_default-clause-same c = λ other. ap (λ (m : MemoryFiles). held_in m other) (returns-in_default-clause-after c) ∙ held-after_fetch c.args.self.now c.args.name.now other

pub returns-in_default-clause-stays_calm : goal.returns-in_default-clause-stays_calm
returns-in_default-clause-stays_calm c = λ calm. subst IsCalm (sym (returns-in_default-clause-after c)) (calm-after_fetch c.args.self.now c.args.name.now calm)
