-- What a fetch does to what is held and to the counts of failures.
use Rattle.std.proofs.Common.{◌≡◌, ℕ, ◌≤◌, ◌==◌, ◌||◌, is_none, true, false, List, Option, Some, None, IsTrue, if◌then◌else◌, refl, sym, ap, subst, arith, rules}
use Rattle.std.specs.List.{list_any}
use Rattle.std.specs.FinMap as fin
use Rattle.std.specs.FinMap.{gets}
use Rattle.std.proofs.lemmas.Map.Lookups.{exact_bytes}
use Rattle.vt_io.specs.Counts.{Rose}
use Rattle.vt_io.specs.Memory.{MemoryFiles, after_fetch, fails, faults_in, held_in, raised, with_fault, IsCalm}

-- a failure leaves what is held
held-with_fault : (m : MemoryFiles) (name other : List ℕ) (o : Option (List ℕ × ℕ)) → fin.get m.files name ≡ o → held_in (with_fault m name o) other ≡ held_in m other
held-with_fault m name other None e = refl
held-with_fault m name other (Some file) e = grind (gets, rules, exact_bytes)

-- it is counted under its name
faults-with_fault : (m : MemoryFiles) (name : List ℕ) (o : Option (List ℕ × ℕ)) → fin.get m.files name ≡ o → faults_in (with_fault m name o) name ≡ raised (faults_in m name)
faults-with_fault m name None e = grind (gets, rules)
faults-with_fault m name (Some file) e = grind (gets, rules)

-- no count falls
pub with_fault_never_falls : (m : MemoryFiles) (name : List ℕ) (o : Option (List ℕ × ℕ)) → fin.get m.files name ≡ o → faults_in m name ≤ raised (faults_in m name) → (other : List ℕ) → faults_in m other ≤ faults_in (with_fault m name o) other
with_fault_never_falls m name None e rises other = grind (gets, rules, arith)
with_fault_never_falls m name (Some file) e rises other = grind (gets, rules, exact_bytes, arith)

-- a fetch leaves what is held
pub held-after_fetch : (m : MemoryFiles) (name other : List ℕ) → held_in (after_fetch m name) other ≡ held_in m other
held-after_fetch m name other =
    let counted : MemoryFiles = record m { fetches = raised m.fetches } in
    elim (fails m name) as (λ b. held_in (if b then with_fault counted name (fin.get m.files name) else counted) other ≡ held_in m other) [ true ↦ held-with_fault counted name other _ refl | false ↦ refl ]

-- a fetch that fails is counted
pub rose-after_fetch : (m : MemoryFiles) (name : List ℕ) → IsTrue (fails m name) → Rose (faults_in m name) (faults_in (after_fetch m name) name)
rose-after_fetch m name failed =
    let counted : MemoryFiles = record m { fetches = raised m.fetches } in
    let rises = faults-with_fault counted name _ refl in
    grind (arith, rules)

-- where only a name that is not held can fail, the counts of those that are held stay
calm-with_fault : (m : MemoryFiles) (name : List ℕ) (o : Option (List ℕ × ℕ)) → IsCalm m → IsCalm (if is_none o then with_fault m name o else m)
calm-with_fault m name None calm =
    record { none_fails = calm.none_fails; counts = λ other held. grind (arith, rules, calm.counts other held) }
calm-with_fault m name (Some file) calm = calm

-- a calm store stays calm
pub calm-after_fetch : (m : MemoryFiles) (name : List ℕ) → IsCalm m → IsCalm (after_fetch m name)
calm-after_fetch m name calm =
    let counted : MemoryFiles = record m { fetches = raised m.fetches } in
    let still : IsCalm counted = record { none_fails = calm.none_fails; counts = calm.counts } in
    let unlisted = ap (λ calls. list_any (λ call. call == raised m.fetches) calls || is_none (fin.get m.files name)) calm.none_fails in
    subst (λ b. IsCalm (if b then with_fault counted name (fin.get m.files name) else counted)) (sym unlisted) (calm-with_fault counted name _ still)
