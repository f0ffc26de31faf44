use Rattle.std.specs.Prelude.{◌≡◌, ◌<◌, ℕ, ◌+◌, ◌-◌, ◌^◌, min, ◌||◌, Bool, ◌==◌, nat_lt, if◌then◌else◌, is_none, List, [], Option, Some, None, IsSome, refl}
use Rattle.std.specs.Coded.{Coded, code_by, coded×, coded_list, coded_ℕ}
use Rattle.std.specs.Option.{option_map, option_map_or}
use Rattle.std.specs.Ordering.{nat_cmp}
use Rattle.std.specs.Cmp.Lexicographic.{slice_cmp}
use Rattle.std.specs.List.{list_any}
use Rattle.std.specs.FinMap as map

-- Files in memory: the bytes of each name that is held with the failures of that name, the failures
-- of all other names together, the numbers of the fetches that are to fail, and the fetches so far.
pub record MemoryFiles : Type 0 where
  pub files : map.FinMap (slice_cmp nat_cmp) (List ℕ × ℕ)
  pub others : ℕ
  pub failing : List ℕ
  pub fetches : ℕ

-- they are stored as the tuple of their parts
abbrev pub memory_files_code : Coded MemoryFiles
memory_files_code =
    code_by
    (map.FinMap (slice_cmp nat_cmp) (List ℕ × ℕ) × (ℕ × (List ℕ × ℕ)))
    (coded× (map.code (coded_list coded_ℕ) (coded× (coded_list coded_ℕ) coded_ℕ))
    (coded× coded_ℕ (coded× (coded_list coded_ℕ) coded_ℕ)))
    (λ m. (m.files, (m.others, (m.failing, m.fetches))))
    (λ p. record { files = p.0; others = p.1.0; failing = p.1.1.0; fetches = p.1.1.1 })
    (λ _. refl)

-- one more, up to the last value of a counter
abbrev pub raised : ℕ → ℕ
raised count = min (count + 1) (2 ^ 64 - 1)

-- a counter is told as long as it has not come to its last value
abbrev pub told : ℕ → Option ℕ
told count = if nat_lt count (2 ^ 64 - 1) then Some count else None

-- the bytes under a name, if it is held
abbrev pub held_in : MemoryFiles → List ℕ → Option (List ℕ)
held_in m name = option_map (λ file. file.0) (map.get m.files name)

-- how often a fetch of a name failed; all names that are not held share one count
abbrev pub faults_in : MemoryFiles → List ℕ → ℕ
faults_in m name = option_map_or (λ file. file.1) (map.get m.files name) m.others

-- no fetch is to fail, and no held name has a full count
pub record IsCalm (m : MemoryFiles) : Type 0 where
  pub none_fails : m.failing ≡ []
  pub counts : (name : List ℕ) → IsSome (held_in m name) → faults_in m name < 2 ^ 64 - 1

-- the next fetch fails: its number is listed, or the name is not held
abbrev pub fails : MemoryFiles → List ℕ → Bool
fails m name = list_any (λ call. call == raised m.fetches) m.failing || is_none (map.get m.files name)

-- with one more failure of a name that is held, or of the others together
abbrev pub with_fault : MemoryFiles → List ℕ → Option (List ℕ × ℕ) → MemoryFiles
with_fault m name None = record m { others = raised m.others }
with_fault m name (Some file) = record m { files = map.insert m.files name (file.0, raised file.1) }

-- after a fetch, whatever it answered
abbrev pub after_fetch : MemoryFiles → List ℕ → MemoryFiles
after_fetch m name =
    let counted = record m { fetches = raised m.fetches } in
    if fails m name then with_fault counted name (map.get m.files name) else counted
