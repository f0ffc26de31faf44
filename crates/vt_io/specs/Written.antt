use Rattle.std.specs.Prelude.{◌≡◌, ℕ, ◌++◌, List, Option}
use Rattle.std.specs.Option.{option_map}

-- What is written now is what was written before, and then these bytes.
abbrev pub GrowsBy : Option (List ℕ) → Option (List ℕ) → List ℕ → Type 0
GrowsBy before now bytes = now ≡ option_map (λ written. written ++ bytes) before

-- It grew by a prefix of these bytes.
abbrev pub GrowsByPrefix : Option (List ℕ) → Option (List ℕ) → List ℕ → Type 0
GrowsByPrefix before now bytes = (prefix rest : List ℕ) × (prefix ++ rest ≡ bytes) × GrowsBy before now prefix
