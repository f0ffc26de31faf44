use Rattle.std.specs.Prelude.{◌≡◌, ℕ, ◌+◌, Bool, true, false, cond, eqb, ◌||◌, List, [], ◌∷◌, Some, slice_get}
use Rattle.vt_dec.specs.declared.side.Side.{Side}
use Rattle.vt_dec.specs.declared.side.Space.{Space}
use Rattle.vt_diagram.specs.declared.entry.Entry.{Entry}
use Rattle.vt_diagram.specs.declared.parting.Cut.{Cut}
use Rattle.vt_diagram.specs.declared.parting.Part.{Part}
use Rattle.vt_diagram.specs.Regions.{Has, IsOf, IsRegion}
use Rattle.vt_diagram.specs.Tables.{Grows, value_at}
use Rattle.vt_diagram.specs.Trees.{Tree, Tip, Fork}

-- a region in two: where a diagram has a value, and where it has another one
pub record IsCutAt (N : ℕ) (space : Space) (old new : List Entry) (region id value : ℕ) (cut : Cut) : Type 0 where
  pub part : IsRegion N space new (λ decision. Has old region decision × (value_at old id decision ≡ value)) cut.part
  pub rest : IsRegion N space new (λ decision. Has old region decision × (value_at old id decision ≡ value → ⊥)) cut.rest

-- some part has the value
abbrev pub has_value : List Part → ℕ → Bool
has_value [] value = false
has_value (part ∷ parts) value = eqb part.value value || has_value parts value

-- a part has exactly the decisions of the region at which the diagram has its value, and there are some
pub record IsPart (N : ℕ) (space : Space) (old new : List Entry) (region id : ℕ) (part : Part) : Type 0 where
  pub region_is : IsRegion N space new (λ decision. Has old region decision × (value_at old id decision ≡ part.value)) part.region
  pub some : (decision : List Side) × IsOf N space decision × Has new part.region decision

-- parts by different values
pub record ArePieces (N : ℕ) (space : Space) (old new : List Entry) (region id : ℕ) (parts : List Part) : Type 0 where
  pub each : (index : ℕ) (part : Part) → slice_get parts index ≡ Some part → IsPart N space old new region id part
  pub apart : (index other : ℕ) (part own : Part) → slice_get parts index ≡ Some part → slice_get parts other ≡ Some own → part.value ≡ own.value → index ≡ other

-- some parts of a region, and what is left of it
pub record IsParted (N : ℕ) (space : Space) (old new : List Entry) (region id : ℕ) (parts : List Part) (rest : ℕ) : Type 0 where
  pub grows : Grows old new
  pub pieces : ArePieces N space old new region id parts
  pub rest_is : IsRegion N space new (λ decision. Has old region decision × (has_value parts (value_at old id decision) ≡ false)) rest

-- the parts are the whole region
pub record ArePartsOf (N : ℕ) (space : Space) (old new : List Entry) (region id : ℕ) (parts : List Part) : Type 0 where
  pub pieces : ArePieces N space old new region id parts
  pub every : (decision : List Side) → IsOf N space decision → Has old region decision → has_value parts (value_at old id decision) ≡ true

-- how many places of a diagram have a value that is not done
abbrev pub left_over : (ℕ → Bool) → Tree → ℕ
left_over done (Tip value) = cond (done value) 0 1
left_over done (Fork dim left right) = left_over done left + left_over done right
