use Rattle.std.proofs.Common.{◌≡◌, ℕ, ◌*◌, List, length, sym, ◌∙◌, arith}
use Rattle.vt_dec.specs.Decisions.{Region, Admits}
use Rattle.vt_dec.proofs.Admitting.{Agrees-all}
use Rattle.vt_dec.proofs.Agreement.{Agrees-decided}
use Rattle.vt_diagram.specs.declared.entry.Entry.{Entry}
use Rattle.vt_diagram.specs.Regions.{IsRegion, IsRegionFrom}

-- The decisions of a context as a region.

-- from the first dimension on, this is the context
pub region-whole : (N : ℕ) (region : Region) (entries : List Entry) (id : ℕ) → length region.sides ≡ 64 * N → IsRegionFrom (64 * N) region 0 entries id → IsRegion N region.space entries (Admits region) id
region-whole N region entries id sized known = (
  known.within,
  λ d of.
      let has = known.has d of.sized in (
        λ some. record { agrees = Agrees-all region.sides d (of.sized ∙ sym sized) (λ dim side decides. (has.0 some) dim side (omega arith) decides); in_space = of.inside },
        λ admits. has.1 (λ dim side le decides. Agrees-decided region.sides d dim side admits.agrees decides),
      ),
)
