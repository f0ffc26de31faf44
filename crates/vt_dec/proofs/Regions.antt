use Rattle.std.proofs.Common.{◌≡◌, ℕ, ◌<◌, ◌≤◌, ◌↔◌, ◌≢◌, List, Option, Some, None, length, set, slice_get, refl, ap, sym, ◌∙◌, arith}
use Rattle.std.proofs.lemmas.Option.{slice_get-get_or, slice_get_within}
use lib.Lanes.{zip2}
use Rattle.vt_dec.specs.declared.side.Side.{Side}
use Rattle.vt_dec.specs.declared.side.Side.TheVariants.{Left, Right}
use Rattle.vt_dec.specs.declared.side.Space.{Space}
use Rattle.vt_dec.specs.declared.side.Space.TheVariants.{All, AtMost}
use Rattle.vt_dec.specs.Decisions.{rights, taken, IsIn, Region, Agrees, Admits, CanTake, MustTake, IsSideOf, Narrows, Meet, IsLeast, IsKeptIn, IsKept}
use Rattle.vt_dec.specs.Sides.{join_side}
use Rattle.vt_dec.specs.Contexts.{least_of, IsSpentIn}
use Rattle.vt_dec.proofs.Slices.{slice_get-set_same}
use Rattle.vt_dec.proofs.Agreement.{Agrees-decided, Agrees-least, rights-least, Agrees-is_least, slice_get-least_open, slice_get-least_right, Agrees-set, rights-set, Agrees-narrowed, Agrees-narrow, join-comm, Agrees-join, rights-join}

-- What a region admits.

IsIn-fewer : (space : Space) (one other : List Side) → rights other ≤ rights one → IsIn space one → IsIn space other
IsIn-fewer All one other fewer inside = tt
IsIn-fewer (AtMost k) one other fewer inside = omega arith

IsIn-least : (space : Space) (sides : List (Option Side)) → IsKeptIn space sides → IsIn space (least_of sides)
IsIn-least All sides kept = tt
IsIn-least (AtMost k) sides kept = omega (arith, kept.within, rights-least sides)

pub Admits-least : (region : Region) → IsKept region → Admits region (least_of region.sides)
Admits-least region kept = record { agrees = Agrees-least region.sides; in_space = IsIn-least region.space region.sides kept }

pub IsLeast-least : (region : Region) → IsKept region → IsLeast region (least_of region.sides)
IsLeast-least region kept = record {
  admitted = Admits-least region kept;
  least = λ dim right decision admits. Agrees-decided region.sides decision dim Right admits.agrees (slice_get-least_right region.sides dim right);
}

-- ---- the side of a dimension

pub MustTake-decided : (region : Region) (dim : ℕ) (side : Side) → slice_get region.sides dim ≡ Some (Some side) → MustTake region dim side
MustTake-decided region dim side decides decision admits = Agrees-decided region.sides decision dim side admits.agrees decides

is_least_in : (space : Space) (sides : List (Option Side)) (decision : List Side) → IsSpentIn space sides → Agrees sides decision → IsIn space decision → decision ≡ least_of sides
is_least_in All sides decision spent agrees inside = absurd spent
is_least_in (AtMost k) sides decision spent agrees inside = Agrees-is_least sides decision agrees (omega arith)

-- with the budget used up, one decision is left
pub Admits-spent : (region : Region) (decision : List Side) → IsSpentIn region.space region.sides → Admits region decision → decision ≡ least_of region.sides
Admits-spent region decision spent admits = is_least_in region.space region.sides decision spent admits.agrees admits.in_space

pub MustTake-spent : (region : Region) (dim : ℕ) → IsSpentIn region.space region.sides → slice_get region.sides dim ≡ Some None → MustTake region dim Left
MustTake-spent region dim spent free decision admits =
    ap (λ d. slice_get d dim) (Admits-spent region decision spent admits) ∙ slice_get-least_open region.sides dim free

IsIn-set : (space : Space) (sides : List (Option Side)) (dim : ℕ) → IsKeptIn space sides → (IsSpentIn space sides → ⊥) → slice_get sides dim ≡ Some None
    → IsIn space (set (least_of sides) dim Right)
IsIn-set All sides dim kept left free = tt
IsIn-set (AtMost k) sides dim kept left free =
    let more : taken sides ≢ k = left in
    omega (arith, kept.within, rights-least sides, rights-set (least_of sides) dim Right (slice_get-least_open sides dim free))

pub CanTake-right : (region : Region) (dim : ℕ) → IsKept region → (IsSpentIn region.space region.sides → ⊥) → slice_get region.sides dim ≡ Some None → CanTake region dim Right
CanTake-right region dim kept left free =
    let least = least_of region.sides in (
      set least dim Right,
      record { agrees = Agrees-set region.sides least dim Right (Agrees-least region.sides) free; in_space = IsIn-set region.space region.sides dim kept left free },
      slice_get-set_same least dim Right (slice_get_within least dim Left (slice_get-least_open region.sides dim free)),
    )

pub IsSideOf-none : (region : Region) (dim : ℕ) → IsKept region → (IsSpentIn region.space region.sides → ⊥) → slice_get region.sides dim ≡ Some None → IsSideOf region dim None
IsSideOf-none region dim kept left free =
    ((least_of region.sides, Admits-least region kept, slice_get-least_open region.sides dim free), CanTake-right region dim kept left free)

-- ---- one dimension more

must_not : (region : Region) (dim : ℕ) (side : Side) → MustTake region dim side → IsSideOf region dim None → ⊥
must_not region dim side must either =
    let left = must either.0.0 either.0.1 in
    let right = must either.1.0 either.1.1 in
    cc (left, right, either.0.2, either.1.2)

free_at : (region : Region) (dim : ℕ) → IsSideOf region dim None → (own : Option Side) → slice_get region.sides dim ≡ Some own → slice_get region.sides dim ≡ Some None
free_at region dim either None is = is
free_at region dim either (Some side) is = absurd (must_not region dim side (MustTake-decided region dim side is) either)

-- where admitted decisions take either side, the dimension is not decided, and the budget is not used up
pub free_from_either : (region : Region) (dim : ℕ) → dim < length region.sides → IsSideOf region dim None → slice_get region.sides dim ≡ Some None
free_from_either region dim within either = free_at region dim either _ (slice_get-get_or region.sides dim None within)

pub unspent_from_either : (region : Region) (dim : ℕ) → dim < length region.sides → IsSideOf region dim None → IsSpentIn region.space region.sides → ⊥
unspent_from_either region dim within either spent =
    must_not region dim Left (MustTake-spent region dim spent (free_from_either region dim within either)) either

pub Narrows-set : (region : Region) (dim : ℕ) (side : Side) → slice_get region.sides dim ≡ Some None
    → Narrows region dim side (record { sides = set region.sides dim (Some side); space = region.space })
Narrows-set region dim side free = record {
  space = refl;
  exactly = λ decision. (
    λ admits.
        let both = Agrees-narrowed region.sides decision dim side free admits.agrees in
        (record { agrees = both.0; in_space = admits.in_space }, both.1),
    λ both. record { agrees = Agrees-narrow region.sides decision dim side free both.0.agrees both.1; in_space = both.0.in_space },
  );
}

-- with the budget used up, what the least decision does not tell makes no difference
Admits-same_least : (space : Space) (ones others : List (Option Side)) (decision : List Side) → IsSpentIn space ones → least_of ones ≡ least_of others
    → Admits (record { sides = ones; space = space }) decision → Admits (record { sides = others; space = space }) decision
Admits-same_least space ones others decision spent same admits =
    let is : decision ≡ least_of others = is_least_in space ones decision spent admits.agrees admits.in_space ∙ same in
    record { agrees = rw is (Agrees-least others); in_space = admits.in_space }

pub Narrows-same_least : (region : Region) (dim : ℕ) (side : Side) (ones others : List (Option Side)) → IsSpentIn region.space ones → IsSpentIn region.space others → least_of ones ≡ least_of others
    → Narrows region dim side (record { sides = ones; space = region.space }) → Narrows region dim side (record { sides = others; space = region.space })
Narrows-same_least region dim side ones others a b same narrows = record {
  space = refl;
  exactly = λ decision. (
    λ admits. (narrows.exactly decision).0 (Admits-same_least region.space others ones decision b (sym same) admits),
    λ both. Admits-same_least region.space ones others decision a same ((narrows.exactly decision).1 both),
  );
}

-- ---- two regions

Meet-join : (one other : Region) → (Admits one (zip2 join_side (least_of one.sides) (least_of other.sides)) × Admits other (zip2 join_side (least_of one.sides) (least_of other.sides))) ↔ Meet one other
Meet-join one other = (
  λ both. (_, both.0, both.1),
  λ (decision, a, b).
      let joined = zip2 join_side (least_of one.sides) (least_of other.sides) in
      let few : rights joined ≤ rights decision = rights-join one.sides other.sides decision a.agrees b.agrees in (
        record { agrees = Agrees-join one.sides other.sides decision a.agrees b.agrees; in_space = IsIn-fewer one.space decision joined few a.in_space },
        record {
          agrees = rw join-comm (Agrees-join other.sides one.sides decision b.agrees a.agrees);
          in_space = IsIn-fewer other.space decision joined few b.in_space;
        },
      ),
)

pub Meet-joined : (one other : Region) (ones others joined : List Side) → least_of one.sides ≡ ones → least_of other.sides ≡ others → joined ≡ zip2 join_side ones others
    → (Admits one joined × Admits other joined) ↔ Meet one other
Meet-joined one other ones others joined a b is = rw (is, ← a, ← b) (Meet-join one other)
