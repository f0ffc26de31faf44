use Rattle.std.proofs.Common.{◌≡◌, ◌↔◌, ℕ, zero, suc, ◌<◌, ◌≤◌, List, [], ◌∷◌, true, length, Option, Some, None, slice_get, slice_set, IfSome, refl, sym, ap, ◌∙◌, Decides, arith}
use Rattle.std.proofs.lemmas.Bool.{and_parts, and_from}
use Rattle.std.proofs.lemmas.Option.{slice_get_within}
use Rattle.vt_dec.specs.declared.side.Side.{Side}
use Rattle.vt_dec.specs.declared.side.Side.TheVariants.{Left, Right}
use Rattle.vt_dec.specs.declared.side.Space.{Space}
use Rattle.vt_dec.specs.declared.side.Space.TheVariants.{All}
use Rattle.vt_dec.specs.Decisions.{Region, Agrees, Admits, CanTake, IsSideOf, Narrows, IsKept}
use Rattle.vt_dec.proofs.Agreement.{Agrees-decided}
use Rattle.vt_norm.specs.Sides.{taken_side, is_side, agrees, IsPart}

-- Decisions that agree with the sides that are decided.

-- a dimension that is open may be taken either way
pub agrees-open : (k : List (Option Side)) (d : List Side) (dim : ℕ) (side : Side) → Agrees k d → slice_get k dim ≡ Some None → Agrees k (slice_set d dim side)
agrees-open [] [] dim side h e = cc
agrees-open (None ∷ k) (own ∷ d) zero side h e = h
agrees-open (Some other ∷ k) (own ∷ d) zero side h e = let f : Some (Some other) ≡ Some None = e in absurd (cc)
agrees-open (None ∷ k) (own ∷ d) (suc dim) side h e = agrees-open k d dim side h e
agrees-open (Some other ∷ k) (own ∷ d) (suc dim) side h e = (h.0, agrees-open k d dim side h.1 e)
agrees-open [] (own ∷ d) dim side h e = absurd h
agrees-open (None ∷ k) [] dim side h e = absurd h
agrees-open (Some own ∷ k) [] dim side h e = absurd h

-- a side that is taken may be decided
pub agrees-set : (k : List (Option Side)) (d : List Side) (dim : ℕ) (side : Side) → Agrees k d → slice_get k dim ≡ Some None → slice_get d dim ≡ Some side → Agrees (slice_set k dim (Some side)) d
agrees-set [] [] dim side h e f = cc
agrees-set (None ∷ k) (own ∷ d) zero side h e f = (cc, h)
agrees-set (Some other ∷ k) (own ∷ d) zero side h e f = let g : Some (Some other) ≡ Some None = e in absurd (cc)
agrees-set (None ∷ k) (own ∷ d) (suc dim) side h e f = agrees-set k d dim side h e f
agrees-set (Some other ∷ k) (own ∷ d) (suc dim) side h e f = (h.0, agrees-set k d dim side h.1 e f)
agrees-set [] (own ∷ d) dim side h e f = absurd h
agrees-set (None ∷ k) [] dim side h e f = absurd h
agrees-set (Some own ∷ k) [] dim side h e f = absurd h

-- what agrees with one more side agrees, and takes the side
pub agrees-unset : (k : List (Option Side)) (d : List Side) (dim : ℕ) (side : Side) → slice_get k dim ≡ Some None → Agrees (slice_set k dim (Some side)) d → Agrees k d × (slice_get d dim ≡ Some side)
agrees-unset [] d dim side e h = absurd (cc)
agrees-unset (None ∷ k) [] zero side e h = absurd h
agrees-unset (None ∷ k) (own ∷ d) zero side e h = (h.1, ap Some (sym h.0))
agrees-unset (Some other ∷ k) d zero side e h = let g : Some (Some other) ≡ Some None = e in absurd (cc)
agrees-unset (None ∷ k) [] (suc dim) side e h = absurd h
agrees-unset (None ∷ k) (own ∷ d) (suc dim) side e h = agrees-unset k d dim side e h
agrees-unset (Some other ∷ k) [] (suc dim) side e h = absurd h
agrees-unset (Some other ∷ k) (own ∷ d) (suc dim) side e h = let r = agrees-unset k d dim side e h.1 in ((h.0, r.0), r.1)

is_side-Decides : (one other : Side) → Decides (is_side one other) (one ≡ other)
is_side-Decides Left Left = (λ _. refl, λ _. refl)
is_side-Decides Left Right = (λ e. cc, λ e. cc)
is_side-Decides Right Left = (λ e. cc, λ e. cc)
is_side-Decides Right Right = (λ _. refl, λ _. refl)

-- the test tells
pub agrees-true : (k : List (Option Side)) (d : List Side) → agrees k d ≡ true → Agrees k d
agrees-true [] [] h = tt
agrees-true (None ∷ k) (side ∷ d) h = agrees-true k d h
agrees-true (Some own ∷ k) (side ∷ d) h = let p = and_parts (is_side own side) _ h in ((is_side-Decides own side).0 p.0, agrees-true k d p.1)
agrees-true [] (side ∷ d) h = cc
agrees-true (None ∷ k) [] h = cc
agrees-true (Some own ∷ k) [] h = cc

pub agrees-test : (k : List (Option Side)) (d : List Side) → Agrees k d → agrees k d ≡ true
agrees-test [] [] h = refl
agrees-test (None ∷ k) (side ∷ d) h = agrees-test k d h
agrees-test (Some own ∷ k) (side ∷ d) h = and_from _ _ ((is_side-Decides own side).1 h.0) (agrees-test k d h.1)
agrees-test [] (side ∷ d) h = absurd h
agrees-test (None ∷ k) [] h = absurd h
agrees-test (Some own ∷ k) [] h = absurd h

-- some decision agrees
pub some-agrees : (k : List (Option Side)) → (d : List Side) × Agrees k d
some-agrees [] = ([], tt)
some-agrees (None ∷ k) = let r = some-agrees k in (Left ∷ r.0, r.1)
some-agrees (Some own ∷ k) = let r = some-agrees k in (own ∷ r.0, (refl, r.1))

pub some-takes : (k : List (Option Side)) (dim : ℕ) (side : Side) → slice_get k dim ≡ Some None → (d : List Side) × Agrees k d × (slice_get d dim ≡ Some side)
some-takes k dim side e =
    let r = some-agrees (slice_set k dim (Some side)) in
    let u = agrees-unset k r.0 dim side e r.1 in
    (r.0, u.0, u.1)

-- what is decided of a dimension
abbrev Found : List (Option Side) → ℕ → Option (Option Side) → Type 0
Found k dim None = ⊥
Found k dim (Some None) = slice_get k dim ≡ Some None
Found k dim (Some (Some side)) = slice_get k dim ≡ Some (Some side)

find : (k : List (Option Side)) (dim : ℕ) → dim < length k → (own : Option Side) × (slice_get k dim ≡ Some own)
find [] dim h = absurd (omega arith)
find (own ∷ k) zero h = (own, refl)
find (own ∷ k) (suc dim) h = find k dim (omega arith)

-- where admitted decisions take either side, the dimension is open
pub open-of-sides : (region : Region) (dim : ℕ) → IsPart region → dim < 64 → IsSideOf region dim None → slice_get region.sides dim ≡ Some None
open-of-sides region dim part small (left, right) = by _ (find region.sides dim (omega (arith, part.sized))).1
  where
    by : (own : Option Side) → slice_get region.sides dim ≡ Some own → slice_get region.sides dim ≡ Some None
    by None e = e
    by (Some side) e =
        let l = Agrees-decided region.sides left.0 dim side left.1.agrees e in
        let r = Agrees-decided region.sides right.0 dim side right.1.agrees e in
        let f = left.2 in
        let g = right.2 in
        absurd (cc)

pub within-of-open : (region : Region) (dim : ℕ) → IsPart region → slice_get region.sides dim ≡ Some None → dim < 64
within-of-open region dim part e = let h : dim < length region.sides = slice_get_within _ _ _ e in omega (arith, part.sized)

pub taken-of-get : (d : List Side) (dim : ℕ) (side : Side) → slice_get d dim ≡ Some side → taken_side d dim ≡ side
taken-of-get d dim side e = rw e refl

pub in-all : (space : Space) (k : List (Option Side)) (d : List Side) → space ≡ All → Agrees k d → Admits (record { sides = k; space = space }) d
in-all space k d e h = rw e (record { agrees = h; in_space = tt })

pub past-end : (d : List Side) (dim : ℕ) → length d ≤ dim → slice_get d dim ≡ None
past-end [] dim h = refl
past-end (side ∷ d) zero h = absurd (omega arith)
past-end (side ∷ d) (suc dim) h = past-end d dim (omega arith)

-- the part that takes one more side
pub narrows-is : (region narrowed : Region) (dim : ℕ) (side : Side) → IsPart region → slice_get region.sides dim ≡ Some None → Narrows region dim side narrowed → IsKept narrowed
    → ((one other : Region) → IsKept one → IsKept other → one.space ≡ other.space → ((d : List Side) → Admits one d ↔ Admits other d) → one ≡ other)
    → narrowed ≡ record { sides = slice_set region.sides dim (Some side); space = All }
narrows-is region narrowed dim side part e n kept law =
    law narrowed (record { sides = slice_set region.sides dim (Some side); space = All }) kept tt (n.space ∙ part.all_space)
    (λ d. (
      λ h. (let r = (n.exactly d).0 h in record { agrees = agrees-set region.sides d dim side r.0.agrees e r.1; in_space = tt }),
      λ h. (let r = agrees-unset region.sides d dim side e h.agrees in (n.exactly d).1 (in-all region.space region.sides d part.all_space r.0, r.1)),
    ))

-- a side that every admitted decision takes
pub some-side : (region : Region) (dim : ℕ) (found : Option Side) → IsPart region → IsSideOf region dim found → IfSome found (λ side. (d : List Side) → Agrees region.sides d → taken_side d dim ≡ side)
some-side region dim None part h = tt
some-side region dim (Some side) part h = λ d g. taken-of-get d dim side (h d (in-all region.space region.sides d part.all_space g))

-- no part is without the decisions that take a side of an open dimension
pub never-none : (region : Region) (dim : ℕ) (side : Side) → IsPart region → slice_get region.sides dim ≡ Some None → (CanTake region dim side → ⊥) → ⊥
never-none region dim side part e none =
    let r = some-takes region.sides dim side e in
    none (r.0, in-all region.space region.sides r.0 part.all_space r.1, r.2)
