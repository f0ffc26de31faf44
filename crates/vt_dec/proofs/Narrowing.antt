use Rattle.std.proofs.Common.{◌≡◌, ℕ, ◌+◌, ◌-◌, ◌^◌, ◌<◌, ◌≤◌, ◌≢◌, Bool, true, List, Some, None, [], ◌∷◌, map, length, set, slice_get, ap, sym, ◌∙◌, arith}
use Rattle.vt_dec.specs.declared.side.Side.{Side}
use Rattle.vt_dec.specs.declared.side.Side.TheVariants.{Left, Right}
use Rattle.vt_dec.specs.declared.side.Space.{Space}
use Rattle.vt_dec.specs.declared.side.Space.TheVariants.{All, AtMost}
use Rattle.vt_dec.specs.Decisions.{rights, taken, IsSideOf, Narrows, IsKeptIn}
use Rattle.vt_dec.specs.Sides.{is_right}
use Rattle.vt_dec.specs.Contexts.{kept, budget_of, IsSpentIn, AreParts, IsHeld}
use Rattle.vt_dec.proofs.Agreement.{rights-set, slice_get-least_open}
use Rattle.vt_dec.proofs.Kept.{length-kept, kept-set, rights_taken, AreParts-set, AreParts-rights, least_of-rights, IsHeld-rights, IsHeld-below}
use Rattle.vt_dec.proofs.Regions.{free_from_either, unspent_from_either, Narrows-set, Narrows-same_least}

below : (k : ℕ) (decided : List Bool) (least : List Side) (space : Space) → space ≡ AtMost k → IsKeptIn space (kept decided least)
    → (IsSpentIn space (kept decided least) → ⊥) → rights least ≡ taken (kept decided least) → rights least < k
below k decided least All is inside unspent same = absurd (cc)
below k decided least (AtMost budget) is inside unspent same =
    let bound : budget ≡ k = cc in
    let other : taken (kept decided least) ≢ budget = unspent in
    omega (arith, inside.within)

held_with_no_budget : (n left : ℕ) (decided : List Bool) (least before : List Side) (space : Space) → space ≡ All → AreParts n decided least
    → left ≡ budget_of space - rights before → IsHeld n decided least left space
held_with_no_budget n left decided least before All none parts count = record { parts = parts; count = omega (arith, count); budget = tt }
held_with_no_budget n left decided least before (AtMost k) none parts count = absurd (cc)

rights_one : (side : Side) → rights (side ∷ []) ≤ 1
rights_one Left = omega arith
rights_one Right = omega arith

-- A context of which one dimension more is decided: of its admitted decisions some take either side.
module _ {n : ℕ} {decided : List Bool} {least : List Side} {left : ℕ} {space : Space} (held : IsHeld n decided least left space) (dim : ℕ) (side : Side)
    (within : dim < n) (near : dim < 2 ^ 32) (either : IsSideOf (record { sides = kept decided least; space = space }) dim None) where
  inside : dim < length (kept decided least)
  inside = omega (arith, held.parts.long, held.parts.full, length-kept decided least (held.parts.long ∙ sym held.parts.full))

  free : slice_get (kept decided least) dim ≡ Some None
  free = free_from_either (record { sides = kept decided least; space = space }) dim inside either

  parts_after : AreParts n (set decided dim true) (set least dim side)
  parts_after = AreParts-set n decided least dim side held.parts near

  rights_after : rights (set least dim side) ≡ rights (side ∷ []) + rights least
  rights_after = rights-set least dim side (ap (λ sides. slice_get sides dim) (sym held.parts.only) ∙ slice_get-least_open (kept decided least) dim free)

  below_budget : (k : ℕ) → space ≡ AtMost k → rights least < k
  below_budget k is =
      let unspent = unspent_from_either (record { sides = kept decided least; space = space }) dim inside either in
      below k decided least space is held.budget unspent (rights_taken n decided least held.parts)

  pub narrows_all : Narrows (record { sides = kept decided least; space = space }) dim side (record { sides = kept (set decided dim true) (set least dim side); space = space })
  narrows_all = rw kept-set (Narrows-set (record { sides = kept decided least; space = space }) dim side free)

  -- what holds of its parts: with no budget, below it, and with the budget used up
  pub held_all : space ≡ All → IsHeld n (set decided dim true) (set least dim side) left space
  held_all none = held_with_no_budget n left (set decided dim true) (set least dim side) least space none parts_after held.count

  module _ (k cost : ℕ) (is : space ≡ AtMost k) (costs : cost ≡ rights (side ∷ [])) where
    left_is : left ≡ k - rights least
    left_is = rw is at held.count

    pub some_left : cost ≤ left
    some_left = omega (arith, left_is, below_budget k is, rights_one side)

    pub held_below : (left - cost ≡ 0 → ⊥) → IsHeld n (set decided dim true) (set least dim side) (left - cost) space
    held_below unspent =
        let more : left - cost ≢ 0 = unspent in
        let same : left - cost ≡ k - rights (set least dim side) = omega (arith, left_is, rights_after) in
        rw (is, same) (IsHeld-below n k (set decided dim true) (set least dim side) parts_after (omega (arith, same)))

    spent_after : left - cost ≡ 0 → rights (set least dim side) ≡ k
    spent_after spent = omega (arith, left_is, below_budget k is, rights_one side, rights_after)

    pub held_rights : left - cost ≡ 0 → IsHeld n (map is_right (set least dim side)) (set least dim side) (left - cost) space
    held_rights spent = rw (is, spent) (IsHeld-rights n k (set decided dim true) (set least dim side) parts_after (spent_after spent))

    pub narrows_rights : left - cost ≡ 0
        → Narrows (record { sides = kept decided least; space = space }) dim side (record { sides = kept (map is_right (set least dim side)) (set least dim side); space = space })
    narrows_rights spent =
        let least_after = set least dim side in
        let all = kept (set decided dim true) least_after in
        let few = kept (map is_right least_after) least_after in
        let a : taken all ≡ k = sym (rights_taken n (set decided dim true) least_after parts_after) ∙ spent_after spent in
        let b : taken few ≡ k = sym (rights_taken n _ least_after (AreParts-rights n (set decided dim true) least_after parts_after)) ∙ spent_after spent in
        Narrows-same_least (record { sides = kept decided least; space = space }) dim side all few (rw is a) (rw is b) (parts_after.only ∙ sym (least_of-rights least_after)) narrows_all
