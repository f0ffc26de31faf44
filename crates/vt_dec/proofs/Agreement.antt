use Rattle.std.proofs.Common.{◌≡◌, ℕ, zero, suc, ◌+◌, ◌≤◌, List, [], ◌∷◌, Option, Some, None, length, set, slice_get, option_map, refl, ap, sym, ◌∙◌, arith}
use Rattle.std.proofs.lemmas.Option.{slice_get-map, same_Some}
use lib.Lanes.{zip2}
use Rattle.vt_dec.specs.declared.side.Side.{Side}
use Rattle.vt_dec.specs.declared.side.Side.TheVariants.{Left, Right}
use Rattle.vt_dec.specs.Decisions.{rights, taken, Agrees}
use Rattle.vt_dec.specs.Sides.{join_side}
use Rattle.vt_dec.specs.Contexts.{least_of, side_or_left}

-- Decisions that agree with what is decided, and how many Rights they take.

pub Agrees-length : (sides : List (Option Side)) (decision : List Side) → Agrees sides decision → length decision ≡ length sides
Agrees-length [] [] agrees = refl
Agrees-length [] (side ∷ decision) agrees = absurd agrees
Agrees-length (own ∷ sides) [] agrees = absurd agrees
Agrees-length (None ∷ sides) (side ∷ decision) agrees = ap suc (Agrees-length sides decision agrees)
Agrees-length (Some own ∷ sides) (side ∷ decision) agrees = ap suc (Agrees-length sides decision agrees.1)

pub Agrees-decided : (sides : List (Option Side)) (decision : List Side) (dim : ℕ) (side : Side) → Agrees sides decision → slice_get sides dim ≡ Some (Some side) → slice_get decision dim ≡ Some side
Agrees-decided [] [] dim side agrees decides = cc
Agrees-decided [] (x ∷ decision) dim side agrees decides = absurd agrees
Agrees-decided (own ∷ sides) [] dim side agrees decides = absurd agrees
Agrees-decided (None ∷ sides) (x ∷ decision) zero side agrees decides = cc
Agrees-decided (None ∷ sides) (x ∷ decision) (suc dim) side agrees decides = Agrees-decided sides decision dim side agrees decides
Agrees-decided (Some own ∷ sides) (x ∷ decision) zero side agrees decides = cc
Agrees-decided (Some own ∷ sides) (x ∷ decision) (suc dim) side agrees decides = Agrees-decided sides decision dim side agrees.1 decides

-- ---- the least decision

pub Agrees-least : (sides : List (Option Side)) → Agrees sides (least_of sides)
Agrees-least [] = tt
Agrees-least (None ∷ sides) = Agrees-least sides
Agrees-least (Some own ∷ sides) = (refl, Agrees-least sides)

pub rights-least : (sides : List (Option Side)) → rights (least_of sides) ≡ taken sides
rights-least [] = refl
rights-least (None ∷ sides) = rights-least sides
rights-least (Some Left ∷ sides) = rights-least sides
rights-least (Some Right ∷ sides) = ap (λ n. 1 + n) (rights-least sides)

pub taken_le_rights : (sides : List (Option Side)) (decision : List Side) → Agrees sides decision → taken sides ≤ rights decision
taken_le_rights [] [] agrees = omega arith
taken_le_rights [] (side ∷ decision) agrees = absurd agrees
taken_le_rights (own ∷ sides) [] agrees = absurd agrees
taken_le_rights (None ∷ sides) (Left ∷ decision) agrees = taken_le_rights sides decision agrees
taken_le_rights (None ∷ sides) (Right ∷ decision) agrees = omega (arith, taken_le_rights sides decision agrees)
taken_le_rights (Some Left ∷ sides) (Left ∷ decision) agrees = taken_le_rights sides decision agrees.1
taken_le_rights (Some Left ∷ sides) (Right ∷ decision) agrees = omega (arith, taken_le_rights sides decision agrees.1)
taken_le_rights (Some Right ∷ sides) (Left ∷ decision) agrees = absurd (cc (agrees.0))
taken_le_rights (Some Right ∷ sides) (Right ∷ decision) agrees = omega (arith, taken_le_rights sides decision agrees.1)

-- with no more Rights than are decided, it is the least decision
pub Agrees-is_least : (sides : List (Option Side)) (decision : List Side) → Agrees sides decision → rights decision ≤ taken sides → decision ≡ least_of sides
Agrees-is_least [] [] agrees few = refl
Agrees-is_least [] (side ∷ decision) agrees few = absurd agrees
Agrees-is_least (own ∷ sides) [] agrees few = absurd agrees
Agrees-is_least (None ∷ sides) (Left ∷ decision) agrees few = ap (λ rest. Left ∷ rest) (Agrees-is_least sides decision agrees few)
Agrees-is_least (None ∷ sides) (Right ∷ decision) agrees few = absurd (omega (arith, taken_le_rights sides decision agrees))
Agrees-is_least (Some Left ∷ sides) (Left ∷ decision) agrees few = ap (λ rest. Left ∷ rest) (Agrees-is_least sides decision agrees.1 few)
Agrees-is_least (Some Left ∷ sides) (Right ∷ decision) agrees few = absurd (cc (agrees.0))
Agrees-is_least (Some Right ∷ sides) (Left ∷ decision) agrees few = absurd (cc (agrees.0))
Agrees-is_least (Some Right ∷ sides) (Right ∷ decision) agrees few = ap (λ rest. Right ∷ rest) (Agrees-is_least sides decision agrees.1 (omega arith))

pub slice_get-least_open : (sides : List (Option Side)) (dim : ℕ) → slice_get sides dim ≡ Some None → slice_get (least_of sides) dim ≡ Some Left
slice_get-least_open sides dim free = slice_get-map side_or_left sides dim ∙ ap (option_map side_or_left) free

pub slice_get-least_right : (sides : List (Option Side)) (dim : ℕ) → slice_get (least_of sides) dim ≡ Some Right → slice_get sides dim ≡ Some (Some Right)
slice_get-least_right [] dim right = cc
slice_get-least_right (None ∷ sides) zero right = cc
slice_get-least_right (Some own ∷ sides) zero right = cc
slice_get-least_right (own ∷ sides) (suc dim) right = slice_get-least_right sides dim right

-- ---- one dimension more

pub Agrees-set : (sides : List (Option Side)) (decision : List Side) (dim : ℕ) (side : Side) → Agrees sides decision → slice_get sides dim ≡ Some None → Agrees sides (set decision dim side)
Agrees-set [] [] dim side agrees free = cc
Agrees-set [] (x ∷ decision) dim side agrees free = absurd agrees
Agrees-set (own ∷ sides) [] dim side agrees free = absurd agrees
Agrees-set (None ∷ sides) (x ∷ decision) zero side agrees free = agrees
Agrees-set (Some own ∷ sides) (x ∷ decision) zero side agrees free = absurd (cc)
Agrees-set (None ∷ sides) (x ∷ decision) (suc dim) side agrees free = Agrees-set sides decision dim side agrees free
Agrees-set (Some own ∷ sides) (x ∷ decision) (suc dim) side agrees free = (agrees.0, Agrees-set sides decision dim side agrees.1 free)

pub rights-set : (decision : List Side) (dim : ℕ) (side : Side) → slice_get decision dim ≡ Some Left → rights (set decision dim side) ≡ rights (side ∷ []) + rights decision
rights-set [] dim side free = absurd (cc)
rights-set (Left ∷ decision) zero Left free = omega arith
rights-set (Left ∷ decision) zero Right free = omega arith
rights-set (Right ∷ decision) zero side free = absurd (cc)
rights-set (Left ∷ decision) (suc dim) side free = rights-set decision dim side free
rights-set (Right ∷ decision) (suc dim) side free = omega (arith, rights-set decision dim side free)

pub Agrees-narrowed : (sides : List (Option Side)) (decision : List Side) (dim : ℕ) (side : Side) → slice_get sides dim ≡ Some None
    → Agrees (set sides dim (Some side)) decision → Agrees sides decision × (slice_get decision dim ≡ Some side)
Agrees-narrowed [] decision dim side free agrees = absurd (cc)
Agrees-narrowed (own ∷ sides) [] zero side free agrees = absurd agrees
Agrees-narrowed (own ∷ sides) [] (suc dim) side free agrees = absurd agrees
Agrees-narrowed (None ∷ sides) (x ∷ decision) zero side free agrees = (agrees.1, ap Some (sym agrees.0))
Agrees-narrowed (Some own ∷ sides) (x ∷ decision) zero side free agrees = absurd (cc)
Agrees-narrowed (None ∷ sides) (x ∷ decision) (suc dim) side free agrees = Agrees-narrowed sides decision dim side free agrees
Agrees-narrowed (Some own ∷ sides) (x ∷ decision) (suc dim) side free agrees =
    let rest = Agrees-narrowed sides decision dim side free agrees.1 in ((agrees.0, rest.0), rest.1)

pub Agrees-narrow : (sides : List (Option Side)) (decision : List Side) (dim : ℕ) (side : Side) → slice_get sides dim ≡ Some None
    → Agrees sides decision → slice_get decision dim ≡ Some side → Agrees (set sides dim (Some side)) decision
Agrees-narrow [] decision dim side free agrees takes = absurd (cc)
Agrees-narrow (own ∷ sides) [] dim side free agrees takes = absurd agrees
Agrees-narrow (None ∷ sides) (x ∷ decision) zero side free agrees takes = (sym (same_Some _ _ takes), agrees)
Agrees-narrow (Some own ∷ sides) (x ∷ decision) zero side free agrees takes = absurd (cc)
Agrees-narrow (None ∷ sides) (x ∷ decision) (suc dim) side free agrees takes = Agrees-narrow sides decision dim side free agrees takes
Agrees-narrow (Some own ∷ sides) (x ∷ decision) (suc dim) side free agrees takes =
    (agrees.0, Agrees-narrow sides decision dim side free agrees.1 takes)

-- ---- two lists of sides at once

pub join-comm : (ones others : List Side) → zip2 join_side ones others ≡ zip2 join_side others ones
join-comm [] [] = refl
join-comm [] (other ∷ others) = refl
join-comm (one ∷ ones) [] = refl
join-comm (Left ∷ ones) (Left ∷ others) = ap (λ rest. Left ∷ rest) (join-comm ones others)
join-comm (Left ∷ ones) (Right ∷ others) = ap (λ rest. Right ∷ rest) (join-comm ones others)
join-comm (Right ∷ ones) (Left ∷ others) = ap (λ rest. Right ∷ rest) (join-comm ones others)
join-comm (Right ∷ ones) (Right ∷ others) = ap (λ rest. Right ∷ rest) (join-comm ones others)

-- where one decision agrees with both lists, so does the join of their least decisions, and it has no more Rights
pub Agrees-join : (ones others : List (Option Side)) (decision : List Side) → Agrees ones decision → Agrees others decision → Agrees ones (zip2 join_side (least_of ones) (least_of others))
Agrees-join [] others decision a b = tt
Agrees-join (one ∷ ones) others [] a b = absurd a
Agrees-join (one ∷ ones) [] (x ∷ decision) a b = absurd b
Agrees-join (None ∷ ones) (None ∷ others) (x ∷ decision) a b = Agrees-join ones others decision a b
Agrees-join (None ∷ ones) (Some other ∷ others) (x ∷ decision) a b = Agrees-join ones others decision a b.1
Agrees-join (Some Left ∷ ones) (None ∷ others) (x ∷ decision) a b = (refl, Agrees-join ones others decision a.1 b)
Agrees-join (Some Right ∷ ones) (None ∷ others) (x ∷ decision) a b = (refl, Agrees-join ones others decision a.1 b)
Agrees-join (Some Left ∷ ones) (Some other ∷ others) (x ∷ decision) a b = (a.0 ∙ sym b.0, Agrees-join ones others decision a.1 b.1)
Agrees-join (Some Right ∷ ones) (Some other ∷ others) (x ∷ decision) a b = (refl, Agrees-join ones others decision a.1 b.1)

Agrees-rest : (own : Option Side) (sides : List (Option Side)) (side : Side) (decision : List Side) → Agrees (own ∷ sides) (side ∷ decision) → Agrees sides decision
Agrees-rest None sides side decision agrees = agrees
Agrees-rest (Some own) sides side decision agrees = agrees.1

rights_le_one : (one other : Side) (rest : List Side) → rights (join_side one other ∷ rest) ≤ 1 + rights rest
rights_le_one Left Left rest = omega arith
rights_le_one Left Right rest = omega arith
rights_le_one Right other rest = omega arith

pub rights-join : (ones others : List (Option Side)) (decision : List Side) → Agrees ones decision → Agrees others decision → rights (zip2 join_side (least_of ones) (least_of others)) ≤ rights decision
rights-join [] others decision a b = omega arith
rights-join (one ∷ ones) others [] a b = absurd a
rights-join (one ∷ ones) [] (x ∷ decision) a b = absurd b
rights-join (one ∷ ones) (other ∷ others) (Right ∷ decision) a b =
    omega (arith, rights_le_one (side_or_left one) (side_or_left other) (zip2 join_side (least_of ones) (least_of others)), rights-join ones others decision (Agrees-rest one ones Right decision a) (Agrees-rest other others Right decision b))
rights-join (None ∷ ones) (None ∷ others) (Left ∷ decision) a b = rights-join ones others decision a b
rights-join (None ∷ ones) (Some Left ∷ others) (Left ∷ decision) a b = rights-join ones others decision a b.1
rights-join (Some Left ∷ ones) (None ∷ others) (Left ∷ decision) a b = rights-join ones others decision a.1 b
rights-join (Some Left ∷ ones) (Some Left ∷ others) (Left ∷ decision) a b = rights-join ones others decision a.1 b.1
rights-join (one ∷ ones) (Some Right ∷ others) (Left ∷ decision) a b = absurd (cc (b.0))
rights-join (Some Right ∷ ones) (other ∷ others) (Left ∷ decision) a b = absurd (cc (a.0))
