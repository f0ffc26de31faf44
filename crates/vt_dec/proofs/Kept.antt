use Rattle.std.proofs.Common.{◌≡◌, ℕ, zero, suc, ◌-◌, ◌^◌, ◌<◌, ◌&&◌, ◌↔◌, Bool, true, false, List, [], ◌∷◌, Some, None, map, length, set, slice_get, replicate, refl, ap, sym, ◌∙◌, inl, inr, arith}
use Rattle.std.proofs.lemmas.Bool.{cases_eq}
use Rattle.std.proofs.lemmas.List.{length-set, length-map, length-replicate, map-set}
use Rattle.std.proofs.lemmas.Option.{slice_get-get_or, same_Some}
use lib.Lanes.{zip2}
use Rattle.vt_dec.specs.declared.side.Side.{Side}
use Rattle.vt_dec.specs.declared.side.Side.TheVariants.{Left, Right}
use Rattle.vt_dec.specs.declared.side.Space.{Space}
use Rattle.vt_dec.specs.declared.side.Space.TheVariants.{All, AtMost}
use Rattle.vt_dec.specs.Decisions.{rights, taken, Agrees}
use Rattle.vt_dec.specs.Sides.{is_right, side_of}
use Rattle.vt_dec.specs.Contexts.{own, kept, least_of, side_or_left, budget_of, AreParts, IsHeld}
use Rattle.vt_dec.specs.Inverse.{is_right-side_of}
use Rattle.vt_dec.proofs.Slices.{slice_get-set_other}
use Rattle.vt_dec.proofs.Sets.{map-replicate}
use Rattle.vt_dec.proofs.Agreement.{rights-least, slice_get-least_right}

-- The sides that a set of dimensions and a least decision keep.

pub length-kept : (decided : List Bool) (least : List Side) → length decided ≡ length least → length (kept decided least) ≡ length least
length-kept [] [] long = refl
length-kept [] (side ∷ least) long = absurd (omega arith)
length-kept (decides ∷ decided) [] long = absurd (omega arith)
length-kept (decides ∷ decided) (side ∷ least) long = ap suc (length-kept decided least (omega arith))

pub slice_get-kept : (decided : List Bool) (least : List Side) (dim : ℕ) (decides : Bool) (side : Side) → slice_get decided dim ≡ Some decides → slice_get least dim ≡ Some side
    → slice_get (kept decided least) dim ≡ Some (own decides side)
slice_get-kept [] least dim decides side a b = cc
slice_get-kept (x ∷ decided) [] dim decides side a b = cc
slice_get-kept (x ∷ decided) (y ∷ least) zero decides side a b = λ i. Some (own (same_Some _ _ a i) (same_Some _ _ b i))
slice_get-kept (x ∷ decided) (y ∷ least) (suc dim) decides side a b = slice_get-kept decided least dim decides side a b

pub decided-kept : (decided : List Bool) (least : List Side) (dim : ℕ) (side : Side) → slice_get (kept decided least) dim ≡ Some (Some side)
    → (slice_get decided dim ≡ Some true) × (slice_get least dim ≡ Some side)
decided-kept [] least dim side decides = absurd (cc)
decided-kept (x ∷ decided) [] dim side decides = absurd (cc)
decided-kept (true ∷ decided) (y ∷ least) zero side decides = (refl, cc)
decided-kept (false ∷ decided) (y ∷ least) zero side decides = absurd (cc)
decided-kept (x ∷ decided) (y ∷ least) (suc dim) side decides = decided-kept decided least dim side decides

pub kept-set : (decided : List Bool) (least : List Side) (dim : ℕ) (side : Side) → kept (set decided dim true) (set least dim side) ≡ set (kept decided least) dim (Some side)
kept-set [] least dim side = refl
kept-set (x ∷ decided) [] zero side = refl
kept-set (x ∷ decided) [] (suc dim) side = refl
kept-set (x ∷ decided) (y ∷ least) zero side = refl
kept-set (x ∷ decided) (y ∷ least) (suc dim) side = ap (λ rest. own x y ∷ rest) (kept-set decided least dim side)

pub kept-replicate : (n : ℕ) → kept (replicate n false) (replicate n Left) ≡ replicate n None
kept-replicate zero = refl
kept-replicate (suc n) = ap (λ rest. None ∷ rest) (kept-replicate n)

-- ---- where the Rights alone are kept

pub least_of-rights : (least : List Side) → least_of (kept (map is_right least) least) ≡ least
least_of-rights [] = refl
least_of-rights (Left ∷ least) = ap (λ rest. Left ∷ rest) (least_of-rights least)
least_of-rights (Right ∷ least) = ap (λ rest. Right ∷ rest) (least_of-rights least)

no_left-rights : (least : List Side) (dim : ℕ) → slice_get (kept (map is_right least) least) dim ≡ Some (Some Left) → ⊥
no_left-rights [] dim left = cc
no_left-rights (Left ∷ least) zero left = cc
no_left-rights (Right ∷ least) zero left = cc
no_left-rights (side ∷ least) (suc dim) left = no_left-rights least dim left

right_of_bit : (least : List Side) (dim : ℕ) → slice_get (map is_right least) dim ≡ Some true → slice_get least dim ≡ Some Right
right_of_bit [] dim bit = absurd (cc)
right_of_bit (Left ∷ least) zero bit = absurd (cc)
right_of_bit (Right ∷ least) zero bit = refl
right_of_bit (side ∷ least) (suc dim) bit = right_of_bit least dim bit

-- ---- the parts of a context

pub rights_taken : (n : ℕ) (decided : List Bool) (least : List Side) → AreParts n decided least → rights least ≡ taken (kept decided least)
rights_taken n decided least parts = ap rights (sym parts.only) ∙ rights-least (kept decided least)

-- a dimension that is not decided
pub slice_get-kept_free : (n : ℕ) (decided : List Bool) (least : List Side) (dim : ℕ) → AreParts n decided least → dim < n → slice_get decided dim ≡ Some false
    → slice_get (kept decided least) dim ≡ Some None
slice_get-kept_free n decided least dim parts within not_in =
    slice_get-kept decided least dim false _ not_in (slice_get-get_or least dim Left (omega (arith, parts.full)))

low-set : (decided : List Bool) (at : ℕ) → at < 2 ^ 32 → ((dim : ℕ) → slice_get decided dim ≡ Some true → dim < 2 ^ 32)
    → (dim : ℕ) → slice_get (set decided at true) dim ≡ Some true → dim < 2 ^ 32
low-set decided at near low dim member =
    elim (cases_eq dim at) [
      | inl here ↦ omega arith
      | inr other ↦ low dim (sym (slice_get-set_other decided at dim true other) ∙ member)
    ]

pub AreParts-set : (n : ℕ) (decided : List Bool) (least : List Side) (dim : ℕ) (side : Side) → AreParts n decided least → dim < 2 ^ 32
    → AreParts n (set decided dim true) (set least dim side)
AreParts-set n decided least dim side parts near = record {
  long = length-set decided dim true ∙ parts.long;
  full = length-set least dim side ∙ parts.full;
  only = ap least_of (kept-set decided least dim side) ∙ map-set side_or_left (kept decided least) dim (Some side) ∙ ap (λ sides. set sides dim side) parts.only;
  low = low-set decided dim near parts.low;
}

pub AreParts-rights : (n : ℕ) (decided : List Bool) (least : List Side) → AreParts n decided least → AreParts n (map is_right least) least
AreParts-rights n decided least parts = record {
  long = length-map least is_right ∙ parts.full;
  full = parts.full;
  only = least_of-rights least;
  low = λ dim bit.
      let right : slice_get (least_of (kept decided least)) dim ≡ Some Right = ap (λ sides. slice_get sides dim) parts.only ∙ right_of_bit least dim bit in
      parts.low dim (decided-kept decided least dim Right (slice_get-least_right (kept decided least) dim right)).0;
}

slice_get-replicate : {A : Type 0} (n : ℕ) (a b : A) (dim : ℕ) → slice_get (replicate n a) dim ≡ Some b → a ≡ b
slice_get-replicate zero a b dim is = absurd (cc)
slice_get-replicate (suc n) a b zero is = same_Some a b is
slice_get-replicate (suc n) a b (suc dim) is = slice_get-replicate n a b dim is

taken-replicate : (n : ℕ) → taken (replicate n None) ≡ 0
taken-replicate zero = refl
taken-replicate (suc n) = taken-replicate n

AreParts-whole : (n : ℕ) → AreParts n (replicate n false) (replicate n Left)
AreParts-whole n = record {
  long = length-replicate n false;
  full = length-replicate n Left;
  only = ap least_of (kept-replicate n) ∙ map-replicate side_or_left n None;
  low = λ dim member. absurd (cc (slice_get-replicate n false true dim member));
}

-- nothing is decided
pub IsHeld-whole : (n : ℕ) (space : Space) → IsHeld n (replicate n false) (replicate n Left) (budget_of space) space
IsHeld-whole n All = record { parts = AreParts-whole n; count = omega arith; budget = tt }
IsHeld-whole n (AtMost k) =
    let none : taken (kept (replicate n false) (replicate n Left)) ≡ 0 = ap taken (kept-replicate n) ∙ taken-replicate n in
    record {
      parts = AreParts-whole n;
      count = omega (arith, none, rights_taken n (replicate n false) (replicate n Left) (AreParts-whole n));
      budget = record {
        within = omega (arith, none);
        no_left = λ _ dim left. cc (slice_get-replicate n None (Some Left) dim (ap (λ sides. slice_get sides dim) (sym (kept-replicate n)) ∙ left));
      };
    }

-- where the budget is used up, the Rights alone are kept
pub IsHeld-rights : (n k : ℕ) (decided : List Bool) (least : List Side) → AreParts n decided least → rights least ≡ k → IsHeld n (map is_right least) least 0 (AtMost k)
IsHeld-rights n k decided least parts count =
    let held = AreParts-rights n decided least parts in
    record {
      parts = held;
      count = omega (arith, count);
      budget = record { within = omega (arith, rights_taken n (map is_right least) least held); no_left = λ _. no_left-rights least };
    }

-- where it is not, all that is decided is
pub IsHeld-below : (n k : ℕ) (decided : List Bool) (least : List Side) → AreParts n decided least → rights least < k → IsHeld n decided least (k - rights least) (AtMost k)
IsHeld-below n k decided least parts below = record {
  parts = parts;
  count = refl;
  budget = record {
    within = omega (arith, rights_taken n decided least parts);
    no_left = λ spent. absurd (omega (arith, spent, rights_taken n decided least parts));
  };
}

-- ---- the decisions that agree

agrees_from_cut : (decided : List Bool) (least decision : List Side) → length decided ≡ length least → length decision ≡ length decided
    → zip2 (λ one other. one && other) (map is_right decision) decided ≡ map is_right least → Agrees (kept decided least) decision
agrees_from_cut [] [] [] long full cut = tt
agrees_from_cut [] [] (x ∷ decision) long full cut = absurd (omega arith)
agrees_from_cut [] (side ∷ least) decision long full cut = absurd (omega arith)
agrees_from_cut (decides ∷ decided) [] decision long full cut = absurd (omega arith)
agrees_from_cut (decides ∷ decided) (side ∷ least) [] long full cut = absurd (omega arith)
agrees_from_cut (false ∷ decided) (side ∷ least) (x ∷ decision) long full cut = agrees_from_cut decided least decision (omega arith) (omega arith) (cc)
agrees_from_cut (true ∷ decided) (Left ∷ least) (Left ∷ decision) long full cut = (refl, agrees_from_cut decided least decision (omega arith) (omega arith) (cc))
agrees_from_cut (true ∷ decided) (Left ∷ least) (Right ∷ decision) long full cut = absurd (cc)
agrees_from_cut (true ∷ decided) (Right ∷ least) (Left ∷ decision) long full cut = absurd (cc)
agrees_from_cut (true ∷ decided) (Right ∷ least) (Right ∷ decision) long full cut = (refl, agrees_from_cut decided least decision (omega arith) (omega arith) (cc))

cut_from_agrees : (decided : List Bool) (least decision : List Side) → least_of (kept decided least) ≡ least → Agrees (kept decided least) decision
    → zip2 (λ one other. one && other) (map is_right decision) decided ≡ map is_right least
cut_from_agrees [] [] [] only agrees = refl
cut_from_agrees [] [] (x ∷ decision) only agrees = absurd agrees
cut_from_agrees [] (side ∷ least) decision only agrees = absurd (cc)
cut_from_agrees (decides ∷ decided) [] [] only agrees = refl
cut_from_agrees (decides ∷ decided) [] (x ∷ decision) only agrees = absurd agrees
cut_from_agrees (true ∷ decided) (side ∷ least) [] only agrees = absurd agrees
cut_from_agrees (false ∷ decided) (side ∷ least) [] only agrees = absurd agrees
cut_from_agrees (true ∷ decided) (Left ∷ least) (Left ∷ decision) only agrees = ap (λ rest. false ∷ rest) (cut_from_agrees decided least decision (cc) agrees.1)
cut_from_agrees (true ∷ decided) (Left ∷ least) (Right ∷ decision) only agrees = absurd (cc (agrees.0))
cut_from_agrees (true ∷ decided) (Right ∷ least) (Left ∷ decision) only agrees = absurd (cc (agrees.0))
cut_from_agrees (true ∷ decided) (Right ∷ least) (Right ∷ decision) only agrees = ap (λ rest. true ∷ rest) (cut_from_agrees decided least decision (cc) agrees.1)
cut_from_agrees (false ∷ decided) (Right ∷ least) (x ∷ decision) only agrees = absurd (cc)
cut_from_agrees (false ∷ decided) (Left ∷ least) (Left ∷ decision) only agrees = ap (λ rest. false ∷ rest) (cut_from_agrees decided least decision (cc) agrees)
cut_from_agrees (false ∷ decided) (Left ∷ least) (Right ∷ decision) only agrees = ap (λ rest. false ∷ rest) (cut_from_agrees decided least decision (cc) agrees)

-- a decision agrees where its Rights that are decided are those of the least decision
pub Agrees-cut : (n : ℕ) (decided : List Bool) (least decision : List Side) → AreParts n decided least → length decision ≡ length decided
    → (zip2 (λ one other. one && other) (map is_right decision) decided ≡ map is_right least) ↔ Agrees (kept decided least) decision
Agrees-cut n decided least decision parts full =
    (agrees_from_cut decided least decision (parts.long ∙ sym parts.full) full, cut_from_agrees decided least decision parts.only)

pub rights_of : (sides : List Side) (bits : List Bool) → map side_of bits ≡ sides → bits ≡ map is_right sides
rights_of sides bits is = sym (is_right-side_of bits) ∙ ap (map is_right) is

-- the same of the sets of their Rights
pub Agrees-cut_sets : (n : ℕ) (decided : List Bool) (least decision : List Side) (least_set decision_set : List Bool) → AreParts n decided least
    → map side_of least_set ≡ least → map side_of decision_set ≡ decision → length decision_set ≡ length decided
    → (zip2 (λ one other. one && other) decision_set decided ≡ least_set) ↔ Agrees (kept decided least) decision
Agrees-cut_sets n decided least decision least_set decision_set parts a b full =
    rw (rights_of least least_set a, rights_of decision decision_set b)
    (Agrees-cut n decided least decision parts (sym (ap length b) ∙ length-map decision_set side_of ∙ full))
