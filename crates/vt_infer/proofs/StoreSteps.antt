use Rattle.std.proofs.Common.{◌≡◌, ℕ, ◌*◌, ◌<◌, List, [], ◌∷◌, length, map, Option, Some, None, slice_get, refl, sym, subst, arith}
use Rattle.std.specs.List.{All}
use Rattle.std.proofs.lemmas.List.Elements.{All-nil, All-cons}
use Rattle.vt_dec.specs.declared.side.Side.{Side}
use Rattle.vt_dec.specs.declared.side.Side.TheVariants.{Left, Right}
use Rattle.vt_type.specs.declared.head.Head.{Head}
use Rattle.vt_type.specs.declared.head.Head.TheVariants.{Fun}
use Rattle.vt_type.specs.declared.plain.Plain.{Plain, Con}
use Rattle.vt_type.specs.declared.plain.PlainKids.{Nil}
use Rattle.vt_type.specs.Plain.{IsWellFormed, arity}
use Rattle.vt_type.specs.Constants.{◌⇒◌}
use Rattle.vt_type.specs.Variational.{by_side}
use Rattle.vt_store.specs.Ends.{CellEnd, Free, Same, Made, EachCell, IsAcyclic}
use Rattle.vt_store.specs.Solutions.{plain_kids, Fits}
use Rattle.vt_store.specs.Stores.{Cells, cell_count, ends_at, one_of}
use Rattle.vt_store.specs.Stores as stores
use Rattle.vt_store.specs.Writes.{IsOf}
use Rattle.vt_store.proofs.Solutions.{IsWellFormed-made}
use Rattle.vt_infer.specs.Inferring.{solutions_at, IsNew, NewTypes}
use Rattle.vt_infer.proofs.Extending.{adds_one}

-- New cells of a store.

-- a cell that is bound to what fits exactly these types
pub IsNew-one : (N : ℕ) (types : NewTypes) (end : List Side → CellEnd) (result : ℕ) (old new : Cells)
    → ((decision : List Side) → IsOf N old.space decision → IsAcyclic (cell_count old) (ends_at old decision))
    → (result ≡ cell_count old) × stores.Adds end old new
    → ((decision : List Side) → IsOf N old.space decision → EachCell (λ cell. cell < cell_count old) (end decision))
    → ((decision : List Side) → IsOf N old.space decision → (s : ℕ → Plain) (type : Plain) → solutions_at old decision s → IsWellFormed type → Fits s type (end decision) → types decision s type)
    → ((decision : List Side) → IsOf N old.space decision → (s : ℕ → Plain) (type : Plain) → solutions_at old decision s → types decision s type → IsWellFormed type × Fits s type (end decision))
    → IsNew N types result old new
IsNew-one N types end result old new acyclic added inside gives takes =
    subst (λ cell. IsNew N types cell old new) (sym added.0) (record {
      space = added.1.space;
      grows = omega (arith, added.1.count);
      is_cell = omega (arith, added.1.count);
      adds = λ decision of.
          adds_one (cell_count old) (cell_count new) (ends_at old decision) (ends_at new decision) added.1.count (acyclic decision of) (added.1.kept decision) (types decision)
          (subst (EachCell (λ cell. cell < cell_count old)) (sym (added.1.added decision)) (inside decision of))
          (λ s type solves formed fits. gives decision of s type solves formed (subst (Fits s type) (added.1.added decision) fits))
          (λ s type solves has. let both = takes decision of s type solves has in (both.0, subst (Fits s type) (sym (added.1.added decision)) both.1));
    })

pub All-two : (P : ℕ → Type 0) (one other : ℕ) → P one → P other → All P (one ∷ (other ∷ []))
All-two P one other p q = All-cons P one (other ∷ []) p (All-cons P other [] q (All-nil P))

module _ (N : ℕ) (result : ℕ) (old new : Cells)
    (acyclic : (decision : List Side) → IsOf N old.space decision → IsAcyclic (cell_count old) (ends_at old decision)) where
  -- an open cell
  pub IsNew-open : (result ≡ cell_count old) × stores.Adds (λ _. Free) old new → IsNew N (λ decision s type. IsWellFormed type) result old new
  IsNew-open added =
      IsNew-one N (λ decision s type. IsWellFormed type) (λ _. Free) result old new acyclic added
      (λ decision of. tt) (λ decision of s type solves formed fits. formed) (λ decision of s type solves has. (has, tt))

  -- a head over cells
  pub IsNew-con : (head : Head) (kids : List ℕ) → length kids ≡ arity head → All (λ kid. kid < cell_count old) kids
      → (result ≡ cell_count old) × stores.Adds (λ _. Made head kids) old new
      → IsNew N (λ decision s type. type ≡ Con head (plain_kids (map s kids))) result old new
  IsNew-con head kids sized inside added =
      IsNew-one N (λ decision s type. type ≡ Con head (plain_kids (map s kids))) (λ _. Made head kids) result old new acyclic added
      (λ decision of. inside) (λ decision of s type solves formed fits. fits)
      (λ decision of s type solves has. (subst IsWellFormed (sym has) (IsWellFormed-made s head kids sized (λ k d within. solves.well_formed _ (inside k d within))), has))

  -- one of two
  pub IsNew-choice : (dim left right : ℕ) → dim < 64 * N → left < cell_count old → right < cell_count old
      → (result ≡ cell_count old) × stores.Adds (one_of dim left right) old new
      → IsNew N (λ decision s type. type ≡ by_side (slice_get decision dim) (s left) (s right)) result old new
  IsNew-choice dim left right within left_is right_is added =
      IsNew-one N (λ decision s type. type ≡ by_side (slice_get decision dim) (s left) (s right)) (one_of dim left right) result old new acyclic added
      (λ decision of. inside (slice_get decision dim)) (λ decision of s type solves formed fits. forward s type (slice_get decision dim) fits)
      (λ decision of s type solves has. (subst IsWellFormed (sym has) (formed s solves.well_formed (slice_get decision dim)), back s type (slice_get decision dim) has))
    where
      inside : (side : Option Side) → EachCell (λ cell. cell < cell_count old) (by_side side (Same left) (Same right))
      inside None = left_is
      inside (Some Left) = left_is
      inside (Some Right) = right_is

      forward : (s : ℕ → Plain) (type : Plain) (side : Option Side) → Fits s type (by_side side (Same left) (Same right)) → type ≡ by_side side (s left) (s right)
      forward s type None fits = fits
      forward s type (Some Left) fits = fits
      forward s type (Some Right) fits = fits

      back : (s : ℕ → Plain) (type : Plain) (side : Option Side) → type ≡ by_side side (s left) (s right) → Fits s type (by_side side (Same left) (Same right))
      back s type None has = has
      back s type (Some Left) has = has
      back s type (Some Right) has = has

      formed : (s : ℕ → Plain) → ((cell : ℕ) → cell < cell_count old → IsWellFormed (s cell)) → (side : Option Side) → IsWellFormed (by_side side (s left) (s right))
      formed s all None = all left left_is
      formed s all (Some Left) = all left left_is
      formed s all (Some Right) = all right right_is

  -- a head over no cells
  pub IsNew-leaf : (head : Head) (type : Plain) (kids : List ℕ) → kids ≡ [] → type ≡ Con head Nil → (result ≡ cell_count old) × stores.Adds (λ _. Made head kids) old new
      → arity head ≡ 0
      → IsNew N (λ decision s own. own ≡ type) result old new
  IsNew-leaf head type kids none is added leaf =
      let Q : Plain → Type 0 = λ t. IsNew N (λ decision s own. own ≡ t) result old new in
      let added_none : (result ≡ cell_count old) × stores.Adds (λ _. Made head []) old new = subst (λ own. (result ≡ cell_count old) × stores.Adds (λ _. Made head own) old new) none added in
      subst Q (sym is) (IsNew-con head [] (sym leaf) (λ k d within. absurd (omega arith)) added_none)

  -- a function from one cell to another
  pub IsNew-fun : (from to : ℕ) (kids : List ℕ) → kids ≡ from ∷ (to ∷ []) → from < cell_count old → to < cell_count old
      → (result ≡ cell_count old) × stores.Adds (λ _. Made Fun kids) old new
      → IsNew N (λ decision s type. type ≡ (s from ⇒ s to)) result old new
  IsNew-fun from to kids are from_is to_is added =
      let added_two : (result ≡ cell_count old) × stores.Adds (λ _. Made Fun (from ∷ (to ∷ []))) old new = subst (λ own. (result ≡ cell_count old) × stores.Adds (λ _. Made Fun own) old new) are added in
      IsNew-con Fun (from ∷ (to ∷ [])) refl (All-two (λ kid. kid < cell_count old) from to from_is to_is) added_two
