use Rattle.std.proofs.Common.{◌≡◌, ℕ, ◌<◌, List, subst, ap, ◌∙◌, refl, ◌+◌, slice_get, Option, Some, None, IfSome}
use Rattle.std.specs.Option.{option_map, option_and_then}
use Rattle.vt_dec.specs.declared.side.Side.{Side}
use Rattle.vt_dec.specs.declared.side.Side.TheVariants.{Left, Right}
use Rattle.vt_type.specs.declared.vtype.VType.{VType, Var, Con, Choice, Err}
use Rattle.vt_type.specs.declared.vtype.VKids.{VKids, Nil, More}
use Rattle.vt_type.specs.declared.head.Head.{Head}
use Rattle.vt_type.specs.declared.plain.Plain.{Plain}
use Rattle.vt_type.specs.declared.plain.Plain as plain
use Rattle.vt_type.specs.declared.plain.PlainKids.{PlainKids}
use Rattle.vt_type.specs.Plain.{kids_of, arity, kid_count, IsWellFormed, AreWellFormed}
use Rattle.vt_type.specs.Variational.{vkids_of, choice, by_side, vkid_count, selected, kids_selected, root_at, IsWellFormedV, AreWellFormedV, most_dimensions}
use Rattle.vt_type.proofs.Makers.{vmore_here, choice_here}

-- the parts of a well-formed choice
pub choice_parts : (type : VType) (dim : ℕ) (left right : VType) → type ≡ Choice dim left right → IsWellFormedV type → (dim < most_dimensions) × IsWellFormedV left × IsWellFormedV right
choice_parts type dim left right is h = subst IsWellFormedV (is ∙ choice_here dim left right) h

-- the parts of well-formed children
pub more_parts : (all : VKids) (kid : VType) (kids : VKids) → all ≡ More kid kids → AreWellFormedV all → IsWellFormedV kid × AreWellFormedV kids
more_parts all kid kids is h = subst AreWellFormedV (is ∙ vmore_here kid kids) h

-- what a choice selects, where the side is known
pub selected-choice : (decision : List Side) (type : VType) (dim : ℕ) (left right : VType) (side : Side) → type ≡ Choice dim left right → slice_get decision dim ≡ Some side → selected decision type ≡ by_side (Some side) (selected decision left) (selected decision right)
selected-choice decision type dim left right side is taken =
    ap (selected decision) (is ∙ choice_here dim left right) ∙ ap (λ s. by_side s (selected decision left) (selected decision right)) taken

-- what children select
pub kids_selected-more : (decision : List Side) (all : VKids) (kid : VType) (kids : VKids) → all ≡ More kid kids → kids_selected decision all ≡ option_and_then (λ first. option_map (kids_of first) (kids_selected decision kids)) (selected decision kid)
kids_selected-more decision all kid kids is = ap (kids_selected decision) (is ∙ vmore_here kid kids)

-- what stands at the root of a choice, where the side is known
pub root_at-choice : (decision : List Side) (type : VType) (dim : ℕ) (left right : VType) (side : Side) → type ≡ Choice dim left right → slice_get decision dim ≡ Some side → root_at decision type ≡ by_side (Some side) (root_at decision left) (root_at decision right)
root_at-choice decision type dim left right side is taken =
    ap (root_at decision) (is ∙ choice_here dim left right) ∙ ap (λ s. by_side s (root_at decision left) (root_at decision right)) taken

-- well-formed children, so many
abbrev SoMany : ℕ → PlainKids → Type 0
SoMany count kids = (kid_count kids ≡ count) × AreWellFormed kids

by_side-keeps : {A : Type 0} (P : A → Type 0) (side : Option Side) (left right : A) → P left → P right → P (by_side side left right)
by_side-keeps P (Some Left) left right l r = l
by_side-keeps P (Some Right) left right l r = r
by_side-keeps P None left right l r = l

head_over : (top : Head) (count : ℕ) (kids : Option PlainKids) → count ≡ arity top → IfSome kids (SoMany count) → IfSome (option_map (plain.Con top) kids) IsWellFormed
head_over top count None is h = tt
head_over top count (Some kids) is h = (h.0 ∙ is, h.1)

first_before : (count : ℕ) (kid : Option Plain) (kids : Option PlainKids) → IfSome kid IsWellFormed → IfSome kids (SoMany count) → IfSome (option_and_then (λ first. option_map (kids_of first) kids) kid) (SoMany (1 + count))
first_before count None kids h others = tt
first_before count (Some kid) None h others = tt
first_before count (Some kid) (Some kids) h others = (ap (λ n. 1 + n) others.0, (h, others.1))

-- what a well-formed type selects is well formed
mutual
  pub selected-well_formed : (decision : List Side) (type : VType) → IsWellFormedV type → IfSome (selected decision type) IsWellFormed
  selected-well_formed decision (Var name) h = tt
  selected-well_formed decision (Con top kids) h = head_over top (vkid_count kids) (kids_selected decision kids) h.0 (kids_selected-well_formed decision kids h.1)
  selected-well_formed decision (choice dim left right) h =
      by_side-keeps (λ o. IfSome o IsWellFormed) (slice_get decision dim) (selected decision left) (selected decision right) (selected-well_formed decision left h.1) (selected-well_formed decision right h.2)
  selected-well_formed decision Err h = tt

  kids_selected-well_formed : (decision : List Side) (kids : VKids) → AreWellFormedV kids → IfSome (kids_selected decision kids) (SoMany (vkid_count kids))
  kids_selected-well_formed decision Nil h = (refl, tt)
  kids_selected-well_formed decision (vkids_of kid kids) h =
      first_before (vkid_count kids) (selected decision kid) (kids_selected decision kids) (selected-well_formed decision kid h.0) (kids_selected-well_formed decision kids h.1)
