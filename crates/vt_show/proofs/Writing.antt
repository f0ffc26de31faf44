use Rattle.std.proofs.Common.{◌≡◌, ℕ, ◌<◌, List, [], ◌++◌, length, slice_get, codes, unwrap_or, Option, Some, None, IsSome, refl, ap, subst, sym, ◌∙◌, arith, append_assoc, inl, inr}
use Rattle.std.specs.Option.{option_map}
use Rattle.std.proofs.lemmas.Option.{slice_get_cases, none-some}
use Rattle.vt_type.specs.declared.head.Head.{Head}
use Rattle.vt_type.specs.declared.head.Head.TheVariants.{Int, Bool as Truth, Text, List as ListOf}
use Rattle.vt_type.specs.declared.vtype.VType.{VType, Con, Choice}
use Rattle.vt_type.specs.declared.vtype.VKids.{VKids, Nil, More}
use Rattle.vt_type.specs.Variational.{vkids_of, vkid_count, IsWellFormedV}
use Rattle.vt_type.specs.Text.{shown}
use Rattle.vt_type.proofs.Makers.{vmore_here, choice_here}
use Rattle.vt_show.specs.Conditions.{DimsBelow}

-- Children that are counted, and the parts of a choice.

no_kids : (kids : VKids) → vkid_count kids ≡ 0 → kids ≡ Nil
no_kids Nil h = refl
no_kids (vkids_of kid kids) h = absurd (omega (arith, h))

-- one child
pub one_kid : (all : VKids) (kid : VType) (others : VKids) → all ≡ More kid others → vkid_count all ≡ 1 → all ≡ vkids_of kid Nil
one_kid all kid others is count =
    let here = is ∙ vmore_here kid others in
    let rest = rw here at count in
    here ∙ ap (vkids_of kid) (no_kids others (omega (arith, rest)))

-- the others after a first
pub other_kids : (all : VKids) (kid : VType) (others : VKids) → all ≡ More kid others → vkid_count all ≡ 2 → vkid_count others ≡ 1
other_kids all kid others is count =
    let rest = rw (is ∙ vmore_here kid others) at count in omega (arith, rest)

-- the dimensions of a choice
pub choice_dims : (n : ℕ) (type : VType) (dim : ℕ) (left right : VType) → type ≡ Choice dim left right → DimsBelow n type → (dim < n) × DimsBelow n left × DimsBelow n right
choice_dims n type dim left right is h = subst (DimsBelow n) (is ∙ choice_here dim left right) h

-- a number of a list has a name
pub named : {A B : Type 0} (f : A → B) (o : Option A) (names : List B) (n : ℕ) → option_map f o ≡ slice_get names n → n < length names → IsSome o
named f (Some x) names n same within = refl
named f None names n same within =
    elim (slice_get_cases names n).1 [ inl h ↦ absurd (none-some h.0 (same ∙ h.2)) | inr h ↦ absurd (omega (arith, h.0)) ]

-- the name of a number that has one
pub name_is : {A : Type 0} (f : A → List ℕ) (o : Option A) (name : Option (List ℕ)) (x : A) → option_map f o ≡ name → o ≡ Some x → f x ≡ unwrap_or name []
name_is f o name x same is = ap (λ n. unwrap_or n []) (sym (ap (option_map f) is) ∙ same)

-- the texts of heads
module _ (dims names : List (List ℕ)) (level : ℕ) (top : Head) (kids : VKids) (well : IsWellFormedV (Con top kids)) where
  pub shown_int : top ≡ Int → shown dims names level (Con top kids) ≡ codes "Int"
  shown_int is = let count = rw is at well.0 in rw (is, no_kids kids count) refl

  pub shown_bool : top ≡ Truth → shown dims names level (Con top kids) ≡ codes "Bool"
  shown_bool is = let count = rw is at well.0 in rw (is, no_kids kids count) refl

  pub shown_string : top ≡ Text → shown dims names level (Con top kids) ≡ codes "String"
  shown_string is = let count = rw is at well.0 in rw (is, no_kids kids count) refl

-- a list is shown alike at each level
pub shown_list : (dims names : List (List ℕ)) (level : ℕ) (top : Head) (kids : VKids) → top ≡ ListOf → IsWellFormedV (Con top kids) → shown dims names level (Con top kids) ≡ shown dims names 0 (Con ListOf kids)
shown_list dims names level top kids is well = rw is (alike kids (rw is at well.0))
  where
    alike : (all : VKids) → vkid_count all ≡ 1 → shown dims names level (Con ListOf all) ≡ shown dims names 0 (Con ListOf all)
    alike Nil count = refl
    alike (vkids_of item Nil) count = refl
    alike (vkids_of item (vkids_of other more)) count = refl

-- the parts of a choice, one after the other
pub choice_text : (start s1 s2 s3 s4 s5 s6 end name left right : List ℕ)
    → s1 ≡ start ++ codes "@" → s2 ≡ s1 ++ name → s3 ≡ s2 ++ codes "{" → s4 ≡ s3 ++ left → s5 ≡ s4 ++ codes ", " → s6 ≡ s5 ++ right → end ≡ s6 ++ codes "}"
    → end ≡ start ++ (codes "@" ++ name ++ codes "{" ++ left ++ codes ", " ++ right ++ codes "}")
choice_text start s1 s2 s3 s4 s5 s6 end name left right e1 e2 e3 e4 e5 e6 e7 =
    rw (e7, e6, e5, e4, e3, e2, e1) (simp append_assoc)
