use Rattle.std.proofs.Common.{◌≡◌, ℕ, List, Option, Some, None, slice_get, refl, ap, sym, ◌∙◌, arith}
use Rattle.std.specs.Option.{option_map}
use Rattle.vt_dec.specs.declared.side.Side.{Side}
use Rattle.vt_dec.specs.declared.side.Side.TheVariants.{Left, Right}
use Rattle.vt_type.specs.declared.plain.Plain.{Plain}
use Rattle.vt_type.specs.declared.plain.Plain as plain
use Rattle.vt_type.specs.declared.vtype.VKids.{VKids, Nil}
use Rattle.vt_type.specs.Variational.{vkids_of, vkid_count, by_side, kids_selected}
use Rattle.vt_norm.specs.Laws.{choices, ChoiceDistributes}

-- A choice between two constructors is a constructor over choices.

same_sides : {A : Type 0} (side : Option Side) (x : A) → by_side side x x ≡ x
same_sides (Some Left) x = refl
same_sides (Some Right) x = refl
same_sides None x = refl

side-ap : {A B : Type 0} (f : A → B) (side : Option Side) (x y : A) → f (by_side side x y) ≡ by_side side (f x) (f y)
side-ap f (Some Left) x y = refl
side-ap f (Some Right) x y = refl
side-ap f None x y = refl

choices_select : (decision : List Side) (dim : ℕ) (side : Option Side) → slice_get decision dim ≡ side → (kids others : VKids) → vkid_count kids ≡ vkid_count others → kids_selected decision (choices dim kids others) ≡ by_side side (kids_selected decision kids) (kids_selected decision others)
choices_select decision dim side e Nil Nil count = sym (same_sides side _)
choices_select decision dim side e Nil (vkids_of other others) count = absurd (omega arith)
choices_select decision dim side e (vkids_of kid kids) Nil count = absurd (omega arith)
choices_select decision dim (Some Left) e (vkids_of kid kids) (vkids_of other others) count =
    let rest = choices_select decision dim (Some Left) e kids others (omega arith) in rw (e, rest) refl
choices_select decision dim (Some Right) e (vkids_of kid kids) (vkids_of other others) count =
    let rest = choices_select decision dim (Some Right) e kids others (omega arith) in rw (e, rest) refl
choices_select decision dim None e (vkids_of kid kids) (vkids_of other others) count =
    let rest = choices_select decision dim None e kids others (omega arith) in rw (e, rest) refl

pub choice_distributes : ChoiceDistributes
choice_distributes decision dim top kids others count =
    sym (ap (option_map (plain.Con top)) (choices_select decision dim _ refl kids others count) ∙ side-ap (option_map (plain.Con top)) (slice_get decision dim) _ _)
