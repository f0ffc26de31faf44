use Rattle.std.proofs.Common.{◌≡◌, ℕ, refl}
use Rattle.vt_type.specs.declared.plain.Plain.{Plain}
use Rattle.vt_type.specs.declared.plain.Plain.TheBlock as plain
use Rattle.vt_type.specs.declared.plain.PlainKids.{PlainKids, More}
use Rattle.vt_type.specs.declared.vtype.VType.{VType, Choice}
use Rattle.vt_type.specs.declared.vtype.VKids.{VKids}
use Rattle.vt_type.specs.declared.vtype.VKids as vkids
use Rattle.vt_type.specs.declared.vtype.VKids.TheBlock as vtype
use Rattle.vt_type.specs.Plain.{kids_of}
use Rattle.vt_type.specs.Variational.{vkids_of, choice}

-- The variants that the code makes and matches are the patterns of the definitions.

pub more_here : (kid : Plain) (kids : PlainKids) → More kid kids ≡ kids_of kid kids
unfolding plain.shape-the_row-Plain-0 plain.hidden-the_row-Plain-0 plain.shape-the_row-PlainKids-1 plain.hidden-the_row-PlainKids-1 denote.Hole.Carrier.hidden
more_here kid kids = refl

pub more_is : (one kid : Plain) (others kids : PlainKids) → one ≡ kid → others ≡ kids → More one others ≡ kids_of kid kids
more_is one kid others kids e f = rw (e, f) (more_here kid kids)

pub vmore_here : (kid : VType) (kids : VKids) → vkids.More kid kids ≡ vkids_of kid kids
unfolding vtype.shape-the_row-VType-0 vtype.hidden-the_row-VType-0 vtype.shape-the_row-VKids-1 vtype.hidden-the_row-VKids-1 denote.Hole.Carrier.hidden
vmore_here kid kids = refl

pub vmore_is : (one kid : VType) (others kids : VKids) → one ≡ kid → others ≡ kids → vkids.More one others ≡ vkids_of kid kids
vmore_is one kid others kids e f = rw (e, f) (vmore_here kid kids)

pub choice_here : (dim : ℕ) (left right : VType) → Choice dim left right ≡ choice dim left right
unfolding vtype.shape-the_row-VType-0 vtype.hidden-the_row-VType-0 denote.Hole.Carrier.hidden
choice_here dim left right = refl

pub choice_is : (dim : ℕ) (one left other right : VType) → one ≡ left → other ≡ right → Choice dim one other ≡ choice dim left right
choice_is dim one left other right e f = rw (e, f) (choice_here dim left right)
