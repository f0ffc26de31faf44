use Rattle.std.proofs.Common.{◌≡◌, ℕ, ◌+◌, ◌<◌, Option, Some, None, MatchOption, ap, ◌∙◌, lit<, arith}
use Rattle.vt_type.specs.declared.vtype.VType.{VType, Var, Con, Choice, Err}
use Rattle.vt_type.specs.declared.vtype.VKids.{VKids, More}
use Rattle.vt_type.specs.declared.plain.Plain.{Plain}
use Rattle.vt_type.specs.declared.plain.PlainKids as plain_kids
use Rattle.vt_type.specs.declared.plain.PlainKids.{PlainKids}
use Rattle.vt_type.specs.Plain.{plain_nodes, kids_nodes}
use Rattle.vt_type.specs.Variational.{choice, nodes, vkids_nodes}
use Rattle.vt_type.proofs.Makers.{more_here, vmore_here, choice_here}

-- a type has a node
pub nodes-positive : (type : VType) → 0 < nodes type
nodes-positive (Var name) = lit< tt
nodes-positive (Con top kids) = omega arith
nodes-positive (choice dim left right) = omega arith
nodes-positive Err = lit< tt

-- the nodes of a choice
pub nodes-choice : (type : VType) (dim : ℕ) (left right : VType) → type ≡ Choice dim left right → nodes type ≡ 1 + (nodes left + nodes right)
nodes-choice type dim left right is = ap nodes (is ∙ choice_here dim left right)

-- the nodes of children
pub vkids_nodes-more : (all : VKids) (kid : VType) (kids : VKids) → all ≡ More kid kids → vkids_nodes all ≡ nodes kid + vkids_nodes kids
vkids_nodes-more all kid kids is = ap vkids_nodes (is ∙ vmore_here kid kids)

-- what is left after a first part of a whole, and then after the rest of it
pub spare-rest : (spare : Option ℕ) (room less part rest whole : ℕ) → less + part ≡ room → whole ≡ part + rest → MatchOption spare (less < rest) (λ s. s + rest ≡ less) → MatchOption spare (room < whole) (λ s. s + whole ≡ room)
spare-rest None room less part rest whole taken sum h = omega arith
spare-rest (Some s) room less part rest whole taken sum h = omega arith

-- the same of the children of a type without choices
pub kids_nodes-more : (all : PlainKids) (kid : Plain) (kids : PlainKids) → all ≡ plain_kids.More kid kids → kids_nodes all ≡ plain_nodes kid + kids_nodes kids
kids_nodes-more all kid kids is = ap kids_nodes (is ∙ more_here kid kids)
