use Rattle.std.proofs.Common.{◌≡◌, ℕ, zero, suc, ◌+◌, ◌<◌, ◌≤◌, inl, inr, List, Option, Some, None, slice_get, refl, ap, subst, ◌∙◌, lit≤, arith}
use Rattle.std.specs.Option.{unwrap_or, option_map, option_and_then}
use Rattle.vt_dec.specs.declared.side.Side.{Side}
use Rattle.vt_dec.specs.declared.side.Side.TheVariants.{Left, Right}
use Rattle.vt_type.specs.declared.head.Head.{Head}
use Rattle.vt_type.specs.declared.plain.Plain.{Plain}
use Rattle.vt_type.specs.declared.plain.Plain as plain
use Rattle.vt_type.specs.declared.plain.PlainKids.{PlainKids}
use Rattle.vt_type.specs.declared.plain.PlainKids as kids
use Rattle.vt_type.specs.declared.vtype.VType.{VType, Var, Con, Err}
use Rattle.vt_type.specs.declared.vtype.VKids.{VKids, Nil}
use Rattle.vt_type.specs.Plain.{kids_of, kid_count}
use Rattle.vt_type.specs.NormalForm.{kid_at}
use Rattle.vt_type.specs.Variational.{vkids_of, choice, vkid_count, by_side, IsWellFormedV, AreWellFormedV, nodes, vkids_nodes, HasError, SomeHasError, selected, kids_selected}
use Rattle.vt_norm.specs.Parts.{Occurs, SomeOccurs, vkid_at, kid}

-- The child of a type under the choices at its root.

-- a fact of the child of this number among these, and of what stands where there is none
child_fact : (P : VType → Type 0) (found : Option VType) (other : VType) → ((child : VType) → found ≡ Some child → P child) → P other → P (unwrap_or found other)
child_fact P None other h k = k
child_fact P (Some child) other h k = h child refl

nodes-vkid_at : (kids : VKids) (number : ℕ) (child : VType) → vkid_at kids number ≡ Some child → nodes child ≤ vkids_nodes kids
nodes-vkid_at Nil number child h = cc
nodes-vkid_at (vkids_of one others) zero child h = let e : one ≡ child = cc in rw e (omega arith)
nodes-vkid_at (vkids_of one others) (suc number) child h = omega (arith, nodes-vkid_at others number child h)

-- it has no more nodes
pub nodes-kid : (number : ℕ) (type : VType) → nodes (kid number type) ≤ nodes type
nodes-kid number (Var name) = lit≤ tt
nodes-kid number (Con top kids) =
    child_fact (λ t. nodes t ≤ 1 + vkids_nodes kids) (vkid_at kids number) (Con top kids) (λ child e. omega (arith, nodes-vkid_at kids number child e)) (omega arith)
nodes-kid number (choice dim left right) = omega (arith, nodes-kid number left, nodes-kid number right)
nodes-kid number Err = lit≤ tt

well_formed-vkid_at : (kids : VKids) (number : ℕ) (child : VType) → AreWellFormedV kids → vkid_at kids number ≡ Some child → IsWellFormedV child
well_formed-vkid_at Nil number child w h = cc
well_formed-vkid_at (vkids_of one others) zero child w h = let e : one ≡ child = cc in subst IsWellFormedV e w.0
well_formed-vkid_at (vkids_of one others) (suc number) child w h = well_formed-vkid_at others number child w.1 h

-- it is well formed
pub well_formed-kid : (number : ℕ) (type : VType) → IsWellFormedV type → IsWellFormedV (kid number type)
well_formed-kid number (Var name) h = tt
well_formed-kid number (Con top kids) h =
    child_fact IsWellFormedV (vkid_at kids number) (Con top kids) (λ child e. well_formed-vkid_at kids number child h.1 e) h
well_formed-kid number (choice dim left right) h = (h.0, well_formed-kid number left h.1, well_formed-kid number right h.2)
well_formed-kid number Err h = tt

occurs-vkid_at : (asked : ℕ) (kids : VKids) (number : ℕ) (child : VType) → vkid_at kids number ≡ Some child → Occurs asked child → SomeOccurs asked kids
occurs-vkid_at asked Nil number child h o = cc
occurs-vkid_at asked (vkids_of one others) zero child h o = let e : child ≡ one = cc in inl (subst (Occurs asked) e o)
occurs-vkid_at asked (vkids_of one others) (suc number) child h o = inr (occurs-vkid_at asked others number child h o)

-- its dimensions are those of the type
pub occurs-kid : (asked number : ℕ) (type : VType) → Occurs asked (kid number type) → Occurs asked type
occurs-kid asked number (Var name) h = h
occurs-kid asked number (Con top kids) h =
    child_fact (λ t. Occurs asked t → SomeOccurs asked kids) (vkid_at kids number) (Con top kids) (λ child e o. occurs-vkid_at asked kids number child e o) (λ o. o) h
occurs-kid asked number (choice dim left right) (inl e) = inl e
occurs-kid asked number (choice dim left right) (inr (inl l)) = inr (inl (occurs-kid asked number left l))
occurs-kid asked number (choice dim left right) (inr (inr r)) = inr (inr (occurs-kid asked number right r))
occurs-kid asked number Err h = h

error-vkid_at : (kids : VKids) (number : ℕ) (child : VType) → vkid_at kids number ≡ Some child → HasError child → SomeHasError kids
error-vkid_at Nil number child h o = cc
error-vkid_at (vkids_of one others) zero child h o = let e : child ≡ one = cc in inl (subst HasError e o)
error-vkid_at (vkids_of one others) (suc number) child h o = inr (error-vkid_at others number child h o)

-- no error comes in
pub error-kid : (number : ℕ) (type : VType) → HasError (kid number type) → HasError type
error-kid number (Var name) h = h
error-kid number (Con top kids) h =
    child_fact (λ t. HasError t → SomeHasError kids) (vkid_at kids number) (Con top kids) (λ child e o. error-vkid_at kids number child e o) (λ o. o) h
error-kid number (choice dim left right) (inl l) = inl (error-kid number left l)
error-kid number (choice dim left right) (inr r) = inr (error-kid number right r)
error-kid number Err h = h

-- what children select, taken apart
more_selected : (first : Option Plain) (rest : Option PlainKids) (all : PlainKids) → option_and_then (λ one. option_map (kids_of one) rest) first ≡ Some all → (one : Plain) × (others : PlainKids) × (first ≡ Some one) × (rest ≡ Some others) × (all ≡ kids_of one others)
more_selected None rest all h = cc
more_selected (Some one) None all h = cc
more_selected (Some one) (Some others) all h = (one, others, refl, refl, cc)

-- what a constructor selects, taken apart
pub con_selected : (top other : Head) (found : Option PlainKids) (all : PlainKids) → option_map (plain.Con top) found ≡ Some (plain.Con other all) → (top ≡ other) × (found ≡ Some all)
con_selected top other None all h = cc
con_selected top other (Some found) all h = (cc, cc)

-- as many children are selected as stand there
pub kid_count-selected : (decision : List Side) (kids : VKids) (all : PlainKids) → kids_selected decision kids ≡ Some all → kid_count all ≡ vkid_count kids
kid_count-selected decision Nil all h = let e : all ≡ kids.Nil = cc in rw e refl
kid_count-selected decision (vkids_of one others) all h =
    let parts = more_selected (selected decision one) (kids_selected decision others) all h in
    rw parts.4 (ap (λ n. 1 + n) (kid_count-selected decision others parts.1 parts.3))

vkid_at-selected : (decision : List Side) (kids : VKids) (all : PlainKids) (number : ℕ) (child : Plain) → kids_selected decision kids ≡ Some all → kid_at all number ≡ Some child → (found : VType) × (vkid_at kids number ≡ Some found) × (selected decision found ≡ Some child)
vkid_at-selected decision Nil all number child h k = let e : all ≡ kids.Nil = cc in let none : kid_at kids.Nil number ≡ Some child = rw e at k in cc
vkid_at-selected decision (vkids_of one others) all zero child h k =
    let parts = more_selected (selected decision one) (kids_selected decision others) all h in
    let e : parts.0 ≡ child = (let m : Some parts.0 ≡ Some child = rw parts.4 at k in cc) in
    (one, refl, parts.2 ∙ ap Some e)
vkid_at-selected decision (vkids_of one others) all (suc number) child h k =
    let parts = more_selected (selected decision one) (kids_selected decision others) all h in
    let m : kid_at parts.1 number ≡ Some child = rw parts.4 at k in
    vkid_at-selected decision others parts.1 number child parts.3 m

by_side-follows : (side : Option Side) (left right one two value outcome : Option Plain) → (left ≡ value → one ≡ outcome) → (right ≡ value → two ≡ outcome) → by_side side left right ≡ value → by_side side one two ≡ outcome
by_side-follows (Some Left) left right one two value outcome p q h = p h
by_side-follows (Some Right) left right one two value outcome p q h = q h
by_side-follows None left right one two value outcome p q h = p h

-- it selects the child
pub selected-kid : (decision : List Side) (number : ℕ) (type : VType) (top : Head) (all : PlainKids) (child : Plain) → selected decision type ≡ Some (plain.Con top all) → kid_at all number ≡ Some child → selected decision (kid number type) ≡ Some child
selected-kid decision number (Var name) top all child h k = cc
selected-kid decision number (Con other kids) top all child h k =
    let found = vkid_at-selected decision kids all number child (con_selected other top (kids_selected decision kids) all h).1 k in
    rw found.1 found.2
selected-kid decision number (choice dim left right) top all child h k =
    by_side-follows (slice_get decision dim) _ _ _ _ _ _ (λ e. selected-kid decision number left top all child e k) (λ e. selected-kid decision number right top all child e k) h
selected-kid decision number Err top all child h k = cc

by_side-fewer : (side : Option Side) (left right value : Option Plain) (one two other third : ℕ) → one ≤ other → two ≤ third → (left ≡ value → one < other) → (right ≡ value → two < third) → by_side side left right ≡ value → 1 + (one + two) < 1 + (other + third)
by_side-fewer (Some Left) left right value one two other third p q a b h = omega (arith, a h)
by_side-fewer (Some Right) left right value one two other third p q a b h = omega (arith, b h)
by_side-fewer None left right value one two other third p q a b h = omega (arith, a h)

-- it has fewer nodes where some decision selects such a child
pub fewer-kid : (decision : List Side) (number : ℕ) (type : VType) (top : Head) (all : PlainKids) (child : Plain) → selected decision type ≡ Some (plain.Con top all) → kid_at all number ≡ Some child → nodes (kid number type) < nodes type
fewer-kid decision number (Var name) top all child h k = cc
fewer-kid decision number (Con other kids) top all child h k =
    let found = vkid_at-selected decision kids all number child (con_selected other top (kids_selected decision kids) all h).1 k in
    rw found.1 (omega (arith, nodes-vkid_at kids number found.0 found.1))
fewer-kid decision number (choice dim left right) top all child h k =
    by_side-fewer (slice_get decision dim) _ _ _ _ _ _ _ (nodes-kid number left) (nodes-kid number right) (λ e. fewer-kid decision number left top all child e k) (λ e. fewer-kid decision number right top all child e k) h
fewer-kid decision number Err top all child h k = cc

-- a child by a number below the count
pub kid_at-below : (all : PlainKids) (number : ℕ) → number < kid_count all → (child : Plain) × (kid_at all number ≡ Some child)
kid_at-below kids.Nil number h = absurd (omega arith)
kid_at-below (kids_of one others) zero h = (one, refl)
kid_at-below (kids_of one others) (suc number) h = kid_at-below others number (omega arith)
