use Rattle.std.proofs.Common.{◌≡◌, ℕ, ◌+◌, ◌-◌, ◌<◌, ◌≤◌, Bool, Some, None, ◌∙◌, lit<, arith}
use Rattle.vt_dec.specs.declared.side.Side.{Side}
use Rattle.vt_dec.specs.declared.side.Side.TheVariants.{Left, Right}
use Rattle.vt_type.specs.declared.head.Head.{Head}
use Rattle.vt_type.specs.declared.vtype.VType.{VType, Var, Con, Err}
use Rattle.vt_type.specs.declared.vtype.VKids.{VKids}
use Rattle.vt_type.specs.Plain.{arity}
use Rattle.vt_type.specs.Variational.{vkids_of, choice, vkid_count, IsWellFormedV, nodes, vkids_nodes}
use Rattle.vt_norm.specs.declared.root.Top.TheVariants.{Made}
use Rattle.vt_norm.specs.Parts.{restricted, kid}
use Rattle.vt_norm.specs.Diagrams.{diagram, least, first, IsCarefulOf}
use Rattle.vt_norm.specs.Normalizing.{Normalizes, KidsNormalize, ComesBeyond, KidsComeBeyond}
use Rattle.vt_norm.proofs.Restricting.{well_formed-restricted, error-restricted}
use Rattle.vt_norm.proofs.Kids.{well_formed-kid, error-kid}
use Rattle.vt_norm.proofs.Steps.{least-fewer, child-fewer}
use Rattle.vt_norm.proofs.Normalized.{comes, kids-come}

-- What the recursion that builds the normal form does at each step.

pub nodes-positive : (type : VType) → 0 < nodes type
nodes-positive (Var name) = lit< tt
nodes-positive (Con top kids) = omega arith
nodes-positive (choice dim left right) = omega arith
nodes-positive Err = lit< tt

-- ---- what a call of the recursion may be given

-- a side of the least dimension
pub side_given : (careful : Bool) (type : VType) (dim : ℕ) (side : Side) (part : VType) → part ≡ restricted dim side type → IsWellFormedV type → IsCarefulOf careful type → least (diagram careful type) ≡ Some dim → (nodes part < nodes type) × IsWellFormedV part × IsCarefulOf careful part
side_given careful type dim side part e w c is =
    rw e (least-fewer careful type dim side is, well_formed-restricted dim side type w, λ h. c (error-restricted dim side type h))

-- one of the last children of a root
pub child_given : (careful : Bool) (type : VType) (top : Head) (count all : ℕ) → all ≡ arity top → (count ≡ 0 → ⊥) → count ≤ arity top → IsWellFormedV type → IsCarefulOf careful type → least (diagram careful type) ≡ None → first (diagram careful type) ≡ Made top → (nodes (kid (all - count) type) < nodes type) × IsWellFormedV (kid (all - count) type) × IsCarefulOf careful (kid (all - count) type)
child_given careful type top count all f some within w c none is =
    (child-fewer careful type top (all - count) w c none is (omega arith), well_formed-kid (all - count) type w, λ h. c (error-kid (all - count) type h))

-- ---- what is too big

-- nothing can be built with no room
pub beyond-none : (careful : Bool) (type : VType) (room : ℕ) → IsWellFormedV type → IsCarefulOf careful type → room ≡ 0 → ComesBeyond careful type room
beyond-none careful type room w c none = let one = comes careful type w c in (one.0, one.1, omega (arith, nodes-positive one.0))

-- the children of a root
pub beyond-kids : (careful : Bool) (type : VType) (top : Head) (count room less : ℕ) → least (diagram careful type) ≡ None → first (diagram careful type) ≡ Made top → count ≡ arity top → room ≤ less + 1 → KidsComeBeyond careful (arity top - count) count type less → ComesBeyond careful type room
beyond-kids careful type top count room less none is all below h =
    let start : arity top - count ≡ 0 = omega arith in
    let kids = rw start at h.1 in
    (Con top h.0, (none, is, h.2 ∙ all, kids), omega (arith, h.3))

-- the left side
pub beyond-left : (careful : Bool) (type : VType) (dim room : ℕ) (part : VType) → part ≡ restricted dim Left type → IsWellFormedV type → IsCarefulOf careful type → least (diagram careful type) ≡ Some dim → ComesBeyond careful part room → ComesBeyond careful type (room + 1)
beyond-left careful type dim room part e w c is h =
    let other = comes careful (restricted dim Right type) (well_formed-restricted dim Right type w) (λ k. c (error-restricted dim Right type k)) in
    (choice dim h.0 other.0, (is, rw e at h.1, other.1), omega (arith, h.2))

-- the right side, after the left one
pub beyond-right : (careful : Bool) (type : VType) (dim room less : ℕ) (one two left : VType) → one ≡ restricted dim Left type → two ≡ restricted dim Right type → least (diagram careful type) ≡ Some dim → Normalizes careful left one × (less + nodes left ≡ room) → ComesBeyond careful two less → ComesBeyond careful type (room + 1)
beyond-right careful type dim room less one two left e f is first h =
    let taken = first.1 in
    (choice dim left h.0, (is, rw e at first.0, rw f at h.1), omega (arith, h.2))

-- the first of the last children
pub beyond-first : (careful : Bool) (type : VType) (top : Head) (count all room : ℕ) → all ≡ arity top → (count ≡ 0 → ⊥) → count ≤ arity top → IsWellFormedV type → IsCarefulOf careful type → least (diagram careful type) ≡ None → first (diagram careful type) ≡ Made top → ComesBeyond careful (kid (all - count) type) room → KidsComeBeyond careful (arity top - count) count type room
beyond-first careful type top count all room f some within w c none is h =
    let others = kids-come careful type (arity top) (count - 1) ((all - count) + 1) (omega arith) (λ n below. comes careful (kid n type) (well_formed-kid n type w) (λ k. c (error-kid n type k))) in
    let here : all - count ≡ arity top - count = omega arith in
    (vkids_of h.0 others.0, rw (← here) (h.1, others.2), omega (arith, others.1), omega (arith, h.2))

-- the children after the first of the last ones
pub beyond-others : (careful : Bool) (type : VType) (top : Head) (count all room less : ℕ) (one : VType) → all ≡ arity top → (count ≡ 0 → ⊥) → count ≤ arity top → Normalizes careful one (kid (all - count) type) × (less + nodes one ≡ room) → KidsComeBeyond careful (arity top - (count - 1)) (count - 1) type less → KidsComeBeyond careful (arity top - count) count type room
beyond-others careful type top count all room less one f some within first h =
    let here : all - count ≡ arity top - count = omega arith in
    let next : arity top - (count - 1) ≡ (all - count) + 1 = omega arith in
    let taken = first.1 in
    let others = rw next at h.1 in
    (vkids_of one h.0, rw (← here) (first.0, others), omega (arith, h.2), omega (arith, h.3))

-- the last children are built
pub built-kids : (careful : Bool) (type : VType) (top : Head) (count all room less rest : ℕ) (one : VType) (others kids : VKids) → all ≡ arity top → (count ≡ 0 → ⊥) → count ≤ arity top → Normalizes careful one (kid (all - count) type) × (less + nodes one ≡ room) → KidsNormalize careful others (arity top - (count - 1)) type × (vkid_count others ≡ count - 1) × (rest + vkids_nodes others ≡ less) → kids ≡ vkids_of one others → KidsNormalize careful kids (arity top - count) type × (vkid_count kids ≡ count) × (rest + vkids_nodes kids ≡ room)
built-kids careful type top count all room less rest one others kids f some within first second is =
    let here : all - count ≡ arity top - count = omega arith in
    let next : arity top - (count - 1) ≡ (all - count) + 1 = omega arith in
    let taken = first.1 in
    let more = rw next at second.0 in
    rw is (rw (← here) (first.0, more), omega (arith, second.1), omega (arith, second.2))
