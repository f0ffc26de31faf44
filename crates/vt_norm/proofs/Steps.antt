use Rattle.std.proofs.Common.{◌≡◌, ◌≢◌, ℕ, ◌<◌, ◌≤◌, ◌↔◌, inl, inr, Bool, List, [], length, Option, Some, None, slice_set, refl, sym, ap, ◌∙◌, arith}
use Rattle.std.specs.Option.{unwrap_or}
use Rattle.std.proofs.lemmas.Bool.{cases_eq}
use Rattle.std.proofs.lemmas.Option.{slice_get_within}
use Rattle.vt_dec.specs.declared.side.Side.{Side}
use Rattle.vt_dec.specs.declared.side.Side.TheVariants.{Left, Right}
use Rattle.vt_dec.proofs.Slices.{slice_get-set_same}
use Rattle.vt_type.specs.declared.head.Head.{Head}
use Rattle.vt_type.specs.declared.plain.Plain.{Plain}
use Rattle.vt_type.specs.declared.plain.Plain as plain
use Rattle.vt_type.specs.declared.plain.PlainKids.{PlainKids}
use Rattle.vt_type.specs.declared.vtype.VType.{VType}
use Rattle.vt_type.specs.Plain.{arity, kid_count}
use Rattle.vt_type.specs.NormalForm.{Decisions, root, map_of, Kid, DependsOn, IsLeastDimension}
use Rattle.vt_type.specs.Variational.{IsWellFormedV, nodes, selected}
use Rattle.vt_type.proofs.Roots.{Made-outcome}
use Rattle.vt_norm.specs.declared.root.Top.{Top}
use Rattle.vt_norm.specs.declared.root.Top.TheVariants.{Made, Named, Wrong}
use Rattle.vt_norm.specs.Parts.{Occurs, restricted, kid}
use Rattle.vt_norm.specs.Diagrams.{shown, at, Asks, least, first, diagram, IsCarefulOf}
use Rattle.vt_norm.proofs.Tops.{shown-one}
use Rattle.vt_norm.proofs.Taking.{with, with-here, with-there, at-agree}
use Rattle.vt_norm.proofs.Least.{Depends, least-none, least-some, least-least}
use Rattle.vt_norm.proofs.Restricting.{sides_of, fewer-restricted}
use Rattle.vt_norm.proofs.Kids.{selected-kid, fewer-kid, kid_at-below}
use Rattle.vt_norm.proofs.Diagrams.{once-diagram, asks-diagram, at-diagram}
use Rattle.vt_norm.proofs.Sets.{IsFreeIn, sides-set_here, sides-set_other, occurs-small, follow}

-- What the diagram of a type says about its root over a set of decisions.

-- where the diagram has no least dimension, its first leaf is the root at each decision
pub root-constant : (careful : Bool) (type : VType) (top : Top) (decision : List Side) → IsWellFormedV type → IsCarefulOf careful type → least (diagram careful type) ≡ None → first (diagram careful type) ≡ top → root (selected decision type) ≡ shown top
root-constant careful type top decision w c none e =
    sym (at-diagram decision careful type w c) ∙ ap shown (least-none (diagram careful type) (sides_of decision) none ∙ e)

-- a least dimension stands in the type
pub least-occurs : (careful : Bool) (type : VType) (dim : ℕ) → least (diagram careful type) ≡ Some dim → Occurs dim type
least-occurs careful type dim e = asks-diagram dim careful type (least-some (diagram careful type) dim (once-diagram careful type) e).0

-- there are fewer nodes on a side of it
pub least-fewer : (careful : Bool) (type : VType) (dim : ℕ) (side : Side) → least (diagram careful type) ≡ Some dim → nodes (restricted dim side type) < nodes type
least-fewer careful type dim side e = fewer-restricted dim side type (least-occurs careful type dim e)

-- what a type with a constant head selects
pub made-constant : (careful : Bool) (type : VType) (top : Head) (decision : List Side) → IsWellFormedV type → IsCarefulOf careful type → least (diagram careful type) ≡ None → first (diagram careful type) ≡ Made top → (all : PlainKids) × (selected decision type ≡ Some (plain.Con top all)) × (kid_count all ≡ arity top)
made-constant careful type top decision w c none e = Made-outcome _ top (arity top) (root-constant careful type (Made top) decision w c none e)

-- there are fewer nodes in a child
pub child-fewer : (careful : Bool) (type : VType) (top : Head) (number : ℕ) → IsWellFormedV type → IsCarefulOf careful type → least (diagram careful type) ≡ None → first (diagram careful type) ≡ Made top → number < arity top → nodes (kid number type) < nodes type
child-fewer careful type top number w c none e below =
    let all = made-constant careful type top [] w c none e in
    let child = kid_at-below all.0 number (omega (arith, all.2)) in
    fewer-kid [] number type top all.0 child.0 all.1 child.1

-- the map to a child of a type is the map of that child
pub child-map : (type : VType) (top : Head) (number : ℕ) (decision : List Side) (outcome : Option Plain) → number < arity top → (all : PlainKids) × (selected decision type ≡ Some (plain.Con top all)) × (kid_count all ≡ arity top) → map_of (kid number type) decision outcome ↔ Kid (map_of type) number decision outcome
child-map type top number decision outcome below (all, is, count) =
    let child = kid_at-below all number (omega (arith, count)) in (
      λ h. (top, all, child.0, is, child.1, sym h ∙ selected-kid decision number type top all child.0 is child.1),
      λ h. selected-kid decision number type h.0 h.1 h.2 h.3 h.4 ∙ sym h.5,
    )

-- decisions that follow the sides come to the leaf of these sides
comes-to : (careful : Bool) (type : VType) (sides : ℕ → Side) (dim : ℕ) (side : Side) (decision : List Side) → IsWellFormedV type → IsCarefulOf careful type → sides_of decision dim ≡ side → ((other : ℕ) → other ≢ dim → Asks other (diagram careful type) → sides_of decision other ≡ sides other) → root (selected decision type) ≡ shown (at (with sides dim side) (diagram careful type))
comes-to careful type sides dim side decision w c here others =
    sym (at-diagram decision careful type w c)
    ∙ ap shown (at-agree _ _ (diagram careful type) (λ asked a. elim (cases_eq asked dim) [
      | inl e ↦ rw (e, with-here sides dim side) here
      | inr ne ↦ others asked ne a ∙ sym (with-there sides dim side asked ne)
    ]))

-- over the set, the root depends on what the diagram depends on
depends : (careful : Bool) (type : VType) (set : Decisions) (dim : ℕ) → IsWellFormedV type → IsCarefulOf careful type → IsFreeIn set type → Depends dim (diagram careful type) → DependsOn (map_of type) set dim
depends careful type set dim w c free (asked, (sides, apart)) =
    let occurs = asks-diagram dim careful type asked in
    let found = follow set type sides (diagram careful type) free.decision free w (λ d a. asks-diagram d careful type a) free.inside in
    let one = slice_set found.0 dim Left in
    let inside : set one = free.closed found.0 dim Left found.1.0 occurs in
    let other = slice_set one dim Right in
    let small : dim < 64 = occurs-small dim type w occurs in
    let first_small : dim < length found.0 = omega (arith, free.long found.0 found.1.0) in
    let second_small : dim < length one = omega (arith, free.long one inside) in
    let left = comes-to careful type sides dim Left one w c (sides-set_here found.0 dim Left first_small) (λ d ne a. sides-set_other found.0 dim d Left ne ∙ found.1.1 d a) in
    let right = comes-to careful type sides dim Right other w c (sides-set_here one dim Right second_small) (λ d ne a. sides-set_other one dim d Right ne ∙ sides-set_other found.0 dim d Left ne ∙ found.1.1 d a) in
    (one, slice_get-set_same found.0 dim Left first_small, inside, free.closed one dim Right inside occurs, root (selected one type), root (selected other type), (selected one type, refl, refl), (selected other type, refl, refl), λ e. apart (shown-one _ _ (sym left ∙ e ∙ right)))

-- a dimension on which the root depends over the set is no less than the least
least-bound : (careful : Bool) (type : VType) (set : Decisions) (dim other : ℕ) → IsWellFormedV type → IsCarefulOf careful type → least (diagram careful type) ≡ Some dim → DependsOn (map_of type) set other → dim ≤ other
least-bound careful type set dim other w c e (decision, left, inside, also, one, two, first, second, apart) =
    let below : other < length decision = slice_get_within _ _ _ left in
    let changed = slice_set decision other Right in
    let differs : at (sides_of decision) (diagram careful type) ≢ at (sides_of changed) (diagram careful type) =
    λ same. apart
    (sym first.2 ∙ ap root (sym first.1) ∙ sym (at-diagram decision careful type w c) ∙ ap shown same ∙ at-diagram changed careful type w c ∙ ap root second.1 ∙ second.2) in
    let bound = least-least (diagram careful type) other (sides_of decision) (sides_of changed) (once-diagram careful type) (ap (λ s. unwrap_or s Left) left) (sides-set_here decision other Right below) (λ asked ne. sym (sides-set_other decision other asked Right ne)) differs in
    rw e at bound

-- the least dimension of the diagram is the least one on which the root depends over the set
pub least-dimension : (careful : Bool) (type : VType) (set : Decisions) (dim : ℕ) → IsWellFormedV type → IsCarefulOf careful type → IsFreeIn set type → least (diagram careful type) ≡ Some dim → IsLeastDimension (map_of type) set dim
least-dimension careful type set dim w c free e =
    (depends careful type set dim w c free (least-some (diagram careful type) dim (once-diagram careful type) e), λ other h. least-bound careful type set dim other w c e h)
