use Rattle.std.proofs.Common.{◌↔◌, ℕ, ◌+◌, List, Option}
use Rattle.vt_dec.specs.declared.side.Side.{Side}
use Rattle.vt_dec.specs.declared.side.Side.TheVariants.{Left, Right}
use Rattle.vt_type.specs.declared.plain.Plain.{Plain}
use Rattle.vt_type.specs.declared.vtype.VType.{VType, Var, Con, Err}
use Rattle.vt_type.specs.declared.vtype.VKids.{VKids, Nil}
use Rattle.vt_type.specs.Variational.{vkids_of, choice, vkid_count}
use Rattle.vt_type.specs.NormalForm.{Map, Decisions, Taking, Root, Named, Made, Wrong, HasRoot, AllHaveRoot, DependsOn, IsLeastDimension, Kid, IsNormalForm, AreNormalForms}

-- The normal form is one of what the map says at the decisions of the set, and of nothing else.

-- two sets have the same decisions, and at each of these two maps have the same outcomes
pub record IsSameOver (map : Map) (set : Decisions) (other : Map) (others : Decisions) : Type 0 where
  pub decisions : (decision : List Side) → set decision ↔ others decision
  pub outcomes : (decision : List Side) (outcome : Option Plain) → set decision → map decision outcome ↔ other decision outcome

pub swapped : (map : Map) (set : Decisions) (other : Map) (others : Decisions) → IsSameOver map set other others → IsSameOver other others map set
swapped map set other others same = record {
  decisions = λ decision. let d = same.decisions decision in (d.1, d.0);
  outcomes = λ decision outcome inside. let o = same.outcomes decision outcome ((same.decisions decision).1 inside) in (o.1, o.0);
}

pub taking_along : (map : Map) (set : Decisions) (other : Map) (others : Decisions) → IsSameOver map set other others → (dim : ℕ) (side : Side) → IsSameOver map (Taking set dim side) other (Taking others dim side)
taking_along map set other others same dim side = record {
  decisions = λ decision. let d = same.decisions decision in (λ h. (d.0 h.0, h.1), λ h. (d.1 h.0, h.1));
  outcomes = λ decision outcome inside. same.outcomes decision outcome inside.0;
}

pub kid_along : (map : Map) (set : Decisions) (other : Map) (others : Decisions) → IsSameOver map set other others → (n : ℕ) → IsSameOver (Kid map n) set (Kid other n) others
kid_along map set other others same n = record {
  decisions = same.decisions;
  outcomes = λ decision outcome inside.
      (λ h. (h.0, h.1, h.2, (same.outcomes decision _ inside).0 h.3, h.4, h.5), λ h. (h.0, h.1, h.2, (same.outcomes decision _ inside).1 h.3, h.4, h.5));
}

root_along : (map : Map) (set : Decisions) (other : Map) (others : Decisions) → IsSameOver map set other others → (decision : List Side) (r : Root) → set decision → HasRoot map decision r → HasRoot other decision r
root_along map set other others same decision r inside h = (h.0, (same.outcomes decision _ inside).0 h.1, h.2)

roots_along : (map : Map) (set : Decisions) (other : Map) (others : Decisions) → IsSameOver map set other others → (r : Root) → AllHaveRoot map set r → AllHaveRoot other others r
roots_along map set other others same r all decision inside =
    let within = (same.decisions decision).1 inside in
    root_along map set other others same decision r within (all decision within)

depends_along : (map : Map) (set : Decisions) (other : Map) (others : Decisions) → IsSameOver map set other others → (dim : ℕ) → DependsOn map set dim → DependsOn other others dim
depends_along map set other others same dim h =
    (h.0, h.1, (same.decisions _).0 h.2, (same.decisions _).0 h.3, h.4, h.5, root_along map set other others same _ _ h.2 h.6, root_along map set other others same _ _ h.3 h.7, h.8)

least_along : (map : Map) (set : Decisions) (other : Map) (others : Decisions) → IsSameOver map set other others → (dim : ℕ) → IsLeastDimension map set dim → IsLeastDimension other others dim
least_along map set other others same dim h =
    (depends_along map set other others same dim h.0, λ lower depends. h.1 lower (depends_along other others map set (swapped map set other others same) lower depends))

mutual
  -- a normal form of one map over one set is one of the other over the other
  pub normal_form_along : (type : VType) (map : Map) (set : Decisions) (other : Map) (others : Decisions) → IsSameOver map set other others → IsNormalForm type map set → IsNormalForm type other others
  normal_form_along (Var name) map set other others same h = roots_along map set other others same (Named name) h
  normal_form_along (Con top kids) map set other others same h =
      (roots_along map set other others same (Made top (vkid_count kids)) h.0, normal_forms_along kids 0 map set other others same h.1)
  normal_form_along (choice dim left right) map set other others same h =
      (least_along map set other others same dim h.0, normal_form_along left map (Taking set dim Left) other (Taking others dim Left) (taking_along map set other others same dim Left) h.1, normal_form_along right map (Taking set dim Right) other (Taking others dim Right) (taking_along map set other others same dim Right) h.2)
  normal_form_along Err map set other others same h = roots_along map set other others same Wrong h

  normal_forms_along : (kids : VKids) (n : ℕ) (map : Map) (set : Decisions) (other : Map) (others : Decisions) → IsSameOver map set other others → AreNormalForms kids n map set → AreNormalForms kids n other others
  normal_forms_along Nil n map set other others same h = tt
  normal_forms_along (vkids_of kid kids) n map set other others same h =
      (normal_form_along kid (Kid map n) set (Kid other n) others (kid_along map set other others same n) h.0, normal_forms_along kids (n + 1) map set other others same h.1)

-- maps with the same outcomes over a set have the same normal forms over it
pub for_same_outcomes : (type : VType) (map other : Map) (set : Decisions) → ((decision : List Side) (outcome : Option Plain) → set decision → map decision outcome ↔ other decision outcome) → IsNormalForm type map set → IsNormalForm type other set
for_same_outcomes type map other set same h =
    normal_form_along type map set other set (record { decisions = λ decision. (λ d. d, λ d. d); outcomes = same }) h

-- a map has the same normal forms over sets with the same decisions
pub for_same_decisions : (type : VType) (map : Map) (set others : Decisions) → ((decision : List Side) → set decision ↔ others decision) → IsNormalForm type map set → IsNormalForm type map others
for_same_decisions type map set others same h =
    normal_form_along type map set map others (record { decisions = same; outcomes = λ decision outcome inside. (λ o. o, λ o. o) }) h
