use Rattle.std.proofs.Common.{◌≡◌, ℕ, zero, suc, ◌+◌, ◌<◌, ◌≤◌, Bool, replicate, Option, Some, None, refl, sym, ap, ◌∙◌, arith}
use Rattle.std.specs.Option.{unwrap_or}
use Rattle.std.proofs.lemmas.List.{length-replicate, length-set}
use Rattle.vt_dec.specs.declared.side.Side.{Side}
use Rattle.vt_dec.specs.declared.side.Side.TheVariants.{Left, Right}
use Rattle.vt_type.specs.declared.head.Head.{Head}
use Rattle.vt_type.specs.declared.vtype.VType.{VType, Var, Con, Err}
use Rattle.vt_type.specs.declared.vtype.VKids.{VKids, Nil}
use Rattle.vt_type.specs.Plain.{arity}
use Rattle.vt_type.specs.NormalForm.{Decisions, Taking, Total, map_of, Kid, AllHaveRoot, IsNormalForm, AreNormalForms, IsNormalFormOf}
use Rattle.vt_type.specs.Variational.{vkids_of, choice, vkid_count, IsWellFormedV, AreWellFormedV, nodes}
use Rattle.vt_norm.specs.declared.root.Top.{Top}
use Rattle.vt_norm.specs.declared.root.Top.TheVariants.{Made, Named, Wrong}
use Rattle.vt_norm.specs.Parts.{restricted, kid}
use Rattle.vt_norm.specs.Diagrams.{shown, least, first, diagram, IsCarefulOf}
use Rattle.vt_norm.specs.Normalizing.{Normalizes, KidsNormalize}
use Rattle.vt_norm.proofs.Congruence.{for_same_outcomes}
use Rattle.vt_norm.proofs.Restricting.{selected-restricted, well_formed-restricted, error-restricted}
use Rattle.vt_norm.proofs.Kids.{well_formed-kid, occurs-kid, error-kid}
use Rattle.vt_norm.proofs.Sets.{IsFreeIn, free_taking, occurs-small}
use Rattle.vt_norm.proofs.Steps.{root-constant, least-occurs, least-fewer, made-constant, child-fewer, child-map, least-dimension}

-- What comes by the steps of the normal form is the normal form, and something always comes.

all-root : (careful : Bool) (type : VType) (set : Decisions) (top : Top) → IsWellFormedV type → IsCarefulOf careful type → (least (diagram careful type) ≡ None) × (first (diagram careful type) ≡ top) → AllHaveRoot (map_of type) set (shown top)
all-root careful type set top w c h decision inside = (_, refl, root-constant careful type top decision w c h.0 h.1)

free_kid : (set : Decisions) (type : VType) (number : ℕ) → IsFreeIn set type → IsFreeIn set (kid number type)
free_kid set type number free =
    record {
      decision = free.decision;
      inside = free.inside;
      long = free.long;
      closed = λ decision dim side inside o. free.closed decision dim side inside (occurs-kid dim number type o);
    }

side-form : (careful : Bool) (one type : VType) (set : Decisions) (dim : ℕ) (side : Side) → IsNormalForm one (map_of (restricted dim side type)) (Taking set dim side) → IsNormalForm one (map_of type) (Taking set dim side)
side-form careful one type set dim side h =
    for_same_outcomes one (map_of (restricted dim side type)) (map_of type) (Taking set dim side)
    (λ decision outcome inside. let same = selected-restricted decision dim side type (ap (λ s. unwrap_or s Left) inside.1) in (λ e. sym same ∙ e, λ e. same ∙ e)) h

mutual
  -- the normal form over each set in which the dimensions of the type are free
  pub normalizes-form : (one : VType) (careful : Bool) (type : VType) (set : Decisions) → IsWellFormedV type → IsCarefulOf careful type → IsFreeIn set type → Normalizes careful one type → IsNormalForm one (map_of type) set
  normalizes-form (Var name) careful type set w c free h = all-root careful type set (Named name) w c h
  normalizes-form (Con top kids) careful type set w c free h =
      (rw h.2 (all-root careful type set (Made top) w c (h.0, h.1)), normalize-forms kids 0 careful type set top w c free h.0 h.1 (omega (arith, h.2)) h.3)
  normalizes-form (choice dim left right) careful type set w c free h =
      let occurs = least-occurs careful type dim h.0 in (
        least-dimension careful type set dim w c free h.0,
        side-form careful left type set dim Left
            (normalizes-form left careful (restricted dim Left type) (Taking set dim Left) (well_formed-restricted dim Left type w) (λ e. c (error-restricted dim Left type e)) (free_taking set type dim Left free w occurs) h.1),
        side-form careful right type set dim Right
            (normalizes-form right careful (restricted dim Right type) (Taking set dim Right) (well_formed-restricted dim Right type w) (λ e. c (error-restricted dim Right type e)) (free_taking set type dim Right free w occurs) h.2),
      )
  normalizes-form Err careful type set w c free h = all-root careful type set Wrong w c h

  normalize-forms : (kids : VKids) (number : ℕ) (careful : Bool) (type : VType) (set : Decisions) (top : Head) → IsWellFormedV type → IsCarefulOf careful type → IsFreeIn set type → least (diagram careful type) ≡ None → first (diagram careful type) ≡ Made top → number + vkid_count kids ≤ arity top → KidsNormalize careful kids number type → AreNormalForms kids number (map_of type) set
  normalize-forms Nil number careful type set top w c free none is below h = tt
  normalize-forms (vkids_of one others) number careful type set top w c free none is below h = (
    for_same_outcomes one (map_of (kid number type)) (Kid (map_of type) number) set
        (λ decision outcome inside. child-map type top number decision outcome (omega arith) (made-constant careful type top decision w c none is))
        (normalizes-form one careful (kid number type) set (well_formed-kid number type w) (λ e. c (error-kid number type e)) (free_kid set type number free) h.0),
    normalize-forms others (number + 1) careful type set top w c free none is (omega arith) h.1,
  )

-- over all decisions every dimension is free
free-total : (type : VType) → IsWellFormedV type → IsFreeIn Total type
free-total type w =
    record {
      decision = replicate 64 Left;
      inside = length-replicate 64 Left;
      long = λ decision h. h;
      closed = λ decision dim side h o. length-set decision dim side ∙ h;
    }

-- the normal form of a type
pub normalizes-type : (one : VType) (careful : Bool) (type : VType) → IsWellFormedV type → IsCarefulOf careful type → Normalizes careful one type → IsNormalFormOf one (map_of type)
normalizes-type one careful type w c h = normalizes-form one careful type Total w c (free-total type w) h

mutual
  -- it is well formed
  pub normalizes-well_formed : (one : VType) (careful : Bool) (type : VType) → IsWellFormedV type → Normalizes careful one type → IsWellFormedV one
  normalizes-well_formed (Var name) careful type w h = tt
  normalizes-well_formed (Con top kids) careful type w h = (h.2, normalize-well_formed kids 0 careful type w h.3)
  normalizes-well_formed (choice dim left right) careful type w h =
      (occurs-small dim type w (least-occurs careful type dim h.0), normalizes-well_formed left careful (restricted dim Left type) (well_formed-restricted dim Left type w) h.1, normalizes-well_formed right careful (restricted dim Right type) (well_formed-restricted dim Right type w) h.2)
  normalizes-well_formed Err careful type w h = tt

  normalize-well_formed : (kids : VKids) (number : ℕ) (careful : Bool) (type : VType) → IsWellFormedV type → KidsNormalize careful kids number type → AreWellFormedV kids
  normalize-well_formed Nil number careful type w h = tt
  normalize-well_formed (vkids_of one others) number careful type w h =
      (normalizes-well_formed one careful (kid number type) (well_formed-kid number type w) h.0, normalize-well_formed others (number + 1) careful type w h.1)

-- ---- something always comes

abbrev pub Normalized : Bool → VType → Type 0
Normalized careful type = (one : VType) × Normalizes careful one type

pub kids-come : (careful : Bool) (type : VType) (bound count number : ℕ) → number + count ≤ bound → ((n : ℕ) → n < bound → Normalized careful (kid n type)) → (kids : VKids) × (vkid_count kids ≡ count) × KidsNormalize careful kids number type
kids-come careful type bound zero number below each = (Nil, refl, tt)
kids-come careful type bound (suc count) number below each =
    let one = each number (omega arith) in
    let others = kids-come careful type bound count (number + 1) (omega arith) each in
    (vkids_of one.0 others.0, omega (arith, others.1), (one.1, others.2))

root-comes : (careful : Bool) (type : VType) (top : Top) → least (diagram careful type) ≡ None → first (diagram careful type) ≡ top → ((head : Head) → top ≡ Made head → (n : ℕ) → n < arity head → Normalized careful (kid n type)) → Normalized careful type
root-comes careful type (Made head) none is each =
    let kids = kids-come careful type (arity head) (arity head) 0 (omega arith) (each head refl) in
    (Con head kids.0, (none, is, kids.1, kids.2))
root-comes careful type (Named name) none is each = (Var name, (none, is))
root-comes careful type Wrong none is each = (Err, (none, is))

step-comes : (careful : Bool) (type : VType) (found : Option ℕ) → least (diagram careful type) ≡ found → ((dim : ℕ) (side : Side) → found ≡ Some dim → Normalized careful (restricted dim side type)) → (found ≡ None → Normalized careful type) → Normalized careful type
step-comes careful type None is sides root = root refl
step-comes careful type (Some dim) is sides root =
    let left = sides dim Left refl in
    let right = sides dim Right refl in
    (choice dim left.0 right.0, (is, left.1, right.1))

comes-within : (fuel : ℕ) (careful : Bool) (type : VType) → nodes type < fuel → IsWellFormedV type → IsCarefulOf careful type → Normalized careful type
comes-within zero careful type below w c = absurd (omega arith)
comes-within (suc fuel) careful type below w c =
    step-comes careful type _ refl
    (λ dim side is. comes-within fuel careful (restricted dim side type) (omega (arith, least-fewer careful type dim side is)) (well_formed-restricted dim side type w) (λ e. c (error-restricted dim side type e)))
    (λ none. root-comes careful type _ none refl
    (λ head is n small. comes-within fuel careful (kid n type) (omega (arith, child-fewer careful type head n w c none is small)) (well_formed-kid n type w) (λ e. c (error-kid n type e))))

-- each well-formed type has what comes from it
pub comes : (careful : Bool) (type : VType) → IsWellFormedV type → IsCarefulOf careful type → Normalized careful type
comes careful type w c = comes-within (suc (nodes type)) careful type (omega arith) w c
