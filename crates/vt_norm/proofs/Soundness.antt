use Rattle.std.proofs.Common.{◌≡◌, ℕ, suc, ◌+◌, ◌<◌, List, length, get_or, Option, Some, slice_get, refl, ap, sym, subst, arith}
use Rattle.std.proofs.lemmas.Option.{slice_get_within, slice_get-get_or}
use Rattle.vt_dec.specs.declared.side.Side.{Side}
use Rattle.vt_dec.specs.declared.side.Side.TheVariants.{Left, Right}
use Rattle.vt_type.specs.declared.head.Head.{Head}
use Rattle.vt_type.specs.declared.plain.Plain as plain
use Rattle.vt_type.specs.declared.plain.PlainKids.{PlainKids}
use Rattle.vt_type.specs.declared.plain.PlainKids as plain_kids
use Rattle.vt_type.specs.declared.vtype.VType.{VType, Var, Con, Err}
use Rattle.vt_type.specs.declared.vtype.VKids.{VKids, Nil}
use Rattle.vt_type.specs.Plain.{kids_of, kid_count}
use Rattle.vt_type.specs.Variational.{vkids_of, choice, vkid_count, by_side, selected, kids_selected}
use Rattle.vt_type.specs.NormalForm.{Map, Decisions, Taking, DependsOn, Kid, kid_at, IsNormalForm, AreNormalForms}
use Rattle.vt_type.proofs.Roots.{Named-outcome, Made-outcome, Wrong-outcome}
use Rattle.vt_norm.specs.Laws.{IsSingleValued, AreTotal, IsSound}
use Rattle.vt_norm.proofs.Roots.{kid_is_single}

-- What a normal form selects is the map's outcome.

-- a dimension on which a root depends is decided by each decision of the set
side_there : (map : Map) (set : Decisions) → AreTotal set → (dim : ℕ) → DependsOn map set dim → (decision : List Side) → set decision → slice_get decision dim ≡ Some (get_or decision dim Left)
side_there map set total dim d decision inside =
    let below : dim < length d.0 = slice_get_within _ _ _ d.1 in
    let here : dim < length decision = omega (arith, total _ d.2, total decision inside) in
    slice_get-get_or decision dim Left here

-- a choice selects an outcome where the alternative that is taken does
choice_selects : (map : Map) (decision : List Side) (dim : ℕ) (left right : VType) (side : Side) → slice_get decision dim ≡ Some side → (slice_get decision dim ≡ Some Left → map decision (selected decision left)) → (slice_get decision dim ≡ Some Right → map decision (selected decision right)) → map decision (selected decision (choice dim left right))
choice_selects map decision dim left right Left taken one other =
    subst (λ s. map decision (by_side s (selected decision left) (selected decision right))) (sym taken) (one taken)
choice_selects map decision dim left right Right taken one other =
    subst (λ s. map decision (by_side s (selected decision left) (selected decision right))) (sym taken) (other taken)

-- a child that the map gives at its number
kid_there : (map : Map) → IsSingleValued map → (decision : List Side) (top : Head) (all : PlainKids) → map decision (Some (plain.Con top all)) → (n : ℕ) (first : plain.Plain) (outcome : Option plain.Plain) → kid_at all n ≡ Some first → Kid map n decision outcome → outcome ≡ Some first
kid_there map single decision top all here n first outcome at h =
    let same = single decision _ _ h.3 here in
    cc (same, h.4, h.5, at)

mutual
  selects_outcome : (type : VType) (map : Map) (set : Decisions) → IsSingleValued map → AreTotal set → IsNormalForm type map set → (decision : List Side) → set decision → map decision (selected decision type)
  selects_outcome (Var name) map set single total h decision inside =
      let r = h decision inside in subst (map decision) (Named-outcome _ name r.2) r.1
  selects_outcome (Con top kids) map set single total h decision inside =
      let r = h.0 decision inside in
      let m = Made-outcome _ top _ r.2 in
      let here = subst (map decision) m.1 r.1 in
      let all = select_outcomes kids 0 map set single total h.1 decision inside top m.0 m.0 here (λ k j e. ap (kid_at m.0) (omega arith)) m.2 in
      rw all here
  selects_outcome (choice dim left right) map set single total h decision inside =
      choice_selects map decision dim left right (get_or decision dim Left) (side_there map set total dim h.0.0 decision inside)
      (λ taken. selects_outcome left map (Taking set dim Left) single (λ d t. total d t.0) h.1 decision (inside, taken))
      (λ taken. selects_outcome right map (Taking set dim Right) single (λ d t. total d t.0) h.2 decision (inside, taken))
  selects_outcome Err map set single total h decision inside =
      let r = h decision inside in subst (map decision) (Wrong-outcome _ r.2) r.1

  -- the children from number n on are those of the outcome
  select_outcomes : (kids : VKids) (n : ℕ) (map : Map) (set : Decisions) → IsSingleValued map → AreTotal set → AreNormalForms kids n map set → (decision : List Side) → set decision → (top : Head) (all rest : PlainKids) → map decision (Some (plain.Con top all)) → ((k j : ℕ) → j ≡ n + k → kid_at all j ≡ kid_at rest k) → kid_count rest ≡ vkid_count kids → kids_selected decision kids ≡ Some rest
  select_outcomes Nil n map set single total h decision inside top all plain_kids.Nil here tail count = refl
  select_outcomes Nil n map set single total h decision inside top all (kids_of first rest) here tail count = absurd (omega arith)
  select_outcomes (vkids_of kid kids) n map set single total h decision inside top all plain_kids.Nil here tail count = absurd (omega arith)
  select_outcomes (vkids_of kid kids) n map set single total h decision inside top all (kids_of first rest) here tail count =
      let front = kid_there map single decision top all here n first _ (tail 0 n (omega arith)) (selects_outcome kid (Kid map n) set (kid_is_single map single n) total h.0 decision inside) in
      let back = select_outcomes kids (n + 1) map set single total h.1 decision inside top all rest here (λ k j e. tail (suc k) j (omega arith)) (omega arith) in
      rw (front, back) refl

pub sound : (map : Map) (set : Decisions) → IsSound map set
sound map set single total type h = selects_outcome type map set single total h
