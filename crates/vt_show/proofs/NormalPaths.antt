use Rattle.std.proofs.Common.{◌≡◌, ◌⊎◌, ℕ, zero, suc, ◌+◌, ◌<◌, List, [], ◌∷◌, ◌++◌, length, slice_get, slice_set, Option, Some, None, refl, sym, ap, subst, ◌∙◌, arith, inl, inr, add-zero, zero-add}
use Rattle.std.specs.Map.{lookup}
use Rattle.std.specs.Str.{bytes_eq}
use Rattle.std.proofs.lemmas.Option.{none-some, same_Some, slice_get_within, slice_get_cases}
use Rattle.vt_dec.specs.declared.side.Side.{Side}
use Rattle.vt_dec.specs.declared.side.Side.TheVariants.{Left, Right}
use Rattle.vt_dec.proofs.Slices.{slice_get-set_same}
use Rattle.vt_type.specs.declared.head.Head.{Head}
use Rattle.vt_type.specs.declared.plain.Plain.{Plain}
use Rattle.vt_type.specs.declared.plain.Plain as plain
use Rattle.vt_type.specs.declared.plain.PlainKids.{PlainKids}
use Rattle.vt_type.specs.declared.plain.PlainKids as plain_kids
use Rattle.vt_type.specs.declared.vtype.VType.{VType, Var, Con, Err}
use Rattle.vt_type.specs.declared.vtype.VKids.{VKids, Nil}
use Rattle.vt_type.specs.Plain.{kids_of, kid_count, IsWellFormed, AreWellFormed}
use Rattle.vt_type.specs.Variational.{vkids_of, choice, vkid_count, by_side, IsWellFormedV, AreWellFormedV, most_dimensions}
use Rattle.vt_type.specs.Canonical.{occurrences, kids_occurrences}
use Rattle.vt_type.specs.NormalForm.{Map, Decisions, Taking, Wrong, root, kid_at, Kid, IsNormalForm, AreNormalForms}
use Rattle.vt_type.proofs.Firsts.{or_later, lookup-append}
use Rattle.vt_type.proofs.Roots.{Named-outcome, Made-outcome}
use Rattle.vt_show.specs.Reading.{appearances, kids_appearances}

-- Where the variables of a normal form stand at one decision.

-- the appearances that a decision takes
abbrev mutual
  pub appearances_at : List Side → List ℕ → VType → List (List ℕ × List ℕ)
  appearances_at decision at (Var name) = (name, at) ∷ []
  appearances_at decision at (Con top kids) = kids_appearances_at decision at 0 kids
  appearances_at decision at (choice dim left right) = by_side (slice_get decision dim) (appearances_at decision at left) (appearances_at decision at right)
  appearances_at decision at Err = []

  pub kids_appearances_at : List Side → List ℕ → ℕ → VKids → List (List ℕ × List ℕ)
  kids_appearances_at decision at n Nil = []
  kids_appearances_at decision at n (vkids_of kid kids) = appearances_at decision (at ++ n ∷ []) kid ++ kids_appearances_at decision at (n + 1) kids

-- each decision has one outcome
abbrev pub IsFunction : Map → Type 0
IsFunction map = (decision : List Side) (one other : Option Plain) → map decision one → map decision other → one ≡ other

-- each decision has a side for each dimension
abbrev pub AreLong : Decisions → Type 0
AreLong set = (decision : List Side) → set decision → length decision ≡ most_dimensions

-- a child of a function is one
Kid-function : (map : Map) (n : ℕ) → IsFunction map → IsFunction (Kid map n)
Kid-function map n one_each decision one other (top, kids, kid, m, e, is) (top', kids', kid', m', e', is') =
    let same = same_Some _ _ (one_each decision (Some (plain.Con top kids)) (Some (plain.Con top' kids')) m m') in
    let same_kids : kids ≡ kids' = cc in
    is ∙ sym e ∙ ap (λ ks. kid_at ks n) same_kids ∙ e' ∙ sym is'

-- a plain type is not the error
not_wrong : (outcome : Plain) → root (Some outcome) ≡ Wrong → ⊥
not_wrong (plain.Var name) h = cc
not_wrong (plain.Con top kids) h = cc

-- a side that a long decision takes
side_of : (decision : List Side) (dim : ℕ) → length decision ≡ most_dimensions → dim < most_dimensions → (side : Side) × (slice_get decision dim ≡ Some side)
side_of decision dim long small = elim (slice_get_cases decision dim).1 [
  | inl h ↦ (h.0, h.2)
  | inr h ↦ absurd (omega (arith, h.0, long, small))
]

Taking-long : (set : Decisions) (dim : ℕ) (side : Side) → AreLong set → AreLong (Taking set dim side)
Taking-long set dim side long decision h = long decision h.0

-- what a decision takes of a choice
choice_appearances : (decision : List Side) (at : List ℕ) (dim : ℕ) (left right : VType) (side : Side) → slice_get decision dim ≡ Some side
    → appearances_at decision at (choice dim left right) ≡ by_side (Some side) (appearances_at decision at left) (appearances_at decision at right)
choice_appearances decision at dim left right side taken =
    ap (λ s. by_side s (appearances_at decision at left) (appearances_at decision at right)) taken

one_side : (decision : List Side) (at : List ℕ) (dim : ℕ) (left right : VType) (all : List (List ℕ × List ℕ)) (side : Side) → slice_get decision dim ≡ Some side
    → (slice_get decision dim ≡ Some Left → appearances_at decision at left ≡ all) → (slice_get decision dim ≡ Some Right → appearances_at decision at right ≡ all)
    → appearances_at decision at (choice dim left right) ≡ all
one_side decision at dim left right all Left taken f g = choice_appearances decision at dim left right Left taken ∙ f taken
one_side decision at dim left right all Right taken f g = choice_appearances decision at dim left right Right taken ∙ g taken

-- At a decision with a plain outcome, the variables of the normal form stand where those of the outcome do.
mutual
  pub appearances_of_outcome : (type : VType) (at : List ℕ) (map : Map) (set : Decisions) → IsFunction map → AreLong set → IsNormalForm type map set
      → (decision : List Side) → set decision → (outcome : Plain) → map decision (Some outcome) → appearances_at decision at type ≡ occurrences at outcome
  appearances_of_outcome (Var name) at map set one_each long h decision s outcome m =
      let here = h decision s in
      let same = same_Some _ _ (one_each decision (Some outcome) here.0 m here.1 ∙ Named-outcome here.0 name here.2) in
      sym (ap (occurrences at) same)
  appearances_of_outcome (Con top kids) at map set one_each long h decision s outcome m =
      let here = h.0 decision s in
      let made = Made-outcome here.0 top (vkid_count kids) here.2 in
      let same = same_Some _ _ (one_each decision (Some outcome) here.0 m here.1 ∙ made.1) in
      let kids_here = appearances_of_kids kids at 0 map set one_each long h.1 decision s top made.0 (subst (λ t. map decision (Some t)) same m) made.0 (λ k. ap (kid_at made.0) (zero-add k)) made.2 in
      kids_here ∙ sym (ap (occurrences at) same)
  appearances_of_outcome (choice dim left right) at map set one_each long h decision s outcome m =
      let depends = h.0.0 in
      let within = slice_get_within depends.0 dim Left depends.1 in
      let taken = side_of decision dim (long decision s) (omega (arith, within, long depends.0 depends.2)) in
      one_side decision at dim left right (occurrences at outcome) taken.0 taken.1
      (λ e. appearances_of_outcome left at map (Taking set dim Left) one_each (Taking-long set dim Left long) h.1 decision (s, e) outcome m)
      (λ e. appearances_of_outcome right at map (Taking set dim Right) one_each (Taking-long set dim Right long) h.2 decision (s, e) outcome m)
  appearances_of_outcome Err at map set one_each long h decision s outcome m =
      let here = h decision s in
      let wrong = ap root (one_each decision (Some outcome) here.0 m here.1) ∙ here.2 in
      absurd (not_wrong outcome wrong)

  appearances_of_kids : (kids : VKids) (at : List ℕ) (n : ℕ) (map : Map) (set : Decisions) → IsFunction map → AreLong set → AreNormalForms kids n map set
      → (decision : List Side) → set decision → (top : Head) (whole : PlainKids) → map decision (Some (plain.Con top whole))
      → (rest : PlainKids) → ((k : ℕ) → kid_at whole (n + k) ≡ kid_at rest k) → kid_count rest ≡ vkid_count kids
      → kids_appearances_at decision at n kids ≡ kids_occurrences at n rest
  appearances_of_kids Nil at n map set one_each long h decision s top whole m plain_kids.Nil same count = refl
  appearances_of_kids Nil at n map set one_each long h decision s top whole m (kids_of kid rest) same count = absurd (omega (arith, count))
  appearances_of_kids (vkids_of kid kids) at n map set one_each long h decision s top whole m plain_kids.Nil same count = absurd (omega (arith, count))
  appearances_of_kids (vkids_of kid kids) at n map set one_each long h decision s top whole m (kids_of first rest) same count =
      let own : kid_at whole n ≡ Some first = ap (kid_at whole) (sym (add-zero n)) ∙ same 0 in
      let here = appearances_of_outcome kid (at ++ n ∷ []) (Kid map n) set (Kid-function map n one_each) long h.0 decision s first (top, whole, first, m, own, refl) in
      let later : (k : ℕ) → kid_at whole ((n + 1) + k) ≡ kid_at rest k = λ k. (let order : (n + 1) + k ≡ n + suc k = omega arith in ap (kid_at whole) order ∙ same (suc k)) in
      let there = appearances_of_kids kids at (n + 1) map set one_each long h.1 decision s top whole m rest later (omega (arith, count)) in
      λ j. here j ++ there j

-- A name that stands nowhere is found at no decision.
module _ (name : List ℕ) where
  abbrev found : List (List ℕ × List ℕ) → Option (List ℕ)
  found all = lookup (bytes_eq name) all

  nowhere_parts : (one other : Option (List ℕ)) → or_later one other ≡ None → (one ≡ None) × (other ≡ None)
  nowhere_parts None other h = (refl, h)
  nowhere_parts (Some path) other h = cc

  by_side-none : (side : Option Side) (left right : List (List ℕ × List ℕ)) → found left ≡ None → found right ≡ None → found (by_side side left right) ≡ None
  by_side-none (Some Left) left right h k = h
  by_side-none (Some Right) left right h k = k
  by_side-none None left right h k = h

  mutual
    found_nowhere : (type : VType) (decision : List Side) (at : List ℕ) → found (appearances at type) ≡ None → found (appearances_at decision at type) ≡ None
    found_nowhere (Var own) decision at h = h
    found_nowhere (Con top kids) decision at h = kid_found_nowhere kids decision at 0 h
    found_nowhere (choice dim left right) decision at h =
        let parts = nowhere_parts (found (appearances at left)) (found (appearances at right)) (sym (lookup-append (bytes_eq name) (appearances at left) (appearances at right)) ∙ h) in
        by_side-none (slice_get decision dim) (appearances_at decision at left) (appearances_at decision at right) (found_nowhere left decision at parts.0) (found_nowhere right decision at parts.1)
    found_nowhere Err decision at h = refl

    kid_found_nowhere : (kids : VKids) (decision : List Side) (at : List ℕ) (n : ℕ) → found (kids_appearances at n kids) ≡ None → found (kids_appearances_at decision at n kids) ≡ None
    kid_found_nowhere Nil decision at n h = refl
    kid_found_nowhere (vkids_of kid kids) decision at n h =
        let here = appearances (at ++ n ∷ []) kid in
        let there = kids_appearances at (n + 1) kids in
        let parts = nowhere_parts (found here) (found there) (sym (lookup-append (bytes_eq name) here there) ∙ h) in
        lookup-append (bytes_eq name) (appearances_at decision (at ++ n ∷ []) kid) (kids_appearances_at decision at (n + 1) kids)
        ∙ (λ j. or_later (found_nowhere kid decision (at ++ n ∷ []) parts.0 j) (kid_found_nowhere kids decision at (n + 1) parts.1 j))

  -- the first of two, or else the second
  either_part : (one other : Option (List ℕ)) (path : List ℕ) → or_later one other ≡ Some path → (one ≡ Some path) ⊎ ((one ≡ None) × (other ≡ Some path))
  either_part (Some own) other path h = inl h
  either_part None other path h = inr (refl, h)

  -- at this decision, which has a plain outcome, the name is found at this appearance
  abbrev IsFoundAt : Map → Decisions → (List Side → List (List ℕ × List ℕ)) → List ℕ → Type 0
  IsFoundAt map set all path =
      (decision : List Side) × set decision × (outcome : Plain) × map decision (Some outcome) × (found (all decision) ≡ Some path)

  -- Where a name stands first in a normal form, it stands first at some decision.
  mutual
    pub first_at_decision : (type : VType) (at : List ℕ) (map : Map) (set : Decisions) → AreLong set → IsNormalForm type map set → ((decision : List Side) × set decision)
        → (path : List ℕ) → found (appearances at type) ≡ Some path → IsFoundAt map set (λ decision. appearances_at decision at type) path
    first_at_decision (Var own) at map set long h some path e =
        let here = h some.0 some.1 in
        (some.0, some.1, plain.Var own, subst (map some.0) (Named-outcome here.0 own here.2) here.1, e)
    first_at_decision (Con top kids) at map set long h some path e = first_kid_at_decision kids at 0 map set long h.1 some path e
    first_at_decision (choice dim left right) at map set long h some path e =
        let depends = h.0.0 in
        let within = slice_get_within depends.0 dim Left depends.1 in
        let flipped = slice_set depends.0 dim Right in
        elim (either_part (found (appearances at left)) (found (appearances at right)) path (sym (lookup-append (bytes_eq name) (appearances at left) (appearances at right)) ∙ e)) [
          | inl f ↦
              (let read = first_at_decision left at map (Taking set dim Left) (Taking-long set dim Left long) h.1 (depends.0, (depends.2, depends.1)) path f in
              (read.0, read.1.0, read.2, read.3, ap found (choice_appearances read.0 at dim left right Left read.1.1) ∙ read.4))
          | inr f ↦
              (let read = first_at_decision right at map (Taking set dim Right) (Taking-long set dim Right long) h.2 (flipped, (depends.3, slice_get-set_same depends.0 dim Right (slice_get_within depends.0 dim Left depends.1))) path f.1 in
              (read.0, read.1.0, read.2, read.3, ap found (choice_appearances read.0 at dim left right Right read.1.1) ∙ read.4))
        ]
    first_at_decision Err at map set long h some path e = absurd (none-some path e)

    first_kid_at_decision : (kids : VKids) (at : List ℕ) (n : ℕ) (map : Map) (set : Decisions) → AreLong set → AreNormalForms kids n map set → ((decision : List Side) × set decision)
        → (path : List ℕ) → found (kids_appearances at n kids) ≡ Some path → IsFoundAt map set (λ decision. kids_appearances_at decision at n kids) path
    first_kid_at_decision Nil at n map set long h some path e = absurd (none-some path e)
    first_kid_at_decision (vkids_of kid kids) at n map set long h some path e =
        let here = appearances (at ++ n ∷ []) kid in
        let there = kids_appearances at (n + 1) kids in
        elim (either_part (found here) (found there) path (sym (lookup-append (bytes_eq name) here there) ∙ e)) [
          | inl f ↦
              (let read = first_at_decision kid (at ++ n ∷ []) (Kid map n) set long h.0 some path f in
              let first = appearances_at read.0 (at ++ n ∷ []) kid in
              let rest = kids_appearances_at read.0 at (n + 1) kids in
              (read.0, read.1, plain.Con read.3.0 read.3.1, read.3.3, lookup-append (bytes_eq name) first rest ∙ ap (λ o. or_later o (found rest)) read.4))
          | inr f ↦
              (let read = first_kid_at_decision kids at (n + 1) map set long h.1 some path f.1 in
              let first = appearances_at read.0 (at ++ n ∷ []) kid in
              let rest = kids_appearances_at read.0 at (n + 1) kids in
              (read.0, read.1, read.2, read.3, lookup-append (bytes_eq name) first rest ∙ ap (λ o. or_later o (found rest)) (found_nowhere kid read.0 (at ++ n ∷ []) f.0) ∙ read.4))
        ]

-- a child of well-formed children
kid_well_formed : (kids : PlainKids) (n : ℕ) (kid : Plain) → AreWellFormed kids → kid_at kids n ≡ Some kid → IsWellFormed kid
kid_well_formed plain_kids.Nil n kid h e = absurd (none-some kid e)
kid_well_formed (kids_of first others) zero kid h e = subst IsWellFormed (same_Some _ _ e) h.0
kid_well_formed (kids_of first others) (suc n) kid h e = kid_well_formed others n kid h.1 e

-- each plain outcome is well formed
abbrev pub AreOutcomesWellFormed : Map → Decisions → Type 0
AreOutcomesWellFormed map set = (decision : List Side) → set decision → (outcome : Plain) → map decision (Some outcome) → IsWellFormed outcome

Kid-well_formed : (map : Map) (set : Decisions) (n : ℕ) → AreOutcomesWellFormed map set → AreOutcomesWellFormed (Kid map n) set
Kid-well_formed map set n well decision s outcome (top, kids, kid, m, e, is) =
    subst IsWellFormed (sym (same_Some _ _ is)) (kid_well_formed kids n kid (well decision s (plain.Con top kids) m).1 e)

-- The normal form of well-formed outcomes is well formed.
mutual
  pub normal-well_formed : (type : VType) (map : Map) (set : Decisions) → AreLong set → AreOutcomesWellFormed map set → ((decision : List Side) × set decision) → IsNormalForm type map set → IsWellFormedV type
  normal-well_formed (Var name) map set long well some h = tt
  normal-well_formed (Con top kids) map set long well some h =
      let here = h.0 some.0 some.1 in
      let made = Made-outcome here.0 top (vkid_count kids) here.2 in
      let outcome = well some.0 some.1 (plain.Con top made.0) (subst (map some.0) made.1 here.1) in
      (sym made.2 ∙ outcome.0, kids_normal-well_formed kids 0 map set long well some h.1)
  normal-well_formed (choice dim left right) map set long well some h =
      let depends = h.0.0 in
      let within = slice_get_within depends.0 dim Left depends.1 in (
        omega (arith, within, long depends.0 depends.2),
        normal-well_formed left map (Taking set dim Left) (Taking-long set dim Left long) (λ decision s. well decision s.0) (depends.0, (depends.2, depends.1)) h.1,
        normal-well_formed right map (Taking set dim Right) (Taking-long set dim Right long) (λ decision s. well decision s.0)
            (slice_set depends.0 dim Right, (depends.3, slice_get-set_same depends.0 dim Right (slice_get_within depends.0 dim Left depends.1))) h.2,
      )
  normal-well_formed Err map set long well some h = tt

  kids_normal-well_formed : (kids : VKids) (n : ℕ) (map : Map) (set : Decisions) → AreLong set → AreOutcomesWellFormed map set → ((decision : List Side) × set decision) → AreNormalForms kids n map set → AreWellFormedV kids
  kids_normal-well_formed Nil n map set long well some h = tt
  kids_normal-well_formed (vkids_of kid kids) n map set long well some h =
      (normal-well_formed kid (Kid map n) set long (Kid-well_formed map set n well) some h.0, kids_normal-well_formed kids (n + 1) map set long well some h.1)
