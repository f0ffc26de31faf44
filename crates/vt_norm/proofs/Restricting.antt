use Rattle.std.proofs.Common.{◌≡◌, ◌≢◌, ℕ, ◌+◌, ◌<◌, ◌≤◌, ◌==◌, cond, ◌⊎◌, inl, inr, Bool, true, false, List, Option, Some, None, slice_get, refl, sym, ap, ◌∙◌, lit≤, arith}
use Rattle.std.specs.Option.{unwrap_or, option_map}
use Rattle.std.proofs.lemmas.Bool.{eqb-true, eqb-false}
use Rattle.vt_dec.specs.declared.side.Side.{Side}
use Rattle.vt_dec.specs.declared.side.Side.TheVariants.{Left, Right}
use Rattle.vt_type.specs.declared.plain.Plain.{Plain}
use Rattle.vt_type.specs.declared.plain.Plain as plain
use Rattle.vt_type.specs.declared.vtype.VType.{VType, Var, Con, Err}
use Rattle.vt_type.specs.declared.vtype.VKids.{VKids, Nil}
use Rattle.vt_type.specs.Variational.{vkids_of, choice, vkid_count, by_side, IsWellFormedV, AreWellFormedV, nodes, vkids_nodes, HasError, SomeHasError, selected, kids_selected}
use Rattle.vt_norm.specs.Parts.{Occurs, SomeOccurs, restricted, kids_restricted}

-- A type where a dimension takes a side.

-- the sides of a decision; past its end they are left
abbrev pub sides_of : List Side → ℕ → Side
sides_of decision dim = unwrap_or (slice_get decision dim) Left

pub by_side-sides : {A : Type 0} (side : Option Side) (left right : A) → by_side side left right ≡ by_side (Some (unwrap_or side Left)) left right
by_side-sides (Some side) left right = refl
by_side-sides None left right = refl

-- the node of a type where a dimension takes a side
abbrev narrowed : Bool → ℕ → Side → VType → VType → VType
narrowed test other side one two = cond test (by_side (Some side) one two) (choice other one two)

selected-step : (decision : List Side) (dim other : ℕ) (side : Side) (left right one two : VType) (test : Bool) → (other == dim) ≡ test → sides_of decision dim ≡ side → selected decision one ≡ selected decision left → selected decision two ≡ selected decision right → selected decision (narrowed test other side one two) ≡ selected decision (choice other left right)
selected-step decision dim other Left left right one two true t e p q =
    p ∙ (rw (by_side-sides (slice_get decision other) (selected decision left) (selected decision right), eqb-true _ _ t, e) refl)
selected-step decision dim other Right left right one two true t e p q =
    q ∙ (rw (by_side-sides (slice_get decision other) (selected decision left) (selected decision right), eqb-true _ _ t, e) refl)
selected-step decision dim other side left right one two false t e p q = rw (p, q) refl

-- it selects the same where the decision takes the side
mutual
  pub selected-restricted : (decision : List Side) (dim : ℕ) (side : Side) (type : VType) → sides_of decision dim ≡ side → selected decision (restricted dim side type) ≡ selected decision type
  selected-restricted decision dim side (Var name) e = refl
  selected-restricted decision dim side (Con top kids) e = ap (option_map (plain.Con top)) (kids_selected-restricted decision dim side kids e)
  selected-restricted decision dim side (choice other left right) e =
      selected-step decision dim other side left right _ _ (other == dim) refl e (selected-restricted decision dim side left e) (selected-restricted decision dim side right e)
  selected-restricted decision dim side Err e = refl

  pub kids_selected-restricted : (decision : List Side) (dim : ℕ) (side : Side) (kids : VKids) → sides_of decision dim ≡ side → kids_selected decision (kids_restricted dim side kids) ≡ kids_selected decision kids
  kids_selected-restricted decision dim side Nil e = refl
  kids_selected-restricted decision dim side (vkids_of kid kids) e =
      rw (selected-restricted decision dim side kid e, kids_selected-restricted decision dim side kids e) refl

vkid_count-restricted : (dim : ℕ) (side : Side) (kids : VKids) → vkid_count (kids_restricted dim side kids) ≡ vkid_count kids
vkid_count-restricted dim side Nil = refl
vkid_count-restricted dim side (vkids_of kid kids) = ap (λ n. 1 + n) (vkid_count-restricted dim side kids)

well_formed-step : (other : ℕ) (side : Side) (one two : VType) (test : Bool) → other < 64 → IsWellFormedV one → IsWellFormedV two → IsWellFormedV (narrowed test other side one two)
well_formed-step other Left one two true small p q = p
well_formed-step other Right one two true small p q = q
well_formed-step other side one two false small p q = (small, p, q)

-- it is well formed
mutual
  pub well_formed-restricted : (dim : ℕ) (side : Side) (type : VType) → IsWellFormedV type → IsWellFormedV (restricted dim side type)
  well_formed-restricted dim side (Var name) h = tt
  well_formed-restricted dim side (Con top kids) h = (vkid_count-restricted dim side kids ∙ h.0, kids_well_formed-restricted dim side kids h.1)
  well_formed-restricted dim side (choice other left right) h =
      well_formed-step other side _ _ (other == dim) h.0 (well_formed-restricted dim side left h.1) (well_formed-restricted dim side right h.2)
  well_formed-restricted dim side Err h = tt

  kids_well_formed-restricted : (dim : ℕ) (side : Side) (kids : VKids) → AreWellFormedV kids → AreWellFormedV (kids_restricted dim side kids)
  kids_well_formed-restricted dim side Nil h = tt
  kids_well_formed-restricted dim side (vkids_of kid kids) h = (well_formed-restricted dim side kid h.0, kids_well_formed-restricted dim side kids h.1)

nodes-step : (other : ℕ) (side : Side) (one two left right : VType) (test : Bool) → nodes one ≤ nodes left → nodes two ≤ nodes right → nodes (narrowed test other side one two) ≤ 1 + (nodes left + nodes right)
nodes-step other Left one two left right true p q = omega arith
nodes-step other Right one two left right true p q = omega arith
nodes-step other side one two left right false p q = omega arith

-- it has no more nodes
mutual
  pub nodes-restricted : (dim : ℕ) (side : Side) (type : VType) → nodes (restricted dim side type) ≤ nodes type
  nodes-restricted dim side (Var name) = lit≤ tt
  nodes-restricted dim side (Con top kids) = omega (arith, vkids_nodes-restricted dim side kids)
  nodes-restricted dim side (choice other left right) =
      nodes-step other side _ _ left right (other == dim) (nodes-restricted dim side left) (nodes-restricted dim side right)
  nodes-restricted dim side Err = lit≤ tt

  vkids_nodes-restricted : (dim : ℕ) (side : Side) (kids : VKids) → vkids_nodes (kids_restricted dim side kids) ≤ vkids_nodes kids
  vkids_nodes-restricted dim side Nil = lit≤ tt
  vkids_nodes-restricted dim side (vkids_of kid kids) = omega (arith, nodes-restricted dim side kid, vkids_nodes-restricted dim side kids)

fewer-step : (dim other : ℕ) (side : Side) (one two left right : VType) (test : Bool) → (other == dim) ≡ test → nodes one ≤ nodes left → nodes two ≤ nodes right → (dim ≡ other) ⊎ ((nodes one < nodes left) ⊎ (nodes two < nodes right)) → nodes (narrowed test other side one two) < 1 + (nodes left + nodes right)
fewer-step dim other Left one two left right true t p q h = omega arith
fewer-step dim other Right one two left right true t p q h = omega arith
fewer-step dim other side one two left right false t p q (inl e) = absurd (eqb-false _ _ t (sym e))
fewer-step dim other side one two left right false t p q (inr (inl l)) = omega arith
fewer-step dim other side one two left right false t p q (inr (inr r)) = omega arith

-- it has fewer nodes where the dimension stands in the type
mutual
  pub fewer-restricted : (dim : ℕ) (side : Side) (type : VType) → Occurs dim type → nodes (restricted dim side type) < nodes type
  fewer-restricted dim side (Var name) h = absurd h
  fewer-restricted dim side (Con top kids) h = omega (arith, vkids_fewer-restricted dim side kids h)
  fewer-restricted dim side (choice other left right) h =
      fewer-step dim other side _ _ left right (other == dim) refl (nodes-restricted dim side left) (nodes-restricted dim side right)
      (elim h [ inl e ↦ inl e | inr (inl l) ↦ inr (inl (fewer-restricted dim side left l)) | inr (inr r) ↦ inr (inr (fewer-restricted dim side right r)) ])
  fewer-restricted dim side Err h = absurd h

  vkids_fewer-restricted : (dim : ℕ) (side : Side) (kids : VKids) → SomeOccurs dim kids → vkids_nodes (kids_restricted dim side kids) < vkids_nodes kids
  vkids_fewer-restricted dim side Nil h = absurd h
  vkids_fewer-restricted dim side (vkids_of kid kids) (inl h) = omega (arith, fewer-restricted dim side kid h, vkids_nodes-restricted dim side kids)
  vkids_fewer-restricted dim side (vkids_of kid kids) (inr h) = omega (arith, nodes-restricted dim side kid, vkids_fewer-restricted dim side kids h)

-- a fact about one side is a fact about either
on_side : (P : VType → Type 0) (side : Side) (one two : VType) → P (by_side (Some side) one two) → P one ⊎ P two
on_side P Left one two h = inl h
on_side P Right one two h = inr h

occurs-step : (asked dim other : ℕ) (side : Side) (one two left right : VType) (test : Bool) → (other == dim) ≡ test → (Occurs asked one → Occurs asked left × (asked ≢ dim)) → (Occurs asked two → Occurs asked right × (asked ≢ dim)) → Occurs asked (narrowed test other side one two) → Occurs asked (choice other left right) × (asked ≢ dim)
occurs-step asked dim other side one two left right true t p q h =
    elim (on_side (Occurs asked) side one two h) [ inl a ↦ (inr (inl (p a).0), (p a).1) | inr b ↦ (inr (inr (q b).0), (q b).1) ]
occurs-step asked dim other side one two left right false t p q (inl e) = (inl e, λ f. eqb-false _ _ t (sym e ∙ f))
occurs-step asked dim other side one two left right false t p q (inr (inl a)) = (inr (inl (p a).0), (p a).1)
occurs-step asked dim other side one two left right false t p q (inr (inr b)) = (inr (inr (q b).0), (q b).1)

-- the dimensions that stand in it are other ones of the type
mutual
  pub occurs-restricted : (asked dim : ℕ) (side : Side) (type : VType) → Occurs asked (restricted dim side type) → Occurs asked type × (asked ≢ dim)
  occurs-restricted asked dim side (Var name) h = absurd h
  occurs-restricted asked dim side (Con top kids) h = some_occurs-restricted asked dim side kids h
  occurs-restricted asked dim side (choice other left right) h =
      occurs-step asked dim other side _ _ left right (other == dim) refl (occurs-restricted asked dim side left) (occurs-restricted asked dim side right) h
  occurs-restricted asked dim side Err h = absurd h

  some_occurs-restricted : (asked dim : ℕ) (side : Side) (kids : VKids) → SomeOccurs asked (kids_restricted dim side kids) → SomeOccurs asked kids × (asked ≢ dim)
  some_occurs-restricted asked dim side Nil h = absurd h
  some_occurs-restricted asked dim side (vkids_of kid kids) (inl h) = let p = occurs-restricted asked dim side kid h in (inl p.0, p.1)
  some_occurs-restricted asked dim side (vkids_of kid kids) (inr h) = let p = some_occurs-restricted asked dim side kids h in (inr p.0, p.1)

error-step : (other : ℕ) (side : Side) (one two left right : VType) (test : Bool) → (HasError one → HasError left) → (HasError two → HasError right) → HasError (narrowed test other side one two) → HasError (choice other left right)
error-step other side one two left right true p q h = elim (on_side HasError side one two h) [ inl a ↦ inl (p a) | inr b ↦ inr (q b) ]
error-step other side one two left right false p q (inl a) = inl (p a)
error-step other side one two left right false p q (inr b) = inr (q b)

-- no error comes in
mutual
  pub error-restricted : (dim : ℕ) (side : Side) (type : VType) → HasError (restricted dim side type) → HasError type
  error-restricted dim side (Var name) h = h
  error-restricted dim side (Con top kids) h = some_error-restricted dim side kids h
  error-restricted dim side (choice other left right) h =
      error-step other side _ _ left right (other == dim) (error-restricted dim side left) (error-restricted dim side right) h
  error-restricted dim side Err h = h

  some_error-restricted : (dim : ℕ) (side : Side) (kids : VKids) → SomeHasError (kids_restricted dim side kids) → SomeHasError kids
  some_error-restricted dim side Nil h = h
  some_error-restricted dim side (vkids_of kid kids) (inl h) = inl (error-restricted dim side kid h)
  some_error-restricted dim side (vkids_of kid kids) (inr h) = inr (some_error-restricted dim side kids h)
