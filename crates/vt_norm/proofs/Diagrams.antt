use Rattle.std.proofs.Common.{◌≡◌, ℕ, ◌⊎◌, inl, inr, Bool, true, false, List, Option, Some, None, IsSome, slice_get, refl, sym, ap, ◌∙◌}
use Rattle.std.specs.Option.{option_map, option_and_then}
use Rattle.vt_dec.specs.declared.side.Side.{Side}
use Rattle.vt_dec.specs.declared.side.Side.TheVariants.{Left, Right}
use Rattle.vt_type.specs.declared.head.Head.{Head}
use Rattle.vt_type.specs.declared.plain.Plain.{Plain}
use Rattle.vt_type.specs.declared.plain.Plain as plain
use Rattle.vt_type.specs.declared.plain.PlainKids.{PlainKids}
use Rattle.vt_type.specs.declared.vtype.VType.{VType, Var, Con, Err}
use Rattle.vt_type.specs.declared.vtype.VKids.{VKids, Nil}
use Rattle.vt_type.specs.Plain.{arity, kids_of, kid_count}
use Rattle.vt_type.specs.NormalForm.{Root, root}
use Rattle.vt_type.specs.NormalForm as form
use Rattle.vt_type.specs.Variational.{vkids_of, choice, vkid_count, by_side, IsWellFormedV, AreWellFormedV, HasError, SomeHasError, selected, kids_selected}
use Rattle.vt_norm.specs.declared.root.Top.{Top}
use Rattle.vt_norm.specs.declared.root.Top.TheVariants.{Made, Named, Wrong}
use Rattle.vt_norm.specs.declared.diagram.Diagram.{Diagram, Leaf}
use Rattle.vt_norm.specs.Parts.{Occurs, SomeOccurs}
use Rattle.vt_norm.specs.Diagrams.{shown, at, Asks, AsksOnce, taking, diagram, guarded_by, IsCarefulOf}
use Rattle.vt_norm.proofs.Taking.{at-taking, asks-taking, once-taking}
use Rattle.vt_norm.proofs.Guarding.{guard, at-guarded, asks-guarded, once-guarded}
use Rattle.vt_norm.proofs.Restricting.{sides_of, by_side-sides}
use Rattle.vt_norm.proofs.Kids.{kid_count-selected}

-- The diagram of a type has its root at each decision.

-- it asks nothing twice
mutual
  pub once-diagram : (careful : Bool) (type : VType) → AsksOnce (diagram careful type)
  once-diagram careful (Var name) = tt
  once-diagram false (Con top kids) = tt
  once-diagram true (Con top kids) = once-guarded_by kids (Leaf (Made top)) tt
  once-diagram careful (choice dim left right) =
      (λ a. (asks-taking dim dim Left (diagram careful left) a).1 refl, λ a. (asks-taking dim dim Right (diagram careful right) a).1 refl, once-taking dim Left (diagram careful left) (once-diagram careful left), once-taking dim Right (diagram careful right) (once-diagram careful right))
  once-diagram careful Err = tt

  once-guarded_by : (kids : VKids) (rest : Diagram) → AsksOnce rest → AsksOnce (guarded_by kids rest)
  once-guarded_by Nil rest h = h
  once-guarded_by (vkids_of kid kids) rest h = once-guarded (diagram true kid) (guarded_by kids rest) (once-diagram true kid) (once-guarded_by kids rest h)

-- it asks dimensions of the type
mutual
  pub asks-diagram : (asked : ℕ) (careful : Bool) (type : VType) → Asks asked (diagram careful type) → Occurs asked type
  asks-diagram asked careful (Var name) h = absurd h
  asks-diagram asked false (Con top kids) h = absurd h
  asks-diagram asked true (Con top kids) h = elim (asks-guarded_by asked kids (Leaf (Made top)) h) [ inl a ↦ a | inr b ↦ absurd b ]
  asks-diagram asked careful (choice dim left right) (inl e) = inl e
  asks-diagram asked careful (choice dim left right) (inr (inl a)) = inr (inl (asks-diagram asked careful left (asks-taking asked dim Left (diagram careful left) a).0))
  asks-diagram asked careful (choice dim left right) (inr (inr b)) = inr (inr (asks-diagram asked careful right (asks-taking asked dim Right (diagram careful right) b).0))
  asks-diagram asked careful Err h = absurd h

  asks-guarded_by : (asked : ℕ) (kids : VKids) (rest : Diagram) → Asks asked (guarded_by kids rest) → SomeOccurs asked kids ⊎ Asks asked rest
  asks-guarded_by asked Nil rest h = inr h
  asks-guarded_by asked (vkids_of kid kids) rest h =
      elim (asks-guarded asked (diagram true kid) (guarded_by kids rest) h) [
        | inl a ↦ inl (inl (asks-diagram asked true kid a))
        | inr b ↦ elim (asks-guarded_by asked kids rest b) [ inl c ↦ inl (inr c) | inr d ↦ inr d ]
      ]

-- a type without the error selects a plain type
map_some : {A B : Type 0} (f : A → B) (found : Option A) → IsSome found → IsSome (option_map f found)
map_some f None h = h
map_some f (Some found) h = h

both_some : (first : Option Plain) (rest : Option PlainKids) → IsSome first → IsSome rest → IsSome (option_and_then (λ one. option_map (kids_of one) rest) first)
both_some None rest h k = h
both_some (Some one) rest h k = map_some (kids_of one) rest k

side_some : (side : Option Side) (left right : Option Plain) → IsSome left → IsSome right → IsSome (by_side side left right)
side_some (Some Left) left right p q = p
side_some (Some Right) left right p q = q
side_some None left right p q = p

mutual
  selected-some : (decision : List Side) (type : VType) → (HasError type → ⊥) → IsSome (selected decision type)
  selected-some decision (Var name) h = refl
  selected-some decision (Con top kids) h = map_some (plain.Con top) (kids_selected decision kids) (kids_selected-some decision kids h)
  selected-some decision (choice dim left right) h =
      side_some (slice_get decision dim) _ _ (selected-some decision left (λ a. h (inl a))) (selected-some decision right (λ b. h (inr b)))
  selected-some decision Err h = absurd (h tt)

  kids_selected-some : (decision : List Side) (kids : VKids) → (SomeHasError kids → ⊥) → IsSome (kids_selected decision kids)
  kids_selected-some decision Nil h = refl
  kids_selected-some decision (vkids_of kid kids) h =
      both_some (selected decision kid) (kids_selected decision kids) (selected-some decision kid (λ a. h (inl a))) (kids_selected-some decision kids (λ b. h (inr b)))

guard-none : (top rest : Top) → shown top ≡ form.Wrong → guard top rest ≡ Wrong
guard-none (Made top) rest h = cc
guard-none (Named name) rest h = cc
guard-none Wrong rest h = refl

guard-some : (top rest : Top) (found : Plain) → shown top ≡ root (Some found) → guard top rest ≡ rest
guard-some (Made top) rest found h = refl
guard-some (Named name) rest found h = refl
guard-some Wrong rest (plain.Var name) h = cc
guard-some Wrong rest (plain.Con top kids) h = cc

-- the error where some child is it, what comes after elsewhere
abbrev Guards : Option PlainKids → Top → Top → Type 0
Guards None value rest = value ≡ Wrong
Guards (Some kids) value rest = value ≡ rest

guards-step : (first : Option Plain) (others : Option PlainKids) (top value rest : Top) → shown top ≡ root first → Guards others value rest → Guards (option_and_then (λ one. option_map (kids_of one) others) first) (guard top value) rest
guards-step None others top value rest e h = guard-none top value e
guards-step (Some one) None top value rest e h = guard-some top value one e ∙ h
guards-step (Some one) (Some others) top value rest e h = guard-some top value one e ∙ h

con-step : (top : Head) (count : ℕ) (found : Option PlainKids) (value : Top) → count ≡ arity top → ((all : PlainKids) → found ≡ Some all → kid_count all ≡ count) → Guards found value (Made top) → shown value ≡ root (option_map (plain.Con top) found)
con-step top count None value e k h = rw h refl
con-step top count (Some all) value e k h = rw (h, k all refl, e) refl

con-clean : (top : Head) (count : ℕ) (found : Option PlainKids) → count ≡ arity top → ((all : PlainKids) → found ≡ Some all → kid_count all ≡ count) → IsSome found → form.Made top (arity top) ≡ root (option_map (plain.Con top) found)
con-clean top count None e k h = cc
con-clean top count (Some all) e k h = rw (k all refl, e) refl

choice-step : (sides : ℕ → Side) (dim : ℕ) (side : Side) (left right : Diagram) (one two : Option Plain) → sides dim ≡ side → shown (at sides left) ≡ root one → shown (at sides right) ≡ root two → shown (by_side (Some side) (at sides (taking dim Left left)) (at sides (taking dim Right right))) ≡ root (by_side (Some side) one two)
choice-step sides dim Left left right one two e p q = ap shown (at-taking sides dim Left left e) ∙ p
choice-step sides dim Right left right one two e p q = ap shown (at-taking sides dim Right right e) ∙ q

-- the leaf at a decision shows the root of what is selected
mutual
  pub at-diagram : (decision : List Side) (careful : Bool) (type : VType) → IsWellFormedV type → IsCarefulOf careful type → shown (at (sides_of decision) (diagram careful type)) ≡ root (selected decision type)
  at-diagram decision careful (Var name) w c = refl
  at-diagram decision false (Con top kids) w c =
      con-clean top (vkid_count kids) (kids_selected decision kids) w.0 (kid_count-selected decision kids) (kids_selected-some decision kids (λ h. let t : false ≡ true = c h in cc))
  at-diagram decision true (Con top kids) w c =
      con-step top (vkid_count kids) (kids_selected decision kids) _ w.0 (kid_count-selected decision kids) (at-guarded_by decision kids (Leaf (Made top)) w.1)
  at-diagram decision careful (choice dim left right) w c =
      choice-step (sides_of decision) dim (sides_of decision dim) (diagram careful left) (diagram careful right) (selected decision left) (selected decision right) refl (at-diagram decision careful left w.1 (λ h. c (inl h))) (at-diagram decision careful right w.2 (λ h. c (inr h)))
      ∙ ap root (sym (by_side-sides (slice_get decision dim) (selected decision left) (selected decision right)))
  at-diagram decision careful Err w c = refl

  at-guarded_by : (decision : List Side) (kids : VKids) (rest : Diagram) → AreWellFormedV kids → Guards (kids_selected decision kids) (at (sides_of decision) (guarded_by kids rest)) (at (sides_of decision) rest)
  at-guarded_by decision Nil rest w = refl
  at-guarded_by decision (vkids_of kid kids) rest w =
      rw (at-guarded (sides_of decision) (diagram true kid) (guarded_by kids rest))
      (guards-step (selected decision kid) (kids_selected decision kids) _ _ _ (at-diagram decision true kid w.0 (λ h. refl)) (at-guarded_by decision kids rest w.1))
