use Rattle.std.proofs.Common.{◌≡◌, ◌≢◌, ℕ, zero, suc, ◌<◌, inl, inr, List, [], ◌∷◌, length, Some, slice_get, slice_set, refl, sym, ap, ◌∙◌, arith}
use Rattle.std.specs.Option.{unwrap_or}
use Rattle.std.proofs.lemmas.Bool.{cases_eq}
use Rattle.vt_dec.specs.declared.side.Side.{Side}
use Rattle.vt_dec.specs.declared.side.Side.TheVariants.{Left}
use Rattle.vt_dec.proofs.Slices.{slice_get-set_same, slice_get-set_other}
use Rattle.vt_type.specs.declared.vtype.VType.{VType, Var, Con, Err}
use Rattle.vt_type.specs.declared.vtype.VKids.{VKids, Nil}
use Rattle.vt_type.specs.Variational.{vkids_of, choice, IsWellFormedV, AreWellFormedV}
use Rattle.vt_type.specs.NormalForm.{Decisions, Taking}
use Rattle.vt_norm.specs.declared.diagram.Diagram.{Diagram, Leaf}
use Rattle.vt_norm.specs.Parts.{Occurs, SomeOccurs, restricted}
use Rattle.vt_norm.specs.Diagrams.{node, Asks}
use Rattle.vt_norm.proofs.Restricting.{sides_of, occurs-restricted}

-- Sets of decisions over which the normal form of a type is looked at.

-- the side that a dimension was set to
pub sides-set_here : (decision : List Side) (dim : ℕ) (side : Side) → dim < length decision → sides_of (slice_set decision dim side) dim ≡ side
sides-set_here decision dim side below = ap (λ s. unwrap_or s Left) (slice_get-set_same decision dim side below)

-- the other sides stay
pub sides-set_other : (decision : List Side) (dim other : ℕ) (side : Side) → other ≢ dim → sides_of (slice_set decision dim side) other ≡ sides_of decision other
sides-set_other decision dim other side ne = ap (λ s. unwrap_or s Left) (slice_get-set_other decision dim other side ne)

-- the dimensions of a well-formed type are below 64
mutual
  pub occurs-small : (dim : ℕ) (type : VType) → IsWellFormedV type → Occurs dim type → dim < 64
  occurs-small dim (Var name) w h = absurd h
  occurs-small dim (Con top kids) w h = some_occurs-small dim kids w.1 h
  occurs-small dim (choice other left right) w (inl e) = let small = w.0 in omega arith
  occurs-small dim (choice other left right) w (inr (inl h)) = occurs-small dim left w.1 h
  occurs-small dim (choice other left right) w (inr (inr h)) = occurs-small dim right w.2 h
  occurs-small dim Err w h = absurd h

  some_occurs-small : (dim : ℕ) (kids : VKids) → AreWellFormedV kids → SomeOccurs dim kids → dim < 64
  some_occurs-small dim Nil w h = absurd h
  some_occurs-small dim (vkids_of kid kids) w (inl h) = occurs-small dim kid w.0 h
  some_occurs-small dim (vkids_of kid kids) w (inr h) = some_occurs-small dim kids w.1 h

-- The set has a decision, its decisions are over 64 dimensions, and those that stand in the type take
-- either side in it, whatever the others take.
pub record IsFreeIn (set : Decisions) (type : VType) : Type 0 where
  pub decision : List Side
  pub inside : set decision
  pub long : (decision : List Side) → set decision → length decision ≡ 64
  pub closed : (decision : List Side) (dim : ℕ) (side : Side) → set decision → Occurs dim type → set (slice_set decision dim side)

-- a decision of the set that takes these sides of what a diagram asks
abbrev Follows : Decisions → (ℕ → Side) → Diagram → List Side → List Side → Type 0
Follows set sides tree from decision =
    set decision × ((dim : ℕ) → Asks dim tree → sides_of decision dim ≡ sides dim)
    × ((dim : ℕ) → sides_of from dim ≡ sides dim → sides_of decision dim ≡ sides dim)

follow-node : (set : Decisions) (type : VType) (sides : ℕ → Side) (dim : ℕ) (left right : Diagram) (from one two : List Side) → IsFreeIn set type → IsWellFormedV type → Occurs dim type → Follows set sides left from one → Follows set sides right one two → Follows set sides (node dim left right) from (slice_set two dim (sides dim))
follow-node set type sides dim left right from one two free w occurs first second =
    let below : dim < length two = omega (arith, free.long two second.0, occurs-small dim type w occurs) in
    let kept : (other : ℕ) → sides_of two other ≡ sides other → sides_of (slice_set two dim (sides dim)) other ≡ sides other =
    λ other e. elim (cases_eq other dim) [
      | inl same ↦ rw same (sides-set_here two dim (sides dim) below)
      | inr ne ↦ sides-set_other two dim other (sides dim) ne ∙ e
    ] in (
      free.closed two dim (sides dim) second.0 occurs,
      λ other asked. elim asked [
        | inl e ↦ rw e (sides-set_here two dim (sides dim) below)
        | inr (inl l) ↦ kept other (second.2 other (first.1 other l))
        | inr (inr r) ↦ kept other (second.1 other r)
      ],
      λ other e. kept other (second.2 other (first.2 other e)),
    )

pub follow : (set : Decisions) (type : VType) (sides : ℕ → Side) (tree : Diagram) (from : List Side) → IsFreeIn set type → IsWellFormedV type → ((dim : ℕ) → Asks dim tree → Occurs dim type) → set from → (decision : List Side) × Follows set sides tree from decision
follow set type sides (Leaf top) from free w occurs inside = (from, (inside, λ dim a. absurd a, λ dim e. e))
follow set type sides (node dim left right) from free w occurs inside =
    let one = follow set type sides left from free w (λ d a. occurs d (inr (inl a))) inside in
    let two = follow set type sides right one.0 free w (λ d a. occurs d (inr (inr a))) one.1.0 in
    (slice_set two.0 dim (sides dim), follow-node set type sides dim left right from one.0 two.0 free w (occurs dim (inl refl)) one.1 two.1)

-- the decisions that take a side, for the type where the dimension takes it
pub free_taking : (set : Decisions) (type : VType) (dim : ℕ) (side : Side) → IsFreeIn set type → IsWellFormedV type → Occurs dim type → IsFreeIn (Taking set dim side) (restricted dim side type)
free_taking set type dim side free w occurs =
    record {
      decision = slice_set free.decision dim side;
      inside = (free.closed free.decision dim side free.inside occurs, slice_get-set_same free.decision dim side (omega (arith, free.long free.decision free.inside, occurs-small dim type w occurs)));
      long = λ decision h. free.long decision h.0;
      closed = λ decision other two h o.
          (let p = occurs-restricted other dim side type o in
          (free.closed decision other two h.0 p.0, slice_get-set_other decision other dim two (λ e. p.1 (sym e)) ∙ h.1));
    }
