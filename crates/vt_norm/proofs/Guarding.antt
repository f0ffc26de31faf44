use Rattle.std.proofs.Common.{◌≡◌, ℕ, cond, ◌⊎◌, inl, inr, Bool, true, false, Some, refl, ap, ◌∙◌}
use Rattle.vt_dec.specs.declared.side.Side.{Side}
use Rattle.vt_dec.specs.declared.side.Side.TheVariants.{Left, Right}
use Rattle.vt_type.specs.Variational.{by_side}
use Rattle.vt_norm.specs.declared.root.Top.{Top}
use Rattle.vt_norm.specs.declared.root.Top.TheVariants.{Made, Named, Wrong}
use Rattle.vt_norm.specs.declared.diagram.Diagram.{Diagram, Leaf}
use Rattle.vt_norm.specs.Diagrams.{node, at, Asks, AsksOnce, taking, same_top, joined, guarded}
use Rattle.vt_norm.proofs.Tops.{same_top-true}
use Rattle.vt_norm.proofs.Taking.{at-taking, asks-taking, once-taking}

-- A diagram that has the error where another one has it.

-- the error where the first root is it, the second root elsewhere
abbrev pub guard : Top → Top → Top
guard Wrong rest = Wrong
guard top rest = rest

joined-leaves : (sides : ℕ → Side) (dim : ℕ) (one other : Top) (side : Side) (test : Bool) → same_top one other ≡ test → at sides (cond test (Leaf one) (node dim (Leaf one) (Leaf other))) ≡ by_side (Some (sides dim)) one other
joined-leaves sides dim one other side false e = refl
joined-leaves sides dim one other side true e = rw (same_top-true one other e) (same_either (sides dim) other)
  where
    same_either : (side : Side) (top : Top) → top ≡ by_side (Some side) top top
    same_either Left top = refl
    same_either Right top = refl

pub at-joined : (sides : ℕ → Side) (dim : ℕ) (left right : Diagram) → at sides (joined dim left right) ≡ by_side (Some (sides dim)) (at sides left) (at sides right)
at-joined sides dim (Leaf one) (Leaf other) = joined-leaves sides dim one other Left (same_top one other) refl
at-joined sides dim (Leaf one) (node other left right) = refl
at-joined sides dim (node other one two) right = refl

asks-leaves : (asked dim : ℕ) (one other : Top) (test : Bool) → Asks asked (cond test (Leaf one) (node dim (Leaf one) (Leaf other))) → asked ≡ dim
asks-leaves asked dim one other true h = absurd h
asks-leaves asked dim one other false (inl e) = e
asks-leaves asked dim one other false (inr h) = absurd (elim h [ inl a ↦ a | inr b ↦ b ])

asks-joined : (asked dim : ℕ) (left right : Diagram) → Asks asked (joined dim left right) → Asks asked (node dim left right)
asks-joined asked dim (Leaf one) (Leaf other) h = inl (asks-leaves asked dim one other (same_top one other) h)
asks-joined asked dim (Leaf one) (node other left right) h = h
asks-joined asked dim (node other one two) right h = h

once-leaves : (dim : ℕ) (one other : Top) (test : Bool) → AsksOnce (cond test (Leaf one) (node dim (Leaf one) (Leaf other)))
once-leaves dim one other true = tt
once-leaves dim one other false = (λ a. a, λ b. b, tt, tt)

once-joined : (dim : ℕ) (left right : Diagram) → AsksOnce (node dim left right) → AsksOnce (joined dim left right)
once-joined dim (Leaf one) (Leaf other) h = once-leaves dim one other (same_top one other)
once-joined dim (Leaf one) (node other left right) h = h
once-joined dim (node other one two) right h = h

guarded-step : (sides : ℕ → Side) (dim : ℕ) (side : Side) (left right one two : Top) (rest : Diagram) → sides dim ≡ side → one ≡ guard left (at sides (taking dim Left rest)) → two ≡ guard right (at sides (taking dim Right rest)) → by_side (Some side) one two ≡ guard (by_side (Some side) left right) (at sides rest)
guarded-step sides dim Left left right one two rest e p q = p ∙ ap (guard left) (at-taking sides dim Left rest e)
guarded-step sides dim Right left right one two rest e p q = q ∙ ap (guard right) (at-taking sides dim Right rest e)

-- a guarded diagram at a decision
pub at-guarded : (sides : ℕ → Side) (first rest : Diagram) → at sides (guarded first rest) ≡ guard (at sides first) (at sides rest)
at-guarded sides (Leaf (Made top)) rest = refl
at-guarded sides (Leaf (Named name)) rest = refl
at-guarded sides (Leaf Wrong) rest = refl
at-guarded sides (node dim left right) rest =
    at-joined sides dim (guarded left (taking dim Left rest)) (guarded right (taking dim Right rest))
    ∙ guarded-step sides dim (sides dim) _ _ _ _ rest refl (at-guarded sides left (taking dim Left rest)) (at-guarded sides right (taking dim Right rest))

-- what a guarded diagram asks
pub asks-guarded : (asked : ℕ) (first rest : Diagram) → Asks asked (guarded first rest) → Asks asked first ⊎ Asks asked rest
asks-guarded asked (Leaf (Made top)) rest h = inr h
asks-guarded asked (Leaf (Named name)) rest h = inr h
asks-guarded asked (Leaf Wrong) rest h = absurd h
asks-guarded asked (node dim left right) rest h =
    elim (asks-joined asked dim (guarded left (taking dim Left rest)) (guarded right (taking dim Right rest)) h) [
      | inl e ↦ inl (inl e)
      | inr (inl l) ↦ elim (asks-guarded asked left (taking dim Left rest) l) [ inl a ↦ inl (inr (inl a)) | inr b ↦ inr (asks-taking asked dim Left rest b).0 ]
      | inr (inr r) ↦ elim (asks-guarded asked right (taking dim Right rest) r) [ inl a ↦ inl (inr (inr a)) | inr b ↦ inr (asks-taking asked dim Right rest b).0 ]
    ]

free-guarded : (dim : ℕ) (side : Side) (first rest : Diagram) → (Asks dim first → ⊥) → Asks dim (guarded first (taking dim side rest)) → ⊥
free-guarded dim side first rest free h =
    elim (asks-guarded dim first (taking dim side rest) h) [ inl a ↦ free a | inr b ↦ (asks-taking dim dim side rest b).1 refl ]

-- a guarded diagram asks once what both ask once
pub once-guarded : (first rest : Diagram) → AsksOnce first → AsksOnce rest → AsksOnce (guarded first rest)
once-guarded (Leaf (Made top)) rest h k = k
once-guarded (Leaf (Named name)) rest h k = k
once-guarded (Leaf Wrong) rest h k = tt
once-guarded (node dim left right) rest h k =
    once-joined dim (guarded left (taking dim Left rest)) (guarded right (taking dim Right rest))
    (free-guarded dim Left left rest h.0, free-guarded dim Right right rest h.1, once-guarded left (taking dim Left rest) h.2 (once-taking dim Left rest k), once-guarded right (taking dim Right rest) h.3 (once-taking dim Right rest k))
