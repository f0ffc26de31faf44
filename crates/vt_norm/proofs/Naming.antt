use Rattle.std.proofs.Common.{◌≡◌, ℕ, zero, suc, ◌<◌, ◌⊎◌, inl, inr, List, [], ◌∷◌, ◌++◌, Bool, true, false, IsTrue, cond, length, Option, Some, None, slice_get, slice_set, refl, sym, ap, ◌∙◌, arith}
use Rattle.std.specs.Map.{lookup}
use Rattle.std.specs.Option.{unwrap_or}
use Rattle.std.specs.Str.{bytes_eq}
use Rattle.std.proofs.lemmas.Bool.{false_from_ne_true}
use Rattle.std.proofs.lemmas.Slice.Eq.{bytes_eq-Decides}
use Rattle.vt_dec.specs.declared.side.Side.{Side}
use Rattle.vt_dec.specs.declared.side.Side.TheVariants.{Left, Right}
use Rattle.vt_dec.specs.Decisions.{Agrees}
use Rattle.vt_dec.proofs.Agreement.{Agrees-length}
use Rattle.vt_type.specs.Variational.{by_side}
use Rattle.vt_norm.specs.declared.names.Met.{Met}
use Rattle.vt_norm.specs.declared.root.Top.{Top}
use Rattle.vt_norm.specs.declared.root.Top.TheVariants.{Named}
use Rattle.vt_norm.specs.declared.diagram.Diagram.{Diagram, Leaf}
use Rattle.vt_norm.specs.Diagrams.{node, at, joined, same_top}
use Rattle.vt_norm.specs.Sides.{taken_side, agrees}
use Rattle.vt_norm.specs.Names.{met_at, name_at, FindsAlike, IsFirstMet, Holds, IsOpenTree, IsNamedTree}
use Rattle.vt_norm.proofs.Guarding.{at-joined}
use Rattle.vt_norm.proofs.Deciding.{agrees-true, agrees-test, agrees-set, taken-of-get}

-- Where an open cell was met first.

-- an entry that was met at the decision
pub met-here : (d : List Side) (entry : Met) (met : List Met) → Agrees entry.part d → met_at d (entry ∷ met) ≡ (entry.cell ∷ [], entry.path) ∷ met_at d met
met-here d entry met h = rw (agrees-test entry.part d h) refl

-- an entry that was not
pub met-elsewhere : (d : List Side) (entry : Met) (met : List Met) → (Agrees entry.part d → ⊥) → met_at d (entry ∷ met) ≡ met_at d met
met-elsewhere d entry met apart = rw (false_from_ne_true _ (λ e. apart (agrees-true entry.part d e))) refl

pub met-append : (d : List Side) (one other : List Met) → met_at d (one ++ other) ≡ met_at d one ++ met_at d other
met-append d [] other = refl
met-append d (entry ∷ one) other = by (agrees entry.part d) (met-append d one other)
  where
    by : (test : Bool) → met_at d (one ++ other) ≡ met_at d one ++ met_at d other → cond test ((entry.cell ∷ [], entry.path) ∷ met_at d (one ++ other)) (met_at d (one ++ other)) ≡ cond test ((entry.cell ∷ [], entry.path) ∷ met_at d one) (met_at d one) ++ met_at d other
    by true e = ap (λ rest. (entry.cell ∷ [], entry.path) ∷ rest) e
    by false e = e

-- another cell's place is passed over
lookup-other : (cell own : ℕ) (path : List ℕ) (places : List (List ℕ × List ℕ)) → (own ≡ cell → ⊥) → lookup (bytes_eq (cell ∷ [])) ((own ∷ [], path) ∷ places) ≡ lookup (bytes_eq (cell ∷ [])) places
lookup-other cell own path places ne = rw (false_from_ne_true (bytes_eq (cell ∷ []) (own ∷ [])) (λ e. let same = (bytes_eq-Decides (cell ∷ []) (own ∷ [])).0 e in ne (cc))) refl

lookup-own : (cell own : ℕ) (path : List ℕ) (places : List (List ℕ × List ℕ)) → own ≡ cell → lookup (bytes_eq (cell ∷ [])) ((own ∷ [], path) ∷ places) ≡ Some path
lookup-own cell own path places e = rw (e, (bytes_eq-Decides (cell ∷ []) (cell ∷ [])).1 refl) refl

-- an entry of another cell, or one that was met elsewhere, is passed over
pub skip-one : (part : List (Option Side)) (cell : ℕ) (entry : Met) (met : List Met) → ((entry.cell ≡ cell) × (d : List Side) × Agrees entry.part d × Agrees part d → ⊥) → FindsAlike part cell (entry ∷ met) met
skip-one part cell entry met apart d h = by (agrees entry.part d) refl
  where
    by : (test : Bool) → agrees entry.part d ≡ test → lookup (bytes_eq (cell ∷ [])) (cond test ((entry.cell ∷ [], entry.path) ∷ met_at d met) (met_at d met)) ≡ lookup (bytes_eq (cell ∷ [])) (met_at d met)
    by true e = lookup-other cell entry.cell entry.path (met_at d met) (λ same. apart (same, d, agrees-true entry.part d e, h))
    by false e = refl

-- the names are alike
pub names-alike : (part : List (Option Side)) (cell : ℕ) (one other : List Met) (here : List ℕ) (tree : Diagram) → FindsAlike part cell one other → IsNamedTree part other here cell tree → IsNamedTree part one here cell tree
names-alike part cell one other here tree alike h = record {
  opens = h.opens;
  names = λ d a. h.names d a ∙ ap (λ found. Named (unwrap_or found here)) (sym (alike d a));
}

-- the cell was met first at one place, at each decision of the part
pub named-first : (part : List (Option Side)) (met : List Met) (entry : Met) (rest : List Met) (here : List ℕ) (cell : ℕ) → met ≡ entry ∷ rest → entry.cell ≡ cell → Holds part entry.part → IsNamedTree part met here cell (Leaf (Named entry.path))
named-first part met entry rest here cell e own holds = record {
  opens = tt;
  names = λ d a. rw (e, met-here d entry rest (holds d a), lookup-own cell entry.cell entry.path (met_at d rest) own) refl;
}

-- ---- a tree from those on either side of an open dimension

open-leaves : (part : List (Option Side)) (dim : ℕ) (one other : Top) (test : Bool) → slice_get part dim ≡ Some None → IsOpenTree part (cond test (Leaf one) (node dim (Leaf one) (Leaf other)))
open-leaves part dim one other true e = tt
open-leaves part dim one other false e = (e, tt, tt)

pub open-joined : (part : List (Option Side)) (dim : ℕ) (left right : Diagram) → slice_get part dim ≡ Some None → IsOpenTree (slice_set part dim (Some Left)) left → IsOpenTree (slice_set part dim (Some Right)) right → IsOpenTree part (joined dim left right)
open-joined part dim (Leaf one) (Leaf other) e h k = open-leaves part dim one other (same_top one other) e
open-joined part dim (Leaf one) (node other left right) e h k = (e, h, k)
open-joined part dim (node other one two) right e h k = (e, h, k)

-- a decision of a part takes either side of a dimension that is open
pub either_side : (part : List (Option Side)) (dim : ℕ) (d : List Side) → Agrees part d → slice_get part dim ≡ Some None → (side : Side) × (taken_side d dim ≡ side) × Agrees (slice_set part dim (Some side)) d
either_side part dim d h e = by _ refl
  where
    by : (found : Option Side) → slice_get d dim ≡ found → (side : Side) × (taken_side d dim ≡ side) × Agrees (slice_set part dim (Some side)) d
    by (Some side) f = (side, taken-of-get d dim side f, agrees-set part d dim side h e f)
    by None f = absurd (there part d dim h e f)
      where
        there : (k : List (Option Side)) (d : List Side) (dim : ℕ) → Agrees k d → slice_get k dim ≡ Some None → slice_get d dim ≡ None → ⊥
        there [] [] dim h e f = cc
        there [] (side ∷ d) dim h e f = absurd h
        there (None ∷ k) [] dim h e f = absurd h
        there (Some own ∷ k) [] dim h e f = absurd h
        there (None ∷ k) (side ∷ d) zero h e f = cc
        there (Some own ∷ k) (side ∷ d) zero h e f = cc
        there (None ∷ k) (side ∷ d) (suc dim) h e f = there k d dim h e f
        there (Some own ∷ k) (side ∷ d) (suc dim) h e f = there k d dim h.1 e f

pub at-either : (part : List (Option Side)) (dim : ℕ) (left right : Diagram) (value : List Side → Top) → slice_get part dim ≡ Some None
    → ((d : List Side) → Agrees (slice_set part dim (Some Left)) d → at (taken_side d) left ≡ value d)
    → ((d : List Side) → Agrees (slice_set part dim (Some Right)) d → at (taken_side d) right ≡ value d)
    → (d : List Side) → Agrees part d → at (taken_side d) (joined dim left right) ≡ value d
at-either part dim left right value e l r d h =
    let s = either_side part dim d h e in at-joined (taken_side d) dim left right ∙ by s.0 s.1 s.2
  where
    by : (side : Side) → taken_side d dim ≡ side → Agrees (slice_set part dim (Some side)) d → by_side (Some (taken_side d dim)) (at (taken_side d) left) (at (taken_side d) right) ≡ value d
    by Left f a = rw f (l d a)
    by Right f a = rw f (r d a)

pub named-either : (part : List (Option Side)) (met : List Met) (here : List ℕ) (cell dim : ℕ) (left right : Diagram) → slice_get part dim ≡ Some None
    → IsNamedTree (slice_set part dim (Some Left)) met here cell left → IsNamedTree (slice_set part dim (Some Right)) met here cell right → IsNamedTree part met here cell (joined dim left right)
named-either part met here cell dim left right e l r = record {
  opens = open-joined part dim left right e l.opens r.opens;
  names = at-either part dim left right (λ d. Named (name_at d met here cell)) e l.names r.names;
}

-- ---- a part within another

-- how many dimensions are open
abbrev pub opens : List (Option Side) → ℕ
opens [] = 0
opens (None ∷ part) = suc (opens part)
opens (Some side ∷ part) = opens part

pub fewer-opens : (part : List (Option Side)) (dim : ℕ) (side : Side) → slice_get part dim ≡ Some None → opens (slice_set part dim (Some side)) < opens part
fewer-opens [] dim side e = absurd (cc)
fewer-opens (None ∷ part) zero side e = omega arith
fewer-opens (Some own ∷ part) zero side e = let f : Some (Some own) ≡ Some None = e in absurd (cc)
fewer-opens (None ∷ part) (suc dim) side e = omega (arith, fewer-opens part dim side e)
fewer-opens (Some own ∷ part) (suc dim) side e = fewer-opens part dim side e

-- all decisions of the part take one side of the dimension
abbrev pub IsOneSided : List (Option Side) → ℕ → Type 0
IsOneSided part dim = (one other : List Side) → Agrees part one → Agrees part other → taken_side one dim ≡ taken_side other dim

-- where the part leaves open only what the other does, and the two meet, the other has all of its decisions
agrees-by : (k : List (Option Side)) (both d : List Side) → Agrees k both → length d ≡ length both → ((dim : ℕ) → dim < length k → (slice_get k dim ≡ Some None) ⊎ (taken_side d dim ≡ taken_side both dim)) → Agrees k d
agrees-by [] [] [] h e same = tt
agrees-by [] [] (side ∷ d) h e same = absurd (omega arith)
agrees-by [] (side ∷ both) d h e same = absurd h
agrees-by (None ∷ k) [] d h e same = absurd h
agrees-by (Some own ∷ k) [] d h e same = absurd h
agrees-by (None ∷ k) (side ∷ both) [] h e same = absurd (omega arith)
agrees-by (Some own ∷ k) (side ∷ both) [] h e same = absurd (omega arith)
agrees-by (None ∷ k) (side ∷ both) (mine ∷ d) h e same = agrees-by k both d h (omega arith) (λ dim below. same (suc dim) (omega arith))
agrees-by (Some own ∷ k) (side ∷ both) (mine ∷ d) h e same =
    (elim (same 0 (omega arith)) [ inl o ↦ (let f : Some (Some own) ≡ Some None = o in absurd (cc)) | inr t ↦ h.0 ∙ sym t ], agrees-by k both d h.1 (omega arith) (λ dim below. same (suc dim) (omega arith)))

pub holds-by : (part entry : List (Option Side)) (both : List Side) → Agrees entry both → Agrees part both → ((dim : ℕ) → dim < length entry → (slice_get entry dim ≡ Some None) ⊎ IsOneSided part dim) → Holds part entry
holds-by part entry both e p same d h =
    agrees-by entry both d e (Agrees-length part d h ∙ sym (Agrees-length part both p)) (λ dim below. elim (same dim below) [ inl o ↦ inl o | inr t ↦ inr (t d both h p) ])

pub skip-along : (part : List (Option Side)) (cell : ℕ) (all one rest : List Met) (entry : Met) → FindsAlike part cell all one → one ≡ entry ∷ rest → ((entry.cell ≡ cell) × (d : List Side) × Agrees entry.part d × Agrees part d → IsTrue false) → FindsAlike part cell all rest
skip-along part cell all one rest entry alike e apart d h =
    alike d h ∙ ap (λ l. lookup (bytes_eq (cell ∷ [])) (met_at d l)) e ∙ skip-one part cell entry rest (λ x. let f : false ≡ true = apart x in cc) d h

pub named-found : (part : List (Option Side)) (all met : List Met) (entry : Met) (here path : List ℕ) (cell : ℕ) → FindsAlike part cell all met → IsFirstMet part cell met → Some entry ≡ slice_get met 0 → ((both : List Side) → Agrees entry.part both → Agrees part both → Holds part entry.part) → path ≡ entry.path → IsNamedTree part all here cell (Leaf (Named path))
named-found part all [] entry here path cell alike at e holds is = cc
named-found part all (own ∷ rest) entry here path cell alike at e holds is =
    let same : entry ≡ own = cc in
    let there = rw (← same) at at in
    rw is (names-alike part cell all (own ∷ rest) here _ alike (named-first part (own ∷ rest) entry rest here cell (ap (λ x. x ∷ rest) (sym same)) there.0 (holds there.1 there.2 there.3)))

pub named-joined : (part one other : List (Option Side)) (all met : List Met) (here : List ℕ) (cell dim : ℕ) (left right tree : Diagram) → FindsAlike part cell all met → slice_get part dim ≡ Some None
    → one ≡ slice_set part dim (Some Left) → other ≡ slice_set part dim (Some Right)
    → IsNamedTree one met here cell left → IsNamedTree other met here cell right → tree ≡ joined dim left right → IsNamedTree part all here cell tree
named-joined part one other all met here cell dim left right tree alike e f g l r is =
    rw is (names-alike part cell all met here _ alike (named-either part met here cell dim left right e (rw f at l) (rw g at r)))
