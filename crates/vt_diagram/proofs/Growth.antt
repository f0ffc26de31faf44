use Rattle.std.proofs.Common.{◌≡◌, ℕ, zero, suc, ◌<◌, List, length, slice_get, Option, Some, None, refl, ap, ◌∙◌, arith}
use Rattle.vt_diagram.specs.declared.entry.Entry.{Entry}
use Rattle.vt_diagram.specs.declared.entry.Entry.TheVariants.{Leaf, Choice}
use Rattle.vt_diagram.specs.Tables.{Grows, tree_of, tree_by, tree_at}
use Rattle.vt_diagram.specs.Trees.{Tree, Fork}

-- What the diagram of a number rests on: the two lemmas below, and nothing else opens `tree_at`.

-- an entry names earlier numbers
abbrev pub IsLater : ℕ → Entry → Type 0
IsLater id (Leaf value) = Unit {0}
IsLater id (Choice dim left right) = (left < id) × (right < id)

abbrev pub AreLater : List Entry → Type 0
AreLater entries = (id : ℕ) (entry : Entry) → slice_get entries id ≡ Some entry → IsLater id entry

-- an entry has one diagram by trees that are the same for earlier numbers
tree_of-same : (one other : ℕ → Tree) (id : ℕ) (found : Option Entry) → ((entry : Entry) → found ≡ Some entry → IsLater id entry)
    → ((own : ℕ) → own < id → one own ≡ other own) → tree_of one found ≡ tree_of other found
tree_of-same one other id None later same = refl
tree_of-same one other id (Some (Leaf value)) later same = refl
tree_of-same one other id (Some (Choice dim left right)) later same =
    let below : (left < id) × (right < id) = later (Choice dim left right) refl in
    λ i. Fork dim (same left below.0 i) (same right below.1 i)

module _ (entries : List Entry) (later : AreLater entries) where
  -- a greater number of steps changes nothing
  tree_by-steps : (most other id : ℕ) → id < most → id < other → tree_by entries most id ≡ tree_by entries other id
  tree_by-steps zero other id a b = absurd (omega arith)
  tree_by-steps (suc most) zero id a b = absurd (omega arith)
  tree_by-steps (suc most) (suc other) id a b =
      tree_of-same (tree_by entries most) (tree_by entries other) id (slice_get entries id) (later id)
      (λ own below. tree_by-steps most other own (omega arith) (omega arith))

  -- the diagram of a number is that of its entry
  pub tree_at-is : (id : ℕ) → tree_at entries id ≡ tree_of (tree_at entries) (slice_get entries id)
  unfolding tree_at
  tree_at-is id =
      tree_of-same (tree_by entries id) (λ own. tree_by entries (suc own) own) id (slice_get entries id) (later id)
      (λ own below. tree_by-steps id (suc own) own below (omega arith))

-- what stands under a number stays
abbrev pub Keeps : List Entry → List Entry → Type 0
Keeps old new = (id : ℕ) → id < length old → slice_get new id ≡ slice_get old id

module _ (old new : List Entry) (later : AreLater old) (keeps : Keeps old new) where
  tree_by-kept : (most id : ℕ) → id < length old → tree_by new most id ≡ tree_by old most id
  tree_by-kept zero id within = refl
  tree_by-kept (suc most) id within =
      ap (tree_of (tree_by new most)) (keeps id within)
      ∙ tree_of-same (tree_by new most) (tree_by old most) id (slice_get old id) (later id) (λ own below. tree_by-kept most own (omega arith))

  pub tree_at-kept : (id : ℕ) → id < length old → tree_at new id ≡ tree_at old id
  unfolding tree_at
  tree_at-kept id within = tree_by-kept (suc id) id within

pub grows_on : (one two three : List Entry) → Grows one two → Grows two three → Grows one three
grows_on one two three a b = record {
  more = omega (arith, a.more, b.more);
  kept = λ id within. b.kept id (omega (arith, a.more)) ∙ a.kept id within;
}
