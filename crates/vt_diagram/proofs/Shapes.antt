use Rattle.std.proofs.Common.{◌≡◌, ℕ, ◌+◌, ◌<◌, ◌≤◌, List, length, slice_get, ap, sym, ◌∙◌, arith}
use Rattle.vt_diagram.specs.declared.entry.Entry.{Entry}
use Rattle.vt_diagram.specs.Tables.{value_at, tree_at, IsJoined}
use Rattle.vt_diagram.specs.Trees.{Tree, Tip, Fork, IsOrdered, by_side}
use Rattle.vt_diagram.proofs.Sides.{by_side-same}

-- A choice between two diagrams of a table.

pub IsOrdered-earlier : (bound late early : ℕ) (tree : Tree) → early ≤ late → IsOrdered bound late tree → IsOrdered bound early tree
IsOrdered-earlier bound late early (Tip value) le ordered = tt
IsOrdered-earlier bound late early (Fork dim left right) le ordered = (omega (arith, ordered.0), ordered.1, ordered.2, ordered.3)

pub joined-same : (bound : ℕ) (entries : List Entry) (dim left right : ℕ) → left ≡ right → left < length entries → IsOrdered bound (dim + 1) (tree_at entries left) → IsJoined bound entries dim left right left
joined-same bound entries dim left right same within ordered = record {
  within = within;
  at_each = λ decision. sym (ap (λ own. by_side (slice_get decision dim) (value_at entries left decision) (value_at entries own decision)) (sym same) ∙ by_side-same (slice_get decision dim) (value_at entries left decision));
  ordered = λ from le. IsOrdered-earlier bound (dim + 1) from (tree_at entries left) (omega arith) ordered;
}
