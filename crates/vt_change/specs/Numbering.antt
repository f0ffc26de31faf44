use Rattle.std.specs.Prelude.{◌≡◌, ℕ, List, map}
use Rattle.vt_syntax.specs.declared.leaf.Leaf.{Leaf}
use Rattle.vt_syntax.specs.Leaves.{HaveDifferentNumbers}

-- The numbers of leaves, which are different.
pub record IsNumbering (leaves : List Leaf) (numbers : List ℕ) : Type 0 where
  pub different : HaveDifferentNumbers leaves
  pub are : numbers ≡ map (λ one. one.node) leaves
