use Rattle.std.specs.Prelude.{◌≡◌, ◌⊎◌, ℕ, ◌<◌, List, Contains, AllPairs, slice_get, Some, map}
use Rattle.std.specs.List.{All}
use Rattle.vt_syntax.specs.declared.core_expr.Core.{Core}
use Rattle.vt_syntax.specs.declared.leaf.Leaf.{Leaf}
use Rattle.vt_syntax.specs.Holes.{core_with_hole}
use Rattle.vt_type.specs.declared.change.ChangeLine.{ChangeLine}
use Rattle.vt_type.specs.Plain.{plain_nodes}
use Rattle.vt_type.specs.Canonical.{IsCanonical}
use Rattle.vt_type.specs.Constants.{Constant, pair}
use Rattle.vt_rules.specs.Principal.{IsTyped, PrincipalAt}

-- a program with a leaf replaced by a hole
abbrev pub without : Leaf → Core → Core
without leaf program = core_with_hole leaf.node program

-- a leaf cures where the program has a type once a hole stands for the leaf
abbrev pub Cures : List Constant → Core → Leaf → Type 0
Cures K program leaf = IsTyped K (without leaf program)

-- The change line of a leaf: its class, the type that the leaf is wanted to have, and the type that the
-- program then has. The two are the canonical principal pair of the hole that stands for the leaf.
pub record IsChangeOf (K : List Constant) (program : Core) (leaf : Leaf) (line : ChangeLine) : Type 0 where
  pub class_is : line.class ≡ leaf.class
  pub principal : PrincipalAt K leaf.node (without leaf program) line.wanted line.result
  pub canonical : IsCanonical (pair line.wanted line.result)

-- a smaller class first, then fewer nodes of the wanted type, then the earlier leaf
abbrev pub ComesBefore : ChangeLine → ChangeLine → Type 0
ComesBefore one other =
    (one.class < other.class)
    ⊎ ((one.class ≡ other.class)
    × ((plain_nodes one.wanted < plain_nodes other.wanted)
    ⊎ ((plain_nodes one.wanted ≡ plain_nodes other.wanted) × (one.leaf < other.leaf))))

-- The changes of a program without choices, by its leaves: the change lines of exactly the leaves that
-- cure, in order. No line comes before itself, so none stands twice.
pub record IsChanges (K : List Constant) (program : Core) (leaves : List Leaf) (lines : List ChangeLine) : Type 0 where
  pub lines_are : All (λ line. (leaf : Leaf) × (slice_get leaves line.leaf ≡ Some leaf) × IsChangeOf K program leaf line) lines
  pub complete : (number : ℕ) (leaf : Leaf) → slice_get leaves number ≡ Some leaf → Cures K program leaf → Contains (map (λ line. line.leaf) lines) number
  pub in_order : AllPairs ComesBefore lines
