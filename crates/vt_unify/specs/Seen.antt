use Rattle.std.specs.Prelude.{◌≡◌, ℕ, true, Option}
use Rattle.std.specs.Option.{option_cmp}
use Rattle.std.specs.Ordering.{nat_cmp, ordering_then}
use Rattle.std.specs.declared.cmp.Ordering.{Ordering}
use Rattle.std.specs.BTreeSet.{contains}
use Rattle.vt_unify.specs.declared.pairs.Pair.{Pair}
use Rattle.vt_unify.specs.declared.seen.Seen.{Seen}

-- the place of a context, and two cells
abbrev pub Key : Type 0
Key = Option ℕ × (ℕ × ℕ)

abbrev pub key_of : Pair → Key
key_of pair = (pair.context, (pair.left, pair.right))

abbrev pub cells_cmp : ℕ × ℕ → ℕ × ℕ → Ordering
cells_cmp one other = ordering_then (nat_cmp one.0 other.0) (nat_cmp one.1 other.1)

abbrev pub key_cmp : Key → Key → Ordering
key_cmp one other = ordering_then (option_cmp nat_cmp one.0 other.0) (cells_cmp one.1 other.1)

-- the pair is one of those
abbrev pub Remembers : Seen → Pair → Type 0
Remembers seen pair = contains key_cmp seen.keys (key_of pair) ≡ true
