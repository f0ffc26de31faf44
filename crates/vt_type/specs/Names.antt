use Rattle.std.specs.Prelude.{◌≡◌, ℕ, List, Some, slice_get}

-- No text stands at two numbers of a list.
abbrev pub AreDistinct : List (List ℕ) → Type 0
AreDistinct names = (one other : ℕ) (name : List ℕ) → slice_get names one ≡ Some name → slice_get names other ≡ Some name → one ≡ other
