use Rattle.std.specs.Prelude.{◌≡◌, ℕ, ◌<◌, ◌≤◌, List, length, Option, IfSome}
use Rattle.vt_io.specs.declared.files.Fetched.{Fetched}
use Rattle.vt_io.specs.declared.files.Fetched.TheVariants.{Whole, TooLong}

-- What a fetch with this limit may find of these bytes. Where they are not told, it is still never
-- more than the limit.
abbrev pub IsFetched : Option (List ℕ) → ℕ → Fetched → Type 0
IsFetched held limit (Whole bytes) = (length bytes ≤ limit) × IfSome held (λ all. bytes ≡ all)
IsFetched held limit TooLong = IfSome held (λ all. limit < length all)
