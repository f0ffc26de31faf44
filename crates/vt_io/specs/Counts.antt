use Rattle.std.specs.Prelude.{◌≡◌, ℕ, ◌+◌, ◌-◌, ◌^◌, ◌≤◌, min, Option, IfSome, IsSomeAnd}

-- A count of failures rose: it is larger than before, or stands at the last value of a counter.
abbrev pub Rose : ℕ → ℕ → Type 0
Rose before now = min (before + 1) (2 ^ 64 - 1) ≤ now

-- A count that is told now was told before, and is one more.
abbrev pub Advances : Option ℕ → Option ℕ → Type 0
Advances before now = IfSome now (λ n. IsSomeAnd before (λ m. n ≡ m + 1))
