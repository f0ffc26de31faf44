use Rattle.std.specs.Prelude.{ℕ, List, Option, None}

-- The real system tells nothing of its bytes. What contracts see of its files, and of its output, is the
-- count of their failures alone.

-- the bytes under a name, which are not told
abbrev pub not_told : ℕ → List ℕ → Option (List ℕ)
not_told count name = None

-- how often a fetch of a name failed: every name has the one count
abbrev pub one_count : ℕ → List ℕ → ℕ
one_count count name = count

-- how many bytes the next put is sure to take, which is not told either
abbrev pub never_sure : ℕ → Option ℕ
never_sure count = None
