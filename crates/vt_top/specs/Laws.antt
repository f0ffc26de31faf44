use Rattle.std.specs.Prelude.{◌≡◌, ℕ, List}
use Rattle.vt_top.specs.declared.status.Status.{Status}
use Rattle.vt_top.specs.Answers.{FileAnswer}

-- A file has no two defined answers. So each of them comes exactly where its definition says.
abbrev pub HasOneFileAnswer : Type 0
HasOneFileAnswer = (bytes : List ℕ) (one other : Status) (text more : List ℕ)
    → FileAnswer bytes one text → FileAnswer bytes other more → (one ≡ other) × (text ≡ more)
