use Rattle.std.specs.Prelude.{◌≡◌, ◌↔◌}
use Rattle.vt_type.specs.declared.plain.Plain.{Plain}
use Rattle.vt_type.specs.Plain.{IsWellFormed, IsRenaming}
use Rattle.vt_type.specs.Canonical.{canonical, IsCanonical}

-- Two types are equal up to the names of variables exactly where their canonical forms are equal.
abbrev pub RenamingsShareTheirForm : Type 0
RenamingsShareTheirForm = (one other : Plain) → IsWellFormed one → IsWellFormed other → (IsRenaming one other ↔ (canonical one ≡ canonical other))

-- A canonical form is canonical.
abbrev pub FormsAreCanonical : Type 0
FormsAreCanonical = (type : Plain) → IsWellFormed type → IsCanonical (canonical type)
