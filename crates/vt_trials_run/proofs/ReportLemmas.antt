use Rattle.std.proofs.Common.{◌≡◌, ℕ, List, [], ◌∷◌, length, None, slice_get, refl}
use Rattle.std.specs.List.{All}
use Rattle.std.proofs.lemmas.Option.{slice_get_within}
use Rattle.vt_syntax.specs.declared.core_expr.Core.{Core}
use Rattle.vt_syntax.specs.declared.leaf.Leaf.{Leaf}
use Rattle.vt_type.specs.declared.change.ChangeLine.{ChangeLine}
use Rattle.vt_type.specs.Constants.{Constant}
use Rattle.vt_rules.specs.Changes.{IsChanges}
use Rattle.vt_change.specs.Curing.{AreFormed}
use Rattle.vt_report.specs.Reports.{IsChangeAmong}

-- The changes of a program are among its leaves.

pub empty_of : {X : Type 0} (xs : List X) → slice_get xs 0 ≡ None → xs ≡ []
empty_of [] none = refl
empty_of (x ∷ xs) none = cc

pub among : (K : List Constant) (program : Core) (leaves : List Leaf) (lines : List ChangeLine) → IsChanges K program leaves lines → All AreFormed lines → All (IsChangeAmong (length leaves)) lines
among K program leaves lines h formed i d within =
    let (leaf, is, _) = h.lines_are i d within in
    record { numbered = slice_get_within leaves _ leaf is; wanted = (formed i d within).0; result = (formed i d within).1 }
