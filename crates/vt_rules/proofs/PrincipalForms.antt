use Rattle.std.proofs.Common.{◌≡◌, ℕ, List, Option, Some, None, refl, sym, ap, ◌∙◌}
use Rattle.vt_syntax.specs.declared.core_expr.Core.{Core}
use Rattle.vt_type.specs.declared.plain.Plain.{Plain}
use Rattle.vt_type.specs.Canonical.{canonical}
use Rattle.vt_type.specs.Constants.{Constant, pair}
use Rattle.vt_type.proofs.Renaming.{canonical-renaming}
use Rattle.vt_rules.specs.Meaning.{MeansPlainly}
use Rattle.vt_rules.specs.Principal.{Principal, PrincipalAt}

-- Principal types, and principal pairs, have one canonical form.

pub one_principal : (K : List Constant) (program : Core) (one other : Plain) → Principal K program one → Principal K program other → canonical one ≡ canonical other
one_principal K program one other f g = canonical-renaming one other (g.general one f.typed, f.general other g.typed)

pub one_principal_pair : (K : List Constant) (mark : ℕ) (program : Core) (one two other another : Plain)
    → PrincipalAt K mark program one two → PrincipalAt K mark program other another → canonical (pair one two) ≡ canonical (pair other another)
one_principal_pair K mark program one two other another f g =
    canonical-renaming (pair one two) (pair other another) (g.general one two f.typed, f.general other another g.typed)

-- A program means one thing.
pub one_meaning : (K : List Constant) (program : Core) (one other : Option Plain) → MeansPlainly K program one → MeansPlainly K program other → one ≡ other
one_meaning K program None None m k = refl
one_meaning K program None (Some other) m k = absurd (m (other, k.0.typed))
one_meaning K program (Some one) None m k = absurd (k (one, m.0.typed))
one_meaning K program (Some one) (Some other) m k = ap Some (sym m.1 ∙ one_principal K program one other m.0 k.0 ∙ k.1)
