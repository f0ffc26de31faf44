use Rattle.std.proofs.Common.{◌≡◌, ℕ, ◌+◌, List, [], ◌++◌, refl, ap, ◌∙◌}
use Rattle.std.proofs.lemmas.List.{append-nil}
use Rattle.vt_type.specs.declared.plain.Plain.{Plain, Var, Con}
use Rattle.vt_type.specs.declared.plain.PlainKids.{PlainKids, Nil}
use Rattle.vt_type.specs.Plain.{kids_of, kid_count, IsWellFormed, AreWellFormed, substituted, kids_substituted}
use Rattle.vt_type.specs.Canonical.{canonical, occurrences, first_of}

-- well-formed images keep a type well formed
module _ (images : List ℕ → Plain) (well_formed : (name : List ℕ) → IsWellFormed (images name)) where
  pub kid_count-substituted : (kids : PlainKids) → kid_count (kids_substituted images kids) ≡ kid_count kids
  kid_count-substituted Nil = refl
  kid_count-substituted (kids_of kid kids) = ap (λ n. 1 + n) (kid_count-substituted kids)

  mutual
    pub substituted-well_formed : (type : Plain) → IsWellFormed type → IsWellFormed (substituted images type)
    substituted-well_formed (Var name) h = well_formed name
    substituted-well_formed (Con top kids) h = (kid_count-substituted kids ∙ h.0, kids_substituted-well_formed kids h.1)

    pub kids_substituted-well_formed : (kids : PlainKids) → AreWellFormed kids → AreWellFormed (kids_substituted images kids)
    kids_substituted-well_formed Nil h = tt
    kids_substituted-well_formed (kids_of kid kids) h = (substituted-well_formed kid h.0, kids_substituted-well_formed kids h.1)

-- a canonical form is well formed
pub canonical-well_formed : (type : Plain) → IsWellFormed type → IsWellFormed (canonical type)
canonical-well_formed type h = substituted-well_formed (first_of (occurrences [] type)) (λ name. tt) type h

-- a type that names each variable by its first place, whatever comes later, is the canonical form
pub is_canonical_form : (type form : Plain) → ((later : List (List ℕ × List ℕ)) → form ≡ substituted (first_of (occurrences [] type ++ later)) type) → form ≡ canonical type
is_canonical_form type form is = is [] ∙ ap (λ places. substituted (first_of places) type) (append-nil (occurrences [] type))
