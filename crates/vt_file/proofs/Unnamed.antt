use Rattle.std.proofs.Common.{◌≡◌, ◌⊎◌, inl, inr, ℕ, ◌<◌, ◌≤◌, List, Option, Some, None, map, slice_get, refl, ap, sym, subst, ◌∙◌, arith}
use Rattle.std.proofs.lemmas.Bool.{cases_eq}
use Rattle.vt_type.specs.Constants.{Constant, core_constants, HasName}
use Rattle.vt_scope.specs.Cores.{NamesNoImplied}

-- The constants that pairs, lists, `if` and `match` stand for have no names.

-- the name of the constant of a number
abbrev name_of : ℕ → Option (Option (List ℕ))
name_of id = slice_get (map (λ (c : Constant). c.name) core_constants) id

unnamed_at : (id at : ℕ) (name : List ℕ) → id ≡ at → name_of at ≡ Some None → name_of id ≡ Some (Some name) → ⊥
unnamed_at id at name same none named =
    let both : Some None ≡ Some (Some name) = sym none ∙ ap name_of (sym same) ∙ named in
    cc

pub core_unnamed : NamesNoImplied core_constants
core_unnamed id name implied named =
    let from = implied.0 in
    let below = implied.1 in
    elim (cases_eq id 13) [
      | inl is ↦ unnamed_at id 13 name is refl named
      | inr not13 ↦ elim (cases_eq id 14) [
        | inl is ↦ unnamed_at id 14 name is refl named
        | inr not14 ↦ elim (cases_eq id 15) [
          | inl is ↦ unnamed_at id 15 name is refl named
          | inr not15 ↦ elim (cases_eq id 16) [
            | inl is ↦ unnamed_at id 16 name is refl named
            | inr not16 ↦ elim (cases_eq id 17) [
              | inl is ↦ unnamed_at id 17 name is refl named
              | inr not17 ↦ absurd (omega (arith, from, below, not13, not14, not15, not16, not17))
            ]
          ]
        ]
      ]
    ]
