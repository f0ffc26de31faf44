use Rattle.std.proofs.Common.{◌≡◌, ℕ, Bool, true, false, List, [], ◌∷◌, map, refl, ap, ◌∙◌}
use Rattle.vt_syntax.specs.declared.core_expr.Core.{Core}
use Rattle.vt_syntax.specs.declared.core_program.CoreDef.{CoreDef}
use Rattle.vt_syntax.specs.declared.core_program.CoreProgram.{CoreProgram}
use Rattle.vt_syntax.specs.declared.leaf.Leaf.{Leaf}
use Rattle.vt_syntax.specs.CoreTrees.{core}
use Rattle.vt_syntax.specs.Programs.{binding, nested, whole}
use Rattle.vt_syntax.specs.Holes.{core_with_hole, def_with_hole, program_with_hole}
use Rattle.vt_syntax.specs.Varying.{core_varied, def_varied, program_varied}

-- A change of leaves, made in each definition, is made in the whole program.

module _ (leaf : ℕ) where
  bound-hole : (def : CoreDef) (recursive : Bool) (rest : Core)
      → core def.node def.name_span (binding (def_with_hole leaf def) recursive (core_with_hole leaf rest)) ≡ core_with_hole leaf (core def.node def.name_span (binding def recursive rest))
  bound-hole def true rest = refl
  bound-hole def false rest = refl

  nested-hole : (defs : List CoreDef) (main : Core) → nested (map (def_with_hole leaf) defs) (core_with_hole leaf main) ≡ core_with_hole leaf (nested defs main)
  nested-hole [] main = refl
  nested-hole (def ∷ defs) main =
      ap (λ rest. core def.node def.name_span (binding (def_with_hole leaf def) def.recursive rest)) (nested-hole defs main)
      ∙ bound-hole def def.recursive (nested defs main)

  pub whole-hole : (program : CoreProgram) → whole (program_with_hole leaf program) ≡ core_with_hole leaf (whole program)
  whole-hole program = nested-hole program.defs program.main

module _ (leaves : List Leaf) where
  bound-varied : (def : CoreDef) (recursive : Bool) (rest : Core)
      → core def.node def.name_span (binding (def_varied leaves def) recursive (core_varied leaves rest)) ≡ core_varied leaves (core def.node def.name_span (binding def recursive rest))
  bound-varied def true rest = refl
  bound-varied def false rest = refl

  nested-varied : (defs : List CoreDef) (main : Core) → nested (map (def_varied leaves) defs) (core_varied leaves main) ≡ core_varied leaves (nested defs main)
  nested-varied [] main = refl
  nested-varied (def ∷ defs) main =
      ap (λ rest. core def.node def.name_span (binding (def_varied leaves def) def.recursive rest)) (nested-varied defs main)
      ∙ bound-varied def def.recursive (nested defs main)

  pub whole-varied : (program : CoreProgram) → whole (program_varied leaves program) ≡ core_varied leaves (whole program)
  whole-varied program = nested-varied program.defs program.main
