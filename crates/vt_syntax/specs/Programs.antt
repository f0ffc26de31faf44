use Rattle.std.specs.Prelude.{ℕ, ◌+◌, Bool, true, false, List, [], ◌∷◌, sum, map}
use Rattle.vt_syntax.specs.declared.program.Program.{Program}
use Rattle.vt_syntax.specs.declared.core_expr.Core.{Core}
use Rattle.vt_syntax.specs.declared.core_expr.Form.{Form}
use Rattle.vt_syntax.specs.declared.core_program.CoreDef.{CoreDef}
use Rattle.vt_syntax.specs.declared.core_program.CoreProgram.{CoreProgram}
use Rattle.vt_syntax.specs.SurfaceTrees.{core_nodes}
use Rattle.vt_syntax.specs.CoreTrees.{core, let_form, let_rec_form}

-- The definitions of a file are nested lets.

-- the form that binds the name of a definition in what follows
abbrev pub binding : CoreDef → Bool → Core → Form
binding def false body = let_form def.body body
binding def true body = let_rec_form def.name def.name_span def.body body

-- definitions and then an expression, as one expression
abbrev pub nested : List CoreDef → Core → Core
nested [] main = main
nested (def ∷ defs) main = core def.node def.name_span (binding def def.recursive (nested defs main))

-- a whole program of the core, as one expression
abbrev pub whole : CoreProgram → Core
whole program = nested program.defs program.main

-- how many nodes the core of a program has
abbrev pub program_nodes : Program → ℕ
program_nodes program = sum (map (λ def. 1 + core_nodes def.body.form) program.defs) + core_nodes program.main.form
