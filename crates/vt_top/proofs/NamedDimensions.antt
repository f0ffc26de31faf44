use Rattle.std.proofs.Common.{◌≡◌, ℕ, zero, suc, ◌+◌, ◌<◌, ◌≤◌, List, [], ◌∷◌, map, Bool, true, false, Option, slice_get, slice_set, refl, sym, ap, subst, ◌∙◌, arith}
use Rattle.vt_dec.specs.declared.side.Side.{Side}
use Rattle.vt_dec.specs.declared.side.Side.TheVariants.{Left, Right}
use Rattle.vt_lex.specs.declared.span.Span.{Span}
use Rattle.vt_type.specs.declared.plain.Plain.{Plain}
use Rattle.vt_type.specs.declared.vtype.VType.{VType, Var, Con, Err}
use Rattle.vt_type.specs.declared.vtype.VKids.{VKids, Nil}
use Rattle.vt_type.specs.Constants.{Constant}
use Rattle.vt_type.specs.Variational.{vkids_of, choice}
use Rattle.vt_type.specs.NormalForm.{Map, Decisions, Taking, root, DependsOn, Kid, IsNormalForm, AreNormalForms}
use Rattle.vt_syntax.specs.declared.core_expr.Core.{Core}
use Rattle.vt_syntax.specs.declared.core_expr.Form.{Form, Literal, Name, Const, Hole}
use Rattle.vt_syntax.specs.declared.core_program.CoreDef.{CoreDef}
use Rattle.vt_syntax.specs.declared.core_program.CoreProgram.{CoreProgram}
use Rattle.vt_syntax.specs.CoreTrees.{fun_of, app_of, let_of, let_rec_of, choice_of, core, fun_form, app_form, let_form, let_rec_form, choice_form}
use Rattle.vt_syntax.specs.Programs.{binding, nested, whole}
use Rattle.vt_syntax.specs.Scoping.{HasDims}
use Rattle.vt_syntax.specs.Selection.{chosen, selected_form, selected_core, selected_core_def, selected_core_program}
use Rattle.vt_rules.specs.Meaning.{MeansPlainly, Means}
use Rattle.vt_rules.proofs.PrincipalForms.{one_meaning}
use Rattle.vt_norm.specs.Laws.{IsSingleValued}
use Rattle.vt_norm.proofs.Roots.{kid_is_single}
use Rattle.vt_show.specs.Conditions.{DimsBelow, KidsDimsBelow}

-- Each dimension of the normal form of what a program means is one of the program.

-- the outcomes hang on no dimension from this one on
abbrev pub Ignores : ℕ → Map → Type 0
Ignores count map =
    (decision : List Side) (dim : ℕ) (side : Side) (outcome : Option Plain)
    → count ≤ dim → map decision outcome → map (slice_set decision dim side) outcome

kid_ignores : (count : ℕ) (map : Map) → Ignores count map → (n : ℕ) → Ignores count (Kid map n)
kid_ignores count map same n decision dim side outcome above h = (h.0, h.1, h.2, same decision dim side _ above h.3, h.4, h.5)

depends_below : (count : ℕ) (map : Map) (set : Decisions) → IsSingleValued map → Ignores count map → (dim : ℕ) → DependsOn map set dim → dim < count
depends_below count map set single same dim d =
    let no : count ≤ dim → ⊥ = λ above.
    d.8 (sym d.6.2 ∙ ap root (single _ _ _ (same d.0 dim Right _ above d.6.1) d.7.1) ∙ d.7.2) in
    omega arith

mutual
  pub dims_below : (count : ℕ) (type : VType) (map : Map) (set : Decisions) → IsSingleValued map → Ignores count map → IsNormalForm type map set → DimsBelow count type
  dims_below count (Var name) map set single same h = tt
  dims_below count (Con top kids) map set single same h = kids_below count kids 0 map set single same h.1
  dims_below count (choice dim left right) map set single same h =
      (depends_below count map set single same dim h.0.0, dims_below count left map (Taking set dim Left) single same h.1, dims_below count right map (Taking set dim Right) single same h.2)
  dims_below count Err map set single same h = tt

  kids_below : (count : ℕ) (kids : VKids) (n : ℕ) (map : Map) (set : Decisions) → IsSingleValued map → Ignores count map → AreNormalForms kids n map set → KidsDimsBelow count kids
  kids_below count Nil n map set single same h = tt
  kids_below count (vkids_of kid kids) n map set single same h =
      (dims_below count kid (Kid map n) set (kid_is_single map single n) (kid_ignores count map same n) h.0, kids_below count kids (n + 1) map set single same h.1)

-- two ways to take sides, which agree below a number
module _ (count : ℕ) (one other : ℕ → Option Side) (agree : (dim : ℕ) → dim < count → one dim ≡ other dim) where
  same_form : (n : ℕ) (at : Span) (f : Form) → HasDims count f → selected_form one n at f ≡ selected_form other n at f
  same_form n at (Literal literal) h = refl
  same_form n at (Name distance) h = refl
  same_form n at (Const id) h = refl
  same_form n at Hole h = refl
  same_form n at (fun_of m by body) h = ap (λ b. core n at (fun_form b)) (same_form m by body h)
  same_form n at (app_of m by function k to argument) h = λ i. core n at (app_form (same_form m by function h.0 i) (same_form k to argument h.1 i))
  same_form n at (let_of m by bound k to body) h = λ i. core n at (let_form (same_form m by bound h.0 i) (same_form k to body h.1 i))
  same_form n at (let_rec_of name name_at m by bound k to body) h = λ i. core n at (let_rec_form name name_at (same_form m by bound h.0 i) (same_form k to body h.1 i))
  same_form n at (choice_of dim m by left k to right) h =
      λ i. chosen (agree dim h.0 i) (same_form m by left h.1 i) (same_form k to right h.2 i) (core n at (choice_form dim (same_form m by left h.1 i) (same_form k to right h.2 i)))

  same_core : (c : Core) → HasDims count c.form → selected_core one c ≡ selected_core other c
  same_core c h = same_form c.node c.span c.form h

  -- a definition and what follows
  parts_of : (def : CoreDef) (recursive : Bool) (rest : Core) → HasDims count (binding def recursive rest) → HasDims count def.body.form × HasDims count rest.form
  parts_of def true rest h = h
  parts_of def false rest h = h

  same_binding : (def : CoreDef) (recursive : Bool) (rest more : Core) → HasDims count def.body.form → rest ≡ more
      → binding (selected_core_def one def) recursive rest ≡ binding (selected_core_def other def) recursive more
  same_binding def true rest more h e = λ i. let_rec_form def.name def.name_span (same_core def.body h i) (e i)
  same_binding def false rest more h e = λ i. let_form (same_core def.body h i) (e i)

  same_nested : (defs : List CoreDef) (main : Core) → HasDims count (nested defs main).form
      → nested (map (selected_core_def one) defs) (selected_core one main) ≡ nested (map (selected_core_def other) defs) (selected_core other main)
  same_nested [] main h = same_core main h
  same_nested (def ∷ defs) main h =
      let parts = parts_of def def.recursive (nested defs main) h in
      ap (core def.node def.name_span) (same_binding def def.recursive _ _ parts.0 (same_nested defs main parts.1))

  pub same_program : (program : CoreProgram) → HasDims count (whole program).form → whole (selected_core_program one program) ≡ whole (selected_core_program other program)
  same_program program h = same_nested program.defs program.main h

-- a side that is set is no other's
get-set_other : (decision : List Side) (dim other : ℕ) (side : Side) → other < dim → slice_get (slice_set decision dim side) other ≡ slice_get decision other
get-set_other [] dim other side below = refl
get-set_other (first ∷ decision) zero other side below = absurd (omega arith)
get-set_other (first ∷ decision) (suc dim) zero side below = refl
get-set_other (first ∷ decision) (suc dim) (suc other) side below = get-set_other decision dim other side (omega arith)

pub means_ignores : (K : List Constant) (program : CoreProgram) (count : ℕ) → HasDims count (whole program).form → Ignores count (Means K program)
means_ignores K program count h decision dim side outcome above m =
    let agree : (other : ℕ) → other < count → slice_get decision other ≡ slice_get (slice_set decision dim side) other =
    λ other below. sym (get-set_other decision dim other side (omega arith)) in
    subst (λ c. MeansPlainly K c outcome) (same_program count (slice_get decision) (slice_get (slice_set decision dim side)) agree program h) m

pub means_single : (K : List Constant) (program : CoreProgram) → IsSingleValued (Means K program)
means_single K program decision one other m k = one_meaning K _ one other m k

-- Each dimension of a normal form of what a program means is one of its dimensions.
pub meaning_below : (K : List Constant) (program : CoreProgram) (count : ℕ) (type : VType) (set : Decisions)
    → HasDims count (whole program).form → IsNormalForm type (Means K program) set → DimsBelow count type
meaning_below K program count type set h normal = dims_below count type (Means K program) set (means_single K program) (means_ignores K program count h) normal
