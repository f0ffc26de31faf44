use Rattle.std.proofs.Common.{◌≡◌, ◌↔◌, ℕ, ◌<◌, ◌≤◌, List, length, Option, Some, None, get_or, slice_get, sym, ap, subst, ◌∙◌, arith}
use Rattle.std.proofs.lemmas.Option.{slice_get_past, slice_get-get_or}
use Rattle.vt_dec.specs.declared.side.Side.{Side}
use Rattle.vt_dec.specs.declared.side.Space.TheVariants as space
use Rattle.vt_type.specs.declared.plain.Plain.{Plain}
use Rattle.vt_type.specs.declared.vtype.VType.{VType}
use Rattle.vt_type.specs.Constants.{Constant, core_constants}
use Rattle.vt_type.specs.NormalForm.{Total, IsNormalFormOf}
use Rattle.vt_syntax.specs.declared.core_expr.Form.{Form, Literal, Name, Const, Hole}
use Rattle.vt_syntax.specs.declared.core_program.CoreProgram.{CoreProgram}
use Rattle.vt_syntax.specs.CoreTrees.{fun_of, app_of, let_of, let_rec_of, choice_of}
use Rattle.vt_syntax.specs.Programs.{whole}
use Rattle.vt_syntax.specs.Scoping.{HasDims, IsClosed}
use Rattle.vt_store.specs.Patterns.{fate_at}
use Rattle.vt_scheme.specs.declared.scheme.Scheme.{Scheme}
use Rattle.vt_rules.specs.Meaning.{MeansPlainly, Means, PartMeans, prefix, ending_at}
use Rattle.vt_infer.specs.declared.typed.Typed.{Typed}
use Rattle.vt_infer.specs.Inferred.{IsInferred, IsPartAt, chosen}
use Rattle.vt_norm.specs.ReadOut.{reads}
use Rattle.vt_norm.proofs.Congruence.{for_same_outcomes}
use Rattle.vt_show.specs.Conditions.{DimsBelow}
use Rattle.vt_file.specs.Files.{IsTypable}
use Rattle.vt_top.specs.declared.typing.TypeFault.{TypeFault}
use Rattle.vt_top.specs.declared.typing.TypeFault.TheVariants.{TooBig, Memory}
use Rattle.vt_top.specs.Parts.{IsFitting}
use Rattle.vt_top.specs.Steps.{IsTypeFault, IsPartFault, IsPartType, IsMainType}
use Rattle.vt_top.proofs.NamedDimensions.{meaning_below}

-- What inference finds out of a part is what the part means.

-- at a decision
part_agrees : (K : List Constant) (core : CoreProgram) (part : ℕ) (decision : List Side) (scheme : Scheme 1) (mark : ℕ) (typed : Typed 1)
    → IsPartAt K core part decision scheme mark (fate_at typed.pattern decision)
    → (outcome : Option Plain) → reads scheme.cells typed.pattern scheme.root mark decision outcome ↔ MeansPlainly K (chosen decision (prefix core part)) outcome
part_agrees K core part decision scheme mark typed at (Some type) =
    (λ h. (at.reads h.0 type).0 h.1, λ h. let shown = at.shown.1 (type, h.0.typed) in (shown, (at.reads shown type).1 h))
part_agrees K core part decision scheme mark typed at None = (λ h has. h (at.shown.1 has), λ h shown. h (at.shown.0 shown))

module _ (core : CoreProgram) (typed : Typed 1) (is : IsInferred 1 core_constants core space.All typed) (part : ℕ) (scheme : Scheme 1) (mark : ℕ)
    (e : slice_get typed.schemes part ≡ Some scheme) (f : slice_get typed.marks part ≡ Some mark) where
  pub part_normal : (type : VType) → IsNormalFormOf type (reads scheme.cells typed.pattern scheme.root mark) → IsNormalFormOf type (PartMeans core_constants core part)
  part_normal type normal =
      for_same_outcomes type (reads scheme.cells typed.pattern scheme.root mark) (PartMeans core_constants core part) Total
      (λ decision outcome total. part_agrees core_constants core part decision scheme mark typed
      (is.parts part scheme mark decision e f (record { sized = total; inside = tt })) outcome)
      normal

-- what was read at a place of a list
pub taken : {A : Type 0} (xs ys : List A) (i : ℕ) (x : A) → x ≡ get_or ys i x → ys ≡ xs → i < length xs → slice_get xs i ≡ Some x
taken xs ys i x e same below = subst (λ zs. i < length zs → slice_get zs i ≡ Some x) same (λ less. slice_get-get_or ys i x less ∙ ap Some (sym e)) below

-- more dimensions may stand in a form than do
more_dims : (count more : ℕ) → count ≤ more → (f : Form) → HasDims count f → HasDims more f
more_dims count more up (Literal literal) h = tt
more_dims count more up (Name distance) h = tt
more_dims count more up (Const id) h = tt
more_dims count more up Hole h = tt
more_dims count more up (fun_of n at body) h = more_dims count more up body h
more_dims count more up (app_of n at function m by argument) h = (more_dims count more up function h.0, more_dims count more up argument h.1)
more_dims count more up (let_of n at bound m by body) h = (more_dims count more up bound h.0, more_dims count more up body h.1)
more_dims count more up (let_rec_of name name_at n at bound m by body) h = (more_dims count more up bound h.0, more_dims count more up body h.1)
more_dims count more up (choice_of dim n at left m by right) h =
    let dim_below = h.0 in
    (omega arith, more_dims count more up left h.1, more_dims count more up right h.2)

pub closed_in_all : (core : CoreProgram) (dims : ℕ) → IsTypable core dims → IsClosed (length core_constants) 64 core
closed_in_all core dims is = record {
  names = is.closed.names;
  constants_are = is.closed.constants_are;
  dims_are = more_dims dims 64 is.few (whole core).form is.closed.dims_are;
}

-- what faults a part, where all parts before it are fitting, faults the program
pub fault_at : (core : CoreProgram) (part : ℕ) (fault : TypeFault) → part ≤ length core.defs → ((other : ℕ) → other < part → IsFitting core other) → IsPartFault core part fault → IsTypeFault core fault
fault_at core part (TooBig name) within earlier h = (part, record { within = within; earlier = earlier; too_big = h.0 }, h.1)
fault_at core part Memory within earlier h = tt

pub fitting : (core : CoreProgram) (part : ℕ) (type : VType) → IsPartType core part type → IsFitting core part
fitting core part type is = record { type = type; normal = is.normal; small = is.small }

-- the last part is the program
last_means : (core : CoreProgram) (type : VType) → IsNormalFormOf type (PartMeans core_constants core (length core.defs)) → IsNormalFormOf type (Means core_constants core)
last_means core type normal =
    subst (λ o. IsNormalFormOf type (Means core_constants (ending_at core (length core.defs) o))) (slice_get_past core.defs (length core.defs) (omega arith)) normal

pub main_is : (core : CoreProgram) (type : VType) → ((part : ℕ) → part < length core.defs → IsFitting core part) → IsPartType core (length core.defs) type → IsMainType core type
main_is core type parts is = record { parts = parts; normal = last_means core type is.normal; small = is.small }

pub main_dims : (core : CoreProgram) (dims : ℕ) (type : VType) → IsTypable core dims → IsMainType core type → DimsBelow dims type
main_dims core dims type typable is = meaning_below core_constants core dims type Total typable.closed.dims_are is.normal
