use Rattle.std.proofs.Common.{◌≡◌, ℕ, ◌<◌, ◌≤◌, inl, inr, List, length, replicate, refl, sym, ap, subst, ◌∙◌, arith}
use Rattle.std.proofs.lemmas.Option.{slice_get_past}
use Rattle.vt_dec.specs.declared.side.Side.{Side}
use Rattle.vt_dec.specs.declared.side.Side.TheVariants.{Left}
use Rattle.vt_type.specs.declared.vtype.VType.{VType}
use Rattle.vt_type.specs.Constants.{core_constants}
use Rattle.vt_type.specs.Variational.{HasError, nodes, most_dimensions}
use Rattle.vt_type.specs.NormalForm.{Total, IsNormalFormOf}
use Rattle.vt_type.specs.Text.{text_of}
use Rattle.vt_syntax.specs.declared.core_program.CoreProgram.{CoreProgram}
use Rattle.vt_scope.specs.Faults.{dims_of}
use Rattle.vt_rules.specs.Meaning.{Means, PartMeans, prefix, ending_at}
use Rattle.vt_norm.proofs.Uniqueness.{unique}
use Rattle.vt_report.specs.declared.refusal.Refusal.{Refusal}
use Rattle.vt_report.specs.declared.refusal.Refusal.TheVariants.{TooBigPart}
use Rattle.vt_report.specs.Lines.{line, refusal_line}
use Rattle.vt_top.specs.declared.status.Status.TheVariants.{Done, Untyped, Usage, Refused, ReadFault, WriteFault, NoMemory}
use Rattle.vt_file.proofs.OneReading.{core_once, one_refusal as one_cause, never_refused}
use Rattle.vt_top.specs.Parts.{most_nodes, IsFitting, IsTooBig, IsFirstTooBig, part_name}
use Rattle.vt_top.specs.Refusals.{IsTooBigToPrint, IsRefused}
use Rattle.vt_top.specs.Answers.{HasTypeText}
use Rattle.vt_top.specs.Laws.{HasOneFileAnswer}
use Rattle.vt_top.proofs.NamedDimensions.{means_single}

-- A file has at most one answer.

-- ---- a part has one normal form

form_once : (core : CoreProgram) (part : ℕ) (one other : VType) → IsNormalFormOf one (PartMeans core_constants core part) → IsNormalFormOf other (PartMeans core_constants core part) → one ≡ other
form_once core part one other h k =
    let total : List Side = replicate most_dimensions Left in
    unique (PartMeans core_constants core part) Total (means_single core_constants (prefix core part)) total refl one other h k

never_both_sizes : (core : CoreProgram) (part : ℕ) → IsFitting core part → IsTooBig core part → ⊥
never_both_sizes core part fits big =
    let e = ap nodes (form_once core part fits.type big.type fits.normal big.normal) in
    let small = fits.small in
    let large = big.large in
    absurd (omega arith)

part_once : (core : CoreProgram) (p q : ℕ) → IsFirstTooBig core p → IsFirstTooBig core q → p ≡ q
part_once core p q h k =
    let one : p < q → ⊥ = λ below. never_both_sizes core p (k.earlier p below) h.too_big in
    let other : q < p → ⊥ = λ below. never_both_sizes core q (h.earlier q below) k.too_big in
    omega arith

-- the last part is the program
main_fits : (core : CoreProgram) (type : VType) → IsNormalFormOf type (Means core_constants core) → nodes type ≤ most_nodes → IsFitting core (length core.defs)
main_fits core type normal small = record {
  type = type;
  normal = subst (λ o. IsNormalFormOf type (Means core_constants (ending_at core (length core.defs) o))) (sym (slice_get_past core.defs (length core.defs) (omega arith))) normal;
  small = small;
}

all_fit : (core : CoreProgram) (type : VType) (part : ℕ) → ((other : ℕ) → other < length core.defs → IsFitting core other)
    → IsNormalFormOf type (Means core_constants core) → nodes type ≤ most_nodes → IsFirstTooBig core part → ⊥
all_fit core type part parts normal small first =
    let inner : part < length core.defs → ⊥ = λ below. never_both_sizes core part (parts part below) first.too_big in
    let within = first.within in
    let last : part ≡ length core.defs = omega arith in
    never_both_sizes core (length core.defs) (main_fits core type normal small) (subst (IsTooBig core) last first.too_big)

-- ---- one refusal

one_too_big : (bytes : List ℕ) (r s : Refusal) → IsTooBigToPrint bytes r → IsTooBigToPrint bytes s → r ≡ s
one_too_big bytes r s h k =
    let cores = (core_once bytes h.program k.program h.core k.core h.resolved k.resolved).1 in
    let part = part_once k.core h.part k.part (subst (λ c. IsFirstTooBig c h.part) cores h.first) k.first in
    h.refusal_is ∙ (λ i. TooBigPart (part_name (cores i) (part i))) ∙ sym k.refusal_is

one_refusal : (bytes : List ℕ) (r s : Refusal) → IsRefused bytes r → IsRefused bytes s → r ≡ s
one_refusal bytes r s (inl h) (inl k) = one_cause bytes r s h k
one_refusal bytes r s (inl h) (inr k) = absurd (never_refused bytes r k.program k.core h k.resolved)
one_refusal bytes r s (inr h) (inl k) = absurd (never_refused bytes s h.program h.core k h.resolved)
one_refusal bytes r s (inr h) (inr k) = one_too_big bytes r s h k

-- a refusal and a printed type
never_typed : (bytes : List ℕ) (r : Refusal) (type : VType) (text : List ℕ) → IsRefused bytes r → HasTypeText bytes type text → ⊥
never_typed bytes r type text (inl h) typed = never_refused bytes r typed.program typed.core h typed.resolved
never_typed bytes r type text (inr h) typed =
    let same = core_once bytes h.program typed.program h.core typed.core h.resolved typed.resolved in
    all_fit typed.core type h.part typed.parts typed.normal typed.small (subst (λ c. IsFirstTooBig c h.part) same.1 h.first)

-- ---- one printed type

type_once : (bytes : List ℕ) (one other : VType) (text more : List ℕ) → HasTypeText bytes one text → HasTypeText bytes other more → (one ≡ other) × (text ≡ more)
type_once bytes one other text more h k =
    let same = core_once bytes h.program k.program h.core k.core h.resolved k.resolved in
    let total : List Side = replicate most_dimensions Left in
    let normal = subst (λ c. IsNormalFormOf one (Means core_constants c)) same.1 h.normal in
    let types = unique (Means core_constants k.core) Total (means_single core_constants k.core) total refl one other normal k.normal in
    (types, h.shown ∙ (λ i. line (text_of (dims_of (same.0 i)) (types i))) ∙ sym k.shown)

-- ---- one answer

pub one_file_answer : HasOneFileAnswer
one_file_answer bytes Done Done text more (one, h, _) (other, k, _) = (refl, (type_once bytes one other text more h k).1)
one_file_answer bytes Done Untyped text more (one, h, never) (other, k, has) = absurd (never (subst HasError (sym (type_once bytes one other text more h k).0) has))
one_file_answer bytes Done Refused text more (one, h, _) (r, k, _) = absurd (never_typed bytes r one text k h)
one_file_answer bytes Untyped Done text more (one, h, has) (other, k, never) = absurd (never (subst HasError (type_once bytes one other text more h k).0 has))
one_file_answer bytes Untyped Untyped text more (one, h, _) (other, k, _) = (refl, (type_once bytes one other text more h k).1)
one_file_answer bytes Untyped Refused text more (one, h, _) (r, k, _) = absurd (never_typed bytes r one text k h)
one_file_answer bytes Refused Done text more (r, h, _) (one, k, _) = absurd (never_typed bytes r one more h k)
one_file_answer bytes Refused Untyped text more (r, h, _) (one, k, _) = absurd (never_typed bytes r one more h k)
one_file_answer bytes Refused Refused text more (r, h, e) (s, k, f) = (refl, e ∙ ap refusal_line (one_refusal bytes r s h k) ∙ sym f)
one_file_answer bytes Done Usage text more h k = absurd k
one_file_answer bytes Done ReadFault text more h k = absurd k
one_file_answer bytes Done WriteFault text more h k = absurd k
one_file_answer bytes Done NoMemory text more h k = absurd k
one_file_answer bytes Untyped Usage text more h k = absurd k
one_file_answer bytes Untyped ReadFault text more h k = absurd k
one_file_answer bytes Untyped WriteFault text more h k = absurd k
one_file_answer bytes Untyped NoMemory text more h k = absurd k
one_file_answer bytes Refused Usage text more h k = absurd k
one_file_answer bytes Refused ReadFault text more h k = absurd k
one_file_answer bytes Refused WriteFault text more h k = absurd k
one_file_answer bytes Refused NoMemory text more h k = absurd k
one_file_answer bytes Usage other text more h k = absurd h
one_file_answer bytes ReadFault other text more h k = absurd h
one_file_answer bytes WriteFault other text more h k = absurd h
one_file_answer bytes NoMemory other text more h k = absurd h
