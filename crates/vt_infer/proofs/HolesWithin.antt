use Rattle.std.proofs.Common.{inl, inr, ℕ, ◌<◌, ◌≤◌, subst, arith}
use Rattle.vt_syntax.specs.declared.core_expr.Core.{Core}
use Rattle.vt_syntax.specs.declared.core_expr.Form.{Form, Literal, Name, Const, Hole}
use Rattle.vt_syntax.specs.CoreTrees.{fun_of, app_of, let_of, let_rec_of, choice_of}
use Rattle.vt_rules.specs.TypingAt.{HoldsHole}
use Rattle.vt_rules.proofs.InOrder.{AllNodes}
use Rattle.vt_infer.specs.Numbered.{IsNumberedCore}
use Rattle.vt_infer.proofs.NumberLemmas.{numbered-all}

-- A hole that is written in an expression has a number among those of its nodes.

pub holds-all : (P : ℕ → Type 0) (mark node : ℕ) (form : Form) → AllNodes P node form → HoldsHole mark node form → P mark
holds-all P mark node (Literal literal) h holds = absurd holds
holds-all P mark node (Name distance) h holds = absurd holds
holds-all P mark node (Const id) h holds = absurd holds
holds-all P mark node Hole h holds = subst P holds h
holds-all P mark node (fun_of n at body) h holds = holds-all P mark n body h.1 holds
holds-all P mark node (app_of n at function m by argument) h (inl holds) = holds-all P mark n function h.1 holds
holds-all P mark node (app_of n at function m by argument) h (inr holds) = holds-all P mark m argument h.2 holds
holds-all P mark node (let_of n at bound m by body) h (inl holds) = holds-all P mark n bound h.1 holds
holds-all P mark node (let_of n at bound m by body) h (inr holds) = holds-all P mark m body h.2 holds
holds-all P mark node (let_rec_of name name_at n at bound m by body) h (inl holds) = holds-all P mark n bound h.1 holds
holds-all P mark node (let_rec_of name name_at n at bound m by body) h (inr holds) = holds-all P mark m body h.2 holds
holds-all P mark node (choice_of dim n at left m by right) h (inl holds) = holds-all P mark n left h.1 holds
holds-all P mark node (choice_of dim n at left m by right) h (inr holds) = holds-all P mark m right h.2 holds

pub holds-within : (mark first : ℕ) (e : Core) (last : ℕ) → IsNumberedCore first e last → HoldsHole mark e.node e.form → (first ≤ mark) × (mark < last)
holds-within mark first e last numbered = holds-all (λ n. (first ≤ n) × (n < last)) mark e.node e.form (numbered-all first e.node e.form last numbered)

-- it stands in one of two expressions that are numbered apart
pub holds-one : (mark first : ℕ) (one : Core) (middle next : ℕ) (other : Core) (last : ℕ) → middle ≤ next
    → IsNumberedCore first one middle → IsNumberedCore next other last
    → HoldsHole mark one.node one.form → HoldsHole mark other.node other.form → ⊥
holds-one mark first one middle next other last le one_numbered other_numbered here there =
    let (_, less) = holds-within mark first one middle one_numbered here in
    let (more, _) = holds-within mark next other last other_numbered there in
    omega (arith, less, more)
