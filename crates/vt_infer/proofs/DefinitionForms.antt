use Rattle.std.proofs.Common.{◌≡◌, ℕ, suc, ◌≤◌, Bool, true, false, List, ◌∷◌, refl, sym, subst, arith}
use Rattle.vt_dec.specs.declared.fate.Fate.{Fate}
use Rattle.vt_dec.specs.declared.fate.Fate.TheVariants.{Alive, Dead}
use Rattle.vt_syntax.specs.declared.core_expr.Core.{Core}
use Rattle.vt_syntax.specs.declared.core_expr.Form.{Name}
use Rattle.vt_syntax.specs.declared.core_program.CoreDef.{CoreDef}
use Rattle.vt_syntax.specs.CoreTrees.{core}
use Rattle.vt_syntax.specs.Programs.{binding}
use Rattle.vt_type.specs.declared.plain.Plain.{Plain}
use Rattle.vt_type.specs.Plain.{IsWellFormed}
use Rattle.vt_type.specs.Constants.{Constant, IsTable}
use Rattle.vt_rules.specs.Meaning.{own_expression}
use Rattle.vt_infer.specs.Numbered.{IsNumberedCore, AreBefore}
use Rattle.vt_infer.specs.Places.{Place, At, env_at, HaveCells, Gives}
use Rattle.vt_infer.specs.Steps.{Solutions, AreFormed, Adds, Equates, Fails, Steps}
use Rattle.vt_infer.specs.Definitions.{placed, FailsIn, DefinitionSteps}
use Rattle.vt_infer.proofs.GoingOn.{alive_before}
use Rattle.vt_infer.proofs.FormSteps.{let_step, let_rec_step, looped}

-- The step of a definition, from that of its expression.

fails_further : (K : List Constant) (A : Solutions) (places : List Place) (e : Core) (first node last more : ℕ) → last ≤ more → Fails K A places e first node last → Fails K A places e first node more
fails_further K A places e first node last more le fails =
    let below = fails.below in record { from = fails.from; below = omega arith; fails = fails.fails; before = fails.before }

module _ (K : List Constant) (A : Solutions) (places : List Place) (def : CoreDef) (first node : ℕ) where
  -- what a death says, by whether the definition is recursive
  fails_in : (recursive : Bool) → def.recursive ≡ recursive → node ≤ def.node
      → Fails K A places (own_expression def recursive) first node (suc (suc def.node))
      → ((rest : Core) (last : ℕ) → IsNumberedCore (suc def.node) rest last → Fails K A places (core def.node def.name_span (binding def recursive rest)) first node last)
      → FailsIn K A places def first node
  fails_in recursive is within own followed = record {
    within = within;
    own = subst (λ r. Fails K A places (own_expression def r) first node (suc (suc def.node))) (sym is) own;
    followed = λ rest last numbered. subst (λ r. Fails K A places (core def.node def.name_span (binding def r rest)) first node last) (sym is) (followed rest last numbered);
  }

module _ (K : List Constant) (table : IsTable K) (places : List Place) (def : CoreDef) (first : ℕ) (before : AreBefore first places) (body : IsNumberedCore first def.body def.node) where
  -- a definition that is not recursive
  pub plain_definition : def.recursive ≡ false → (n m : ℕ) (A B : Solutions) (result : ℕ) → HaveCells n places → AreFormed n A → AreFormed m B
      → (fate : Fate) → Steps K n m A B result places def.body first def.node fate → DefinitionSteps K n m A B result places def first fate
  plain_definition is n m A B result cells formed formed_after Alive steps =
      subst (λ r. Adds n m A B result (λ s type. Gives K (env_at s places) (placed def r) type)) (sym is) steps
  plain_definition is n m A B result cells formed formed_after (Dead node) steps =
      let below = steps.below in
      fails_in K A places def first node false is (omega arith) (fails_further K A places def.body first node def.node (suc (suc def.node)) (omega arith) steps)
      (λ rest last numbered.
      let_step K table places def.node def.name_span first last before def.body rest n m m A B B result result (Dead node) (Dead node)
      cells formed formed_after body numbered steps (λ e. absurd cc) (λ _. refl))

  -- a recursive definition
  module _ (is : def.recursive ≡ true) (n0 n1 n2 : ℕ) (A0 A1 A2 A3 : Solutions) (parameter own : ℕ)
      (cells : HaveCells n0 places) (formed0 : AreFormed n0 A0) (formed1 : AreFormed n1 A1) (formed2 : AreFormed n2 A2) (formed3 : AreFormed n2 A3)
      (some : (s : ℕ → Plain) × A2 s)
      (opened : Adds n0 n1 A0 A1 parameter (λ s type. IsWellFormed type)) (newer : n0 ≤ parameter) where
    dies_within : (fate : Fate) (node : ℕ) → Steps K n1 n2 A1 A2 own (At parameter ∷ places) def.body first def.node fate
        → (fate ≡ Alive → Equates A2 A3 own parameter def.node (Dead node)) → ((fate ≡ Alive → ⊥) → Dead node ≡ fate) → node ≤ def.node
    dies_within Alive node steps joins stays = let same = (joins refl).0 in omega arith
    dies_within (Dead other) node steps joins stays =
        let below = steps.below in
        let e = stays (λ h. absurd cc) in
        let same : node ≡ other = cc in
        omega arith

    pub recursive_definition : (fate1 fate2 : Fate) → Steps K n1 n2 A1 A2 own (At parameter ∷ places) def.body first def.node fate1
        → (fate1 ≡ Alive → Equates A2 A3 own parameter def.node fate2) → ((fate1 ≡ Alive → ⊥) → fate2 ≡ fate1)
        → DefinitionSteps K n0 n2 A0 A3 parameter places def first fate2
    recursive_definition fate1 Alive steps joins stays =
        let e = alive_before fate1 Alive stays refl in
        subst (λ r. Adds n0 n2 A0 A3 parameter (λ s type. Gives K (env_at s places) (placed def r) type)) (sym is)
        (looped K table places def.node def.name_span first def.node before def.body n0 n1 n2 A0 A1 A2 A3 parameter own cells opened newer
        (subst (Steps K n1 n2 A1 A2 own (At parameter ∷ places) def.body first def.node) e steps) (joins e) formed3)
    recursive_definition fate1 (Dead node) steps joins stays =
        fails_in K A0 places def first node true is (dies_within fate1 node steps joins stays)
        (followed (core (suc def.node) def.name_span (Name 0)) (suc (suc def.node)) (omega arith, omega arith)) followed
      where
        followed : (rest : Core) (last : ℕ) → IsNumberedCore (suc def.node) rest last → Fails K A0 places (core def.node def.name_span (binding def true rest)) first node last
        followed rest last numbered =
            let_rec_step K table places def.node def.name_span first last before def.name def.name_span def.body rest n0 n1 n2 n2 A0 A1 A2 A3 A3 parameter own own fate1 (Dead node) (Dead node)
            cells formed0 formed1 formed2 formed3 body numbered some opened newer steps joins stays (λ e. absurd cc) (λ _. refl)
