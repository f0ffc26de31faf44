use Rattle.std.proofs.Common.{◌≡◌, ◌↔◌, ℕ, suc, ◌<◌, ◌≤◌, List, [], ◌∷◌, ◌++◌, sym, subst, arith}
use Rattle.vt_dec.specs.declared.side.Side.{Side}
use Rattle.vt_dec.specs.declared.fate.Fate.{Fate}
use Rattle.vt_dec.specs.declared.fate.Fate.TheVariants.{Alive, Dead}
use Rattle.vt_syntax.specs.declared.core_expr.Core.{Core}
use Rattle.vt_syntax.specs.declared.core_program.CoreDef.{CoreDef}
use Rattle.vt_syntax.specs.declared.core_program.CoreProgram.{CoreProgram}
use Rattle.vt_syntax.specs.Programs.{nested}
use Rattle.vt_type.specs.declared.plain.Plain.{Plain}
use Rattle.vt_type.specs.Canonical.{IsCanonical}
use Rattle.vt_type.specs.Constants.{Constant, IsTable}
use Rattle.vt_store.specs.Ends.{CellEnd}
use Rattle.vt_store.specs.Solutions.{Solves, ReadsAs}
use Rattle.vt_store.specs.Stores.{cell_count, ends_at}
use Rattle.vt_scheme.specs.declared.scheme.Scheme.{Scheme}
use Rattle.vt_rules.specs.Env.{Empty}
use Rattle.vt_rules.specs.TypingUpTo.{TyUpTo}
use Rattle.vt_rules.specs.Failing.{FirstFailing}
use Rattle.vt_rules.specs.Meaning.{own_expression, prefix}
use Rattle.vt_rules.specs.Principal.{IsTyped, Principal}
use Rattle.vt_rules.proofs.LeastFailing.{failing-untyped}
use Rattle.vt_infer.specs.Inferred.{IsPartAt, chosen}
use Rattle.vt_infer.specs.Numbered.{IsNumberedCore}
use Rattle.vt_infer.specs.Places.{Gives}
use Rattle.vt_infer.specs.Steps.{Solutions, Fails}
use Rattle.vt_infer.specs.Definitions.{place_of, places_after, env_after, AreTyped, FailsIn, DefinitionSteps, AreChecked}
use Rattle.vt_infer.proofs.NumberLemmas.{numbered-within}
use Rattle.vt_infer.proofs.DefinitionLemmas.{nested-append, env-places, typed-append, chain_types, chain_fails}
use Rattle.vt_infer.proofs.PartLemmas.{reads_principal, chain_same, own_types, own_gives, one_numbered, own_numbered}

-- What is known of definitions after one more of them, at one decision.

module _ (K : List Constant) (table : IsTable K) (done : List CoreDef) where
  -- what fails first after definitions with types makes the whole fail first
  pub fails_after : (A : Solutions) (e : Core) (first node last : ℕ) → AreTyped K Empty done → ((s : ℕ → Plain) × A s)
      → Fails K A (places_after [] done) e first node last → FirstFailing K (nested done e) node
  fails_after A e first node last typed (some, a) fails =
      chain_fails K table done e node typed
      (λ type d. fails.fails some a type (subst (λ env. TyUpTo K node env e type) (sym (env-places some [] done)) d))
      (λ m less. let (s, b, type, d) = fails.before m less in (type, subst (λ env. TyUpTo K m env e type) (env-places s [] done) d))

  module _ (def : CoreDef) (first : ℕ) (body : IsNumberedCore first def.body def.node) where
    within : first ≤ def.node
    within = let root = numbered-within first def.body.node def.body.form def.node body in omega arith

    -- one more definition
    pub next_checked : (n m : ℕ) (A B : Solutions) (result : ℕ) → ((s : ℕ → Plain) × A s) → ((s : ℕ → Plain) × B s) → AreTyped K Empty done
        → (fate : Fate) → DefinitionSteps K n m A B result (places_after [] done) def first fate → AreChecked K (done ++ def ∷ []) (suc def.node) fate
    next_checked n m A B result some (s, b) typed Alive steps =
        typed-append K Empty done (def ∷ []) typed
        ((s result, subst (λ env. Gives K env (place_of def) (s result)) (env-places s [] done) (steps.related s b)), tt)
    next_checked n m A B result some other typed (Dead node) steps =
        let le = steps.within in (
          omega arith,
          λ rest last numbered.
              subst (λ program. FirstFailing K program node) (sym (nested-append done (def ∷ []) rest))
              (fails_after A (nested (def ∷ []) rest) first node last typed some (steps.followed rest last numbered)),
        )

    -- one more where the decision was dead
    pub next_dead : (node : ℕ) → AreChecked K done first (Dead node) → AreChecked K (done ++ def ∷ []) (suc def.node) (Dead node)
    next_dead node checked =
        let le = within in
        let less = checked.0 in (
          omega arith,
          λ rest last numbered.
              subst (λ program. FirstFailing K program node) (sym (nested-append done (def ∷ []) rest))
              (checked.1 (nested (def ∷ []) rest) last (one_numbered first def rest last body numbered def.recursive)),
        )

    -- the definition's own program fails first where the decision was dead
    pub own_dead : (node : ℕ) → AreChecked K done first (Dead node) → (node ≤ def.node) × FirstFailing K (nested done (own_expression def def.recursive)) node
    own_dead node checked =
        let le = within in
        let less = checked.0 in
        (omega arith, checked.1 (own_expression def def.recursive) (suc (suc def.node)) (own_numbered first def body def.recursive))

    -- and where the decision died in the definition
    pub own_dies : (A : Solutions) (node : ℕ) → ((s : ℕ → Plain) × A s) → AreTyped K Empty done → FailsIn K A (places_after [] done) def first node
        → (node ≤ def.node) × FirstFailing K (nested done (own_expression def def.recursive)) node
    own_dies A node some typed fails = (fails.within, fails_after A (own_expression def def.recursive) first node (suc (suc def.node)) typed some fails.own)

    -- a definition with types, and a cell that has them
    pub own_alive : AreTyped K Empty done → (n : ℕ) (e : ℕ → CellEnd) (cell : ℕ)
        → ((type : Plain) → ((s : ℕ → Plain) × Solves n e s × (s cell ≡ type)) ↔ Gives K (env_after Empty done) (place_of def) type)
        → (type : Plain) → ReadsAs n e cell type ↔ (Principal K (nested done (own_expression def def.recursive)) type × IsCanonical type)
    own_alive typed n e cell same =
        reads_principal K (nested done (own_expression def def.recursive)) n e cell
        (chain_same K done typed (own_expression def def.recursive) (λ type. (s : ℕ → Plain) × Solves n e s × (s cell ≡ type))
        (λ type. (
          λ given. own_types K (env_after Empty done) def type def.recursive ((same type).0 given),
          λ d. (same type).1 (own_gives K (env_after Empty done) def type def.recursive d),
        )))

    pub own_typed : AreTyped K Empty done → (type : Plain) → Gives K (env_after Empty done) (place_of def) type → IsTyped K (nested done (own_expression def def.recursive))
    own_typed typed type gives =
        (type, chain_types K Empty done (own_expression def def.recursive) type typed (own_types K (env_after Empty done) def type def.recursive gives))

-- A part at a decision, from what is known of its program.
module _ (N : ℕ) (K : List Constant) (core : CoreProgram) (part : ℕ) (decision : List Side) (scheme : Scheme N) (mark : ℕ) (program : Core) (is : chosen decision (prefix core part) ≡ program) where
  pub part_alive : IsTyped K program
      → ((type : Plain) → ReadsAs (cell_count scheme.cells) (ends_at scheme.cells decision) scheme.root type ↔ (Principal K program type × IsCanonical type))
      → IsPartAt K core part decision scheme mark Alive
  part_alive typed reads = record {
    shown = (λ _. subst (IsTyped K) (sym is) typed, λ _. tt);
    reads = λ _. subst (λ e. (type : Plain) → ReadsAs (cell_count scheme.cells) (ends_at scheme.cells decision) scheme.root type ↔ (Principal K e type × IsCanonical type)) (sym is) reads;
  }

  pub part_dead : IsTable K → (node : ℕ) → node ≤ mark → FirstFailing K program node → IsPartAt K core part decision scheme mark (Dead node)
  part_dead table node le fails = record {
    shown = (λ less. absurd (omega arith), λ typed. absurd (failing-untyped K program table node fails (subst (IsTyped K) is typed)));
    reads = λ less. absurd (omega arith);
  }

-- A decision that dies later shows the part as before.
pub part_later : (N : ℕ) (K : List Constant) (core : CoreProgram) (part : ℕ) (decision : List Side) (scheme : Scheme N) (mark node : ℕ)
    → mark < node → IsPartAt K core part decision scheme mark Alive → IsPartAt K core part decision scheme mark (Dead node)
part_later N K core part decision scheme mark node less h = record { shown = (λ _. h.shown.0 tt, λ _. less); reads = λ _. h.reads tt }
