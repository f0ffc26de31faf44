use Rattle.std.proofs.Common.{◌≡◌, ◌↔◌, ℕ, suc, Bool, true, false, List, [], map, refl, ap, subst, arith}
use Rattle.std.proofs.lemmas.List.{nil_from_length}
use Rattle.vt_dec.specs.declared.side.Side.{Side}
use Rattle.vt_syntax.specs.declared.core_expr.Core.{Core}
use Rattle.vt_syntax.specs.declared.core_expr.Form.{Name}
use Rattle.vt_syntax.specs.declared.core_program.CoreDef.{CoreDef}
use Rattle.vt_syntax.specs.CoreTrees.{core}
use Rattle.vt_syntax.specs.Programs.{nested, binding}
use Rattle.vt_type.specs.declared.plain.Plain.{Plain}
use Rattle.vt_type.specs.Plain.{IsInstance}
use Rattle.vt_type.specs.Canonical.{IsCanonical}
use Rattle.vt_type.specs.Constants.{Constant}
use Rattle.vt_store.specs.Ends.{CellEnd}
use Rattle.vt_store.specs.Solutions.{Solves, ReadsAs}
use Rattle.vt_store.specs.Stores.{Cells, cell_count, ends_at}
use Rattle.vt_store.specs.Writes.{IsOf}
use Rattle.vt_scheme.specs.declared.scheme.Scheme.{Scheme}
use Rattle.vt_scheme.specs.Schemes.{Allows, IsFrozen}
use Rattle.vt_rules.specs.Env.{Env, Empty, ◌▸◌, Rec}
use Rattle.vt_rules.specs.Typing.{Ty}
use Rattle.vt_rules.specs.Typing as ty
use Rattle.vt_rules.specs.Meaning.{own_expression}
use Rattle.vt_rules.specs.Principal.{Principal}
use Rattle.vt_rules.proofs.Inversion.{of_let_rec, of_known}
use Rattle.vt_infer.specs.Numbered.{IsNumberedCore}
use Rattle.vt_infer.specs.Places.{Gives}
use Rattle.vt_infer.specs.Steps.{Solutions, Adds}
use Rattle.vt_infer.specs.Definitions.{placed, env_after, AreTyped}
use Rattle.vt_infer.proofs.NumberLemmas.{numbered-wider}
use Rattle.vt_infer.proofs.DefinitionLemmas.{chain_typed, chain_types}

-- What the parts of a program mean at one decision, and what is known after one more definition.

-- a cell whose types in solutions are the types of a program reads as its principal type
pub reads_principal : (K : List Constant) (program : Core) (n : ℕ) (e : ℕ → CellEnd) (cell : ℕ)
    → ((type : Plain) → ((s : ℕ → Plain) × Solves n e s × (s cell ≡ type)) ↔ Ty K Empty program type)
    → (type : Plain) → ReadsAs n e cell type ↔ (Principal K program type × IsCanonical type)
reads_principal K program n e cell same type = (
  λ reads. (
    record {
      typed = (same type).0 reads.given;
      general = λ other d. let (s, solves, is) = (same other).1 d in subst (λ special. IsInstance special type) is (reads.general s solves);
    },
    reads.canonical,
  ),
  λ both. record {
    given = (same type).1 both.0.typed;
    general = λ s solves. both.0.general (s cell) ((same (s cell)).0 (s, solves, refl));
    canonical = both.1;
  },
)

-- the types of a cell that has been added, where they do not depend on the solution
pub adds_types : (n m : ℕ) (A B : Solutions) (result : ℕ) (P : (ℕ → Plain) → Plain → Type 0) (Q : Plain → Type 0)
    → Adds n m A B result P → ((s : ℕ → Plain) × A s) → ((s : ℕ → Plain) (type : Plain) → P s type ↔ Q type)
    → (type : Plain) → ((s : ℕ → Plain) × B s × (s result ≡ type)) ↔ Q type
adds_types n m A B result P Q adds some same type = (
  λ given. subst Q given.2 ((same given.0 (given.0 result)).0 (adds.related given.0 given.1)),
  λ q. let (other, b, agree, is) = adds.taken some.0 type some.1 ((same some.0 type).1 q) in (other, b, is),
)

-- the types of a scheme without monos
module _ (N : ℕ) (store : Cells) (root : ℕ) (scheme : Scheme N) (frozen : IsFrozen N store [] root scheme) (decision : List Side) (of : IsOf N store.space decision) where
  no_monos : scheme.monos ≡ []
  no_monos = nil_from_length scheme.monos frozen.count

  pub frozen_allows : (type : Plain) → Allows scheme decision [] type ↔ ((s : ℕ → Plain) × Solves (cell_count store) (ends_at store decision) s × (s root ≡ type))
  frozen_allows type = (
    λ allows. let h = (frozen.allows decision of [] type).0 allows in (h.s, h.solves, h.root_is),
    λ given. (frozen.allows decision of [] type).1 (record { s = given.0; solves = given.1; cells_are = refl; root_is = given.2 }),
  )

  pub frozen_types : (type : Plain)
      → ((s : ℕ → Plain) × Solves (cell_count scheme.cells) (ends_at scheme.cells decision) s × (s scheme.root ≡ type))
      ↔ ((s : ℕ → Plain) × Solves (cell_count store) (ends_at store decision) s × (s root ≡ type))
  frozen_types type = (
    λ given. (frozen_allows type).0 (record { s = given.0; solves = given.1; cells_are = ap (map given.0) no_monos; root_is = given.2 }),
    λ given. let h = (frozen_allows type).1 given in (h.s, h.solves, h.root_is),
  )

module _ (K : List Constant) where
  -- the types of a definition are those of its own expression
  module _ (env : Env) (def : CoreDef) (type : Plain) where
    pub own_types : (recursive : Bool) → Gives K env (placed def recursive) type → Ty K env (own_expression def recursive) type
    own_types false d = d
    own_types true d =
        ty.let_rec env def.node def.name_span def.name def.name_span def.body (core (suc def.node) def.name_span (Name 0)) type type d.0 d.1
        (ty.name_rec (env ▸ Rec env def.body) (suc def.node) def.name_span 0 env def.body type refl d.0 d.1)

    pub own_gives : (recursive : Bool) → Ty K env (own_expression def recursive) type → Gives K env (placed def recursive) type
    own_gives false d = d
    own_gives true d =
        let (some, w, e, f) = of_let_rec K env def.node def.name_span def.name def.name_span def.body (core (suc def.node) def.name_span (Name 0)) type d in
        of_known K (env ▸ Rec env def.body) (suc def.node) def.name_span 0 (Rec env def.body) type refl f

  -- what follows definitions with types, and a cell with its types
  module _ (done : List CoreDef) (typed : AreTyped K Empty done) (e : Core) (Q : Plain → Type 0) (same : (type : Plain) → Q type ↔ Ty K (env_after Empty done) e type) where
    pub chain_same : (type : Plain) → Q type ↔ Ty K Empty (nested done e) type
    chain_same type = (
      λ q. chain_types K Empty done e type typed ((same type).0 q),
      λ d. (same type).1 (chain_typed K Empty done e type d).1,
    )

-- a definition and what follows it, by their numbers
pub one_numbered : (first : ℕ) (def : CoreDef) (rest : Core) (last : ℕ) → IsNumberedCore first def.body def.node → IsNumberedCore (suc def.node) rest last
    → (recursive : Bool) → IsNumberedCore first (core def.node def.name_span (binding def recursive rest)) last
one_numbered first def rest last body after false = (body, after)
one_numbered first def rest last body after true = (body, after)

-- and back
pub two_numbered : (first : ℕ) (def : CoreDef) (rest : Core) (last : ℕ) (recursive : Bool)
    → IsNumberedCore first (core def.node def.name_span (binding def recursive rest)) last → IsNumberedCore first def.body def.node × IsNumberedCore (suc def.node) rest last
two_numbered first def rest last false h = h
two_numbered first def rest last true h = h

-- a definition's own expression, by its numbers
pub own_numbered : (first : ℕ) (def : CoreDef) → IsNumberedCore first def.body def.node → (recursive : Bool) → IsNumberedCore first (own_expression def recursive) (suc (suc def.node))
own_numbered first def body false = numbered-wider first first def.body.node def.body.form def.node (suc (suc def.node)) (omega arith) (omega arith) body
own_numbered first def body true = (body, (omega arith, omega arith))
