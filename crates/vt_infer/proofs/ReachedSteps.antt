use Rattle.std.proofs.Common.{◌≡◌, ℕ, suc, ◌+◌, ◌*◌, Bool, true, false, List, [], ◌∷◌, ◌++◌, length, map, take, drop, slice_get, Some, All, refl, sym, ap, subst, ◌∙◌, length-append, length-take-le, add-one, arith}
use Rattle.std.proofs.lemmas.List.{length-map, map-append}
use Rattle.std.proofs.lemmas.List.Elements.{All-append, All-cons}
use Rattle.std.proofs.lemmas.Option.{slice_get_within}
use Rattle.vt_dec.specs.declared.side.Side.{Side}
use Rattle.vt_dec.specs.Decisions.{Region}
use Rattle.vt_syntax.specs.declared.core_expr.Core.{Core}
use Rattle.vt_syntax.specs.declared.core_program.CoreDef.{CoreDef}
use Rattle.vt_syntax.specs.declared.core_program.CoreProgram.{CoreProgram}
use Rattle.vt_syntax.specs.Programs.{nested, binding}
use Rattle.vt_syntax.specs.Scoping.{HasConstants, HasDims}
use Rattle.vt_type.specs.Constants.{Constant, IsTable}
use Rattle.vt_store.specs.Patterns.{fate_at}
use Rattle.vt_store.specs.Stores.{cell_count}
use Rattle.vt_store.specs.Writes.{IsOf}
use Rattle.vt_scheme.specs.declared.scheme.Scheme.{Scheme}
use Rattle.vt_scheme.specs.Schemes.{AreCells, IsFrozen}
use Rattle.vt_infer.specs.declared.environment.Entry.TheVariants.{Poly}
use Rattle.vt_infer.specs.declared.work.Work.{Work}
use Rattle.vt_infer.specs.Environments.{IsHeld, mono_cells, schemes_of}
use Rattle.vt_infer.specs.Inferring.{solutions_at}
use Rattle.vt_infer.specs.Parts.{Covers, IsBodyScoped, IsDefinable, IsClosedForm, IsReachedAt, IsReached, IsAdded, defs_at}
use Rattle.vt_infer.proofs.DefinitionLemmas.{places-cells}
use Rattle.vt_infer.proofs.GoingOn.{held-later}
use Rattle.vt_infer.proofs.KnownLemmas.{take-at, drop-at}
use Rattle.vt_infer.proofs.ReachedLemmas.{reached_next}

-- One more definition in the loop.

-- a definition and what follows it, closed
closed_parts : (binders constants dims : ℕ) (def : CoreDef) (rest : Core) (recursive : Bool) → IsClosedForm binders constants dims (binding def recursive rest)
    → (IsBodyScoped binders def recursive × HasConstants constants def.body.form × HasDims dims def.body.form) × IsClosedForm (suc binders) constants dims rest.form
closed_parts binders constants dims def rest false h = ((h.0.0, h.1.0, h.2.0), (h.0.1, h.1.1, h.2.1))
closed_parts binders constants dims def rest true h = ((h.0.0, h.1.0, h.2.0), (h.0.1, h.1.1, h.2.1))

module _ (N : ℕ) (K : List Constant) (table : IsTable K) (region : Region) (core : CoreProgram) (count : ℕ) (old : Work N) (marks : List ℕ)
    (h : IsReached N K core region.space count old marks) (def : CoreDef) (is : slice_get core.defs count ≡ Some def) where
  parts : (IsBodyScoped count def def.recursive × HasConstants (length K) def.body.form × HasDims (64 * N) def.body.form)
      × IsClosedForm (suc count) (length K) (64 * N) (nested (drop (suc count) core.defs) core.main).form
  parts =
      closed_parts count (length K) (64 * N) def (nested (drop (suc count) core.defs) core.main) def.recursive
      (subst (λ list. IsClosedForm count (length K) (64 * N) (nested list core.main).form) (drop-at core.defs count def is) h.closed)

  pub definable : IsDefinable N K region def old
  definable = record {
    table = table;
    space = sym h.store_space;
    pattern_space = h.pattern_space ∙ sym h.store_space;
    held = h.held;
    scoped = subst (λ n. IsBodyScoped n def def.recursive) (sym h.names) parts.0.0;
    constants = parts.0.1;
    dims = parts.0.2;
  }

  module _ (covers : Covers N region region.space) (new : Work N) (later : List ℕ) (added : IsAdded N K region def old new marks later) where
    between : Work N
    between = added.between

    store_same : added.between.store.space ≡ region.space
    store_same = added.defined.space ∙ h.store_space

    no_monos : mono_cells added.between.environment ≡ []
    no_monos = ap mono_cells added.defined.environment ∙ h.monos

    abbrev scheme : Scheme N
    scheme = added.generalised.scheme

    abbrev schemes : List (Scheme N)
    schemes = schemes_of old.environment

    frozen : IsFrozen N added.between.store [] added.root scheme
    frozen = subst (λ monos. IsFrozen N added.between.store monos added.root scheme) no_monos added.generalised.frozen

    pushed : new.environment ≡ Poly scheme [] ∷ old.environment
    pushed = added.generalised.pushed ∙ (λ i. Poly scheme (no_monos i) ∷ added.defined.environment i)

    mark_count : length marks ≡ count
    mark_count = let less = slice_get_within core.defs count def is in ap length h.marks_are ∙ length-map (take count core.defs) (λ d. d.node) ∙ length-take-le count core.defs (omega arith)

    at : (decision : List Side) → IsOf N region.space decision → IsReachedAt K core (suc count) decision (Poly scheme [] ∷ old.environment) (schemes ++ scheme ∷ []) (marks ++ def.node ∷ []) (fate_at added.between.pattern decision)
    at decision of =
        let of_old = subst (λ space. IsOf N space decision) (sym h.store_space) of in
        let of_between = subst (λ space. IsOf N space decision) (sym store_same) of in
        reached_next N K table core count decision old.environment schemes marks def is scheme added.between.store added.root of_between frozen
        (cell_count old.store) (solutions_at old.store decision) (added.solvable decision of_old) (added.solvable_after decision of_between) h.scheme_count mark_count
        (fate_at old.pattern decision) (fate_at added.between.pattern decision) (h.at decision of)
        (λ first alive known before body. added.defined.here decision of_old (covers decision of) alive _ first known (places-cells (cell_count old.store) [] (take count (defs_at decision core.defs)) tt refl).0 before body)
        (added.defined.dead decision of_old)

    held : IsHeld added.between.store (Poly scheme [] ∷ old.environment)
    held = (
      (frozen.space, frozen.cells, sym frozen.count, λ i d within. absurd (omega arith)),
      held-later old.store added.between.store old.environment added.defined.space added.defined.grows h.held,
    )

    all_schemes : All (λ it. (it.cells.space ≡ region.space) × AreCells it) (schemes ++ scheme ∷ [])
    all_schemes =
        All-append (λ it. (it.cells.space ≡ region.space) × AreCells it) schemes (scheme ∷ []) h.schemes_are
        (All-cons (λ it. (it.cells.space ≡ region.space) × AreCells it) scheme [] (frozen.space ∙ store_same, frozen.cells) (λ i d within. absurd (omega arith)))

    all_marks : marks ++ def.node ∷ [] ≡ map (λ d. d.node) (take (suc count) core.defs)
    all_marks = ap (λ list. list ++ def.node ∷ []) h.marks_are ∙ sym (ap (map (λ d. d.node)) (take-at core.defs count def is) ∙ map-append (λ d. d.node) (take count core.defs) (def ∷ []))

    next : IsReached N K core region.space (suc count) (record { store = added.between.store; pattern = added.between.pattern; environment = Poly scheme [] ∷ old.environment }) (marks ++ def.node ∷ [])
    next = record {
      store_space = store_same;
      pattern_space = added.defined.pattern_space ∙ h.pattern_space;
      held = held;
      names = ap suc h.names;
      monos = h.monos;
      closed = parts.1;
      scheme_count = length-append schemes (scheme ∷ []) ∙ ap (λ n. n + 1) h.scheme_count ∙ add-one count;
      schemes_are = all_schemes;
      marks_are = all_marks;
      at = at;
    }

    same_work : record { store = added.between.store; pattern = added.between.pattern; environment = Poly scheme [] ∷ old.environment } ≡ new
    same_work i = record { store = sym added.store i; pattern = sym added.pattern i; environment = sym pushed i }

    pub reached_added : IsReached N K core region.space (count + 1) new later
    reached_added =
        subst (λ n. IsReached N K core region.space n new later) (sym (add-one count))
        (subst (λ list. IsReached N K core region.space (suc count) new list) (sym added.marks_are)
        (subst (λ work. IsReached N K core region.space (suc count) work (marks ++ def.node ∷ [])) same_work next))
