use Rattle.std.proofs.Common.{◌≡◌, ℕ, suc, ◌+◌, ◌*◌, ◌<◌, List, [], ◌∷◌, ◌++◌, length, map, take, slice_get, replicate, Some, None, All, refl, sym, ap, subst, ◌∙◌, length-append, add-one, arith}
use Rattle.std.proofs.lemmas.List.{length-map, take_all, drop_all}
use Rattle.std.proofs.lemmas.List.Elements.{All-append, All-cons}
use Rattle.std.proofs.lemmas.Option.{slice_get-get_or}
use Rattle.std.proofs.Math.ListN.{get_or}
use Rattle.vt_dec.specs.declared.side.Side.{Side}
use Rattle.vt_dec.specs.declared.side.Space.{Space}
use Rattle.vt_dec.specs.Decisions.{Region}
use Rattle.vt_dec.proofs.Admitting.{Agrees-open}
use Rattle.vt_syntax.specs.declared.core_program.CoreProgram.{CoreProgram}
use Rattle.vt_syntax.specs.declared.leaf.Leaf.{Leaf}
use Rattle.vt_syntax.specs.Checking.{numbers_of, IsInCheckingOrder, IsGreatest}
use Rattle.vt_syntax.specs.Programs.{nested}
use Rattle.vt_syntax.specs.Scoping.{IsClosed}
use Rattle.vt_syntax.specs.Selection.{core_at}
use Rattle.vt_type.specs.Constants.{Constant, IsTable}
use Rattle.vt_store.specs.Patterns.{fate_at}
use Rattle.vt_store.specs.Stores.{cell_count}
use Rattle.vt_store.specs.Writes.{IsOf}
use Rattle.vt_scheme.specs.declared.scheme.Scheme.{Scheme}
use Rattle.vt_scheme.specs.Schemes.{AreCells, IsFrozen}
use Rattle.vt_infer.specs.declared.environment.Entry.{Entry}
use Rattle.vt_infer.specs.declared.typed.Typed.{Typed}
use Rattle.vt_infer.specs.declared.work.Work.{Work}
use Rattle.vt_infer.specs.Definitions.{places_after}
use Rattle.vt_infer.specs.Environments.{IsHeld, mono_cells, schemes_of}
use Rattle.vt_infer.specs.Inferred.{IsInferred, AreLeafCells, IsPartAt, AreMarks, chosen}
use Rattle.vt_infer.specs.Inferring.{IsReady, IsExpressed, IsGeneralised, solutions_at}
use Rattle.vt_infer.specs.Parts.{Covers, HasSolutions, IsClosedForm, IsReachedAt, IsReached, IsStarted, defs_at, typed_of}
use Rattle.vt_infer.proofs.FinishedLemmas.{reached_first, finish, main_reads, IsFinishedAt}
use Rattle.vt_infer.proofs.KnownLemmas.{are_meant}

-- Before the first definition, and after the main expression, at all decisions.

-- the item of a list at a place in it
pub item_at : {X : Type 0} (xs ys : List X) (i : ℕ) (x : X) → xs ≡ ys → i < length xs → x ≡ get_or xs i x → slice_get ys i ≡ Some x
item_at xs ys i x same within is = subst (λ list. slice_get list i ≡ Some x) same (slice_get-get_or xs i x within ∙ ap Some (sym is))

-- the whole context has all decisions of its space
pub whole_covers : (N : ℕ) (space : Space) (region : Region) → region ≡ record { sides = replicate (64 * N) None; space = space } → Covers N region region.space
whole_covers N space region is =
    let whole : Region = record { sides = replicate (64 * N) None; space = space } in
    subst (λ r. Covers N r r.space) (sym is) (λ decision of. record { agrees = Agrees-open (64 * N) decision of.sized; in_space = of.inside })

pub reached_start : (N : ℕ) (K : List Constant) (core : CoreProgram) (space : Space) (work : Work N) → IsStarted N space work → IsClosed (length K) (64 * N) core → IsInCheckingOrder core
    → IsReached N K core space 0 work []
reached_start N K core space work h closed order = record {
  store_space = h.store_space;
  pattern_space = h.pattern_space;
  held = subst (IsHeld work.store) (sym h.environment) tt;
  names = ap length h.environment;
  monos = ap mono_cells h.environment;
  closed = (closed.names, closed.constants_are, closed.dims_are);
  scheme_count = ap (λ entries. length (schemes_of entries)) h.environment;
  schemes_are = subst (λ entries. All (λ scheme. (scheme.cells.space ≡ space) × AreCells scheme) (schemes_of entries)) (sym h.environment) (λ i d within. absurd (omega arith));
  marks_are = refl;
  at = λ decision of.
      subst (λ entries. IsReachedAt K core 0 decision entries (schemes_of entries) [] (fate_at work.pattern decision)) (sym h.environment)
      (subst (IsReachedAt K core 0 decision [] [] []) (sym (h.alive decision of)) (reached_first K core decision order closed.dims_are of.sized));
}

-- the same where the space is that of the whole context, and of a list that is empty
whole_space : (N : ℕ) (space : Space) (region : Region) → region ≡ record { sides = replicate (64 * N) None; space = space } → region.space ≡ space
whole_space N space region is = ap (λ r. r.space) is

pub reached_begin : (N : ℕ) (K : List Constant) (core : CoreProgram) (space : Space) (region : Region) → region ≡ record { sides = replicate (64 * N) None; space = space }
    → (work : Work N) (marks : List ℕ) → IsStarted N space work → IsClosed (length K) (64 * N) core → IsInCheckingOrder core → marks ≡ []
    → IsReached N K core region.space 0 work marks
reached_begin N K core space region is work marks h closed order no_marks =
    subst (λ s. IsReached N K core s 0 work marks) (sym (whole_space N space region is))
    (subst (λ list. IsReached N K core space 0 work list) (sym no_marks) (reached_start N K core space work h closed order))

module _ (N : ℕ) (K : List Constant) (table : IsTable K) (region : Region) (core : CoreProgram) (covers : Covers N region region.space)
    (work : Work N) (marks : List ℕ) (h : IsReached N K core region.space (length core.defs) work marks) where
  pub main_ready : IsReady N K region core.main.form work
  main_ready =
      let closed : IsClosedForm (length core.defs) (length K) (64 * N) core.main.form =
      subst (λ list. IsClosedForm (length core.defs) (length K) (64 * N) (nested list core.main).form) (drop_all (length core.defs) core.defs (omega arith)) h.closed
      in
      record {
        table = table;
        space = sym h.store_space;
        pattern_space = h.pattern_space ∙ sym h.store_space;
        held = h.held;
        scoped = (subst (λ n. IsClosedForm n (length K) (64 * N) core.main.form) (sym h.names) closed).0;
        constants = closed.1;
        dims = closed.2;
      }

  module _ (main : ℕ) (new : Work N) (e : IsExpressed N K region core.main main work new) (solvable : HasSolutions N work.store) (solvable_after : HasSolutions N new.store)
      (entries : List (Entry N)) (generalised : IsGeneralised N new.store main new.environment entries) (mark : ℕ) (greatest : IsGreatest mark (numbers_of core.main)) where
    abbrev scheme : Scheme N
    scheme = generalised.scheme

    abbrev schemes : List (Scheme N)
    schemes = schemes_of work.environment

    frozen : IsFrozen N new.store [] main scheme
    frozen = subst (λ monos. IsFrozen N new.store monos main scheme) (ap mono_cells e.environment ∙ h.monos) generalised.frozen

    -- the scheme of the main expression comes last
    all_are : schemes_of entries ≡ schemes ++ scheme ∷ []
    all_are = ap schemes_of generalised.pushed ∙ ap (λ before. schemes_of before ++ scheme ∷ []) e.environment

    store_same : new.store.space ≡ region.space
    store_same = e.goes_on.space ∙ h.store_space

    mark_count : length marks ≡ length core.defs
    mark_count = ap length h.marks_are ∙ length-map (take (length core.defs) core.defs) (λ d. d.node) ∙ ap length (take_all (length core.defs) core.defs (omega arith))

    module _ (decision : List Side) (of : IsOf N region.space decision) where
      of_old : IsOf N work.store.space decision
      of_old = subst (λ space. IsOf N space decision) (sym h.store_space) of

      of_new : IsOf N new.store.space decision
      of_new = subst (λ space. IsOf N space decision) (sym store_same) of

      known : IsFinishedAt K (nested (defs_at decision core.defs) (core_at decision core.main)) new.store decision main mark (fate_at new.pattern decision)
          × ((own : Scheme N) → IsOf N new.store.space decision → IsFrozen N new.store [] main own → (part : ℕ) (it : Scheme N) (number : ℕ)
          → slice_get (schemes ++ own ∷ []) part ≡ Some it → slice_get (marks ++ mark ∷ []) part ≡ Some number → IsPartAt K core part decision it number (fate_at new.pattern decision))
      known =
          finish N K table core decision new.store main mark greatest (cell_count work.store) (solutions_at work.store decision) (solvable decision of_old) (solvable_after decision of_new)
          work.environment schemes marks (length core.defs) (omega arith) h.scheme_count mark_count (fate_at work.pattern decision) (fate_at new.pattern decision) (h.at decision of)
          (λ first alive names before numbered.
          e.here decision of_old (covers decision of) alive (places_after [] (defs_at decision core.defs)) first (suc mark)
          (are_meant K (cell_count work.store) (solutions_at work.store decision) decision work.environment (places_after [] (defs_at decision core.defs)) names) before numbered)
          (e.goes_on.dead decision of_old)

    all_schemes : All (λ it. (it.cells.space ≡ region.space) × AreCells it) (schemes ++ scheme ∷ [])
    all_schemes =
        All-append (λ it. (it.cells.space ≡ region.space) × AreCells it) schemes (scheme ∷ []) h.schemes_are
        (All-cons (λ it. (it.cells.space ≡ region.space) × AreCells it) scheme [] (frozen.space ∙ store_same, frozen.cells) (λ i d within. absurd (omega arith)))

    all_marks : AreMarks core (marks ++ mark ∷ [])
    all_marks = (mark, greatest, ap (λ list. list ++ mark ∷ []) (h.marks_are ∙ ap (map (λ d. d.node)) (take_all (length core.defs) core.defs (omega arith))))

    inferred : IsInferred N K core region.space (record { store = new.store; pattern = new.pattern; main = main; schemes = schemes ++ scheme ∷ []; marks = marks ++ mark ∷ []; leaf_cells = [] })
    inferred = record {
      store_space = store_same;
      pattern_space = e.goes_on.pattern_space ∙ h.pattern_space;
      main_cell = e.is_cell;
      alive = λ decision of is.
          main_reads K (chosen decision core) new.store decision main mark (subst (IsFinishedAt K (chosen decision core) new.store decision main mark) is (known decision of).0);
      dead = λ decision node of is. (subst (IsFinishedAt K (chosen decision core) new.store decision main mark) is (known decision of).0).1;
      scheme_count = length-append schemes (scheme ∷ []) ∙ ap (λ n. n + 1) h.scheme_count ∙ add-one (length core.defs);
      mark_count = length-append marks (mark ∷ []) ∙ ap (λ n. n + 1) mark_count ∙ add-one (length core.defs);
      schemes = all_schemes;
      marks = all_marks;
      parts = λ part it number decision scheme_is mark_is of. (known decision of).1 scheme (of_new decision of) frozen part it number scheme_is mark_is;
    }

    -- the same of what was found out, which is known by equations
    pub inferred_as : (last : Work N) (numbers : List ℕ) → last.store ≡ new.store → last.pattern ≡ new.pattern → last.environment ≡ entries → numbers ≡ marks ++ mark ∷ []
        → IsInferred N K core region.space (typed_of last numbers main [])
    inferred_as last numbers store pattern environment marks_are =
        subst (IsInferred N K core region.space)
        (sym (λ i. record { store = store i; pattern = pattern i; main = main; schemes = (ap schemes_of environment ∙ all_are) i; marks = marks_are i; leaf_cells = [] })) inferred

-- what was found out in the whole context of a space
pub inferred_in : (N : ℕ) (K : List Constant) (core : CoreProgram) (space : Space) (region : Region) → region ≡ record { sides = replicate (64 * N) None; space = space }
    → (found typed : Typed N) → IsInferred N K core region.space found → typed ≡ found → IsInferred N K core space typed
inferred_in N K core space region is found typed inferred same =
    subst (λ s. IsInferred N K core s typed) (whole_space N space region is) (subst (IsInferred N K core region.space) (sym same) inferred)

pub leaf_cells_in : (N : ℕ) (K : List Constant) (core : CoreProgram) (leaves : List Leaf) (space : Space) (region : Region) → region ≡ record { sides = replicate (64 * N) None; space = space }
    → (found typed : Typed N) → AreLeafCells N K core leaves region.space found → typed ≡ found → AreLeafCells N K core leaves space typed
leaf_cells_in N K core leaves space region is found typed cells same =
    subst (λ s. AreLeafCells N K core leaves s typed) (whole_space N space region is) (subst (AreLeafCells N K core leaves region.space) (sym same) cells)
