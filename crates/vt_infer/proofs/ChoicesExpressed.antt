use Rattle.std.proofs.Common.{◌≡◌, ◌⊎◌, inl, inr, ℕ, ◌*◌, ◌<◌, List, ◌++◌, Some, get_or, slice_get, refl, ap, sym, subst, ◌∙◌, arith}
use Rattle.std.proofs.lemmas.Option.{slice_get-get_or}
use Rattle.std.specs.List.{Contains}
use Rattle.std.proofs.lemmas.List.Elements.{Contains-append_left, Contains-append_right, Contains-append_cases}
use Rattle.vt_dec.specs.declared.side.Side.{Side}
use Rattle.vt_dec.specs.declared.side.Side.TheVariants.{Left, Right}
use Rattle.vt_dec.specs.declared.fate.Fate.TheVariants.{Alive}
use Rattle.vt_dec.specs.Decisions.{Region, Admits, Takes, CanTake, Narrows}
use Rattle.vt_lex.specs.declared.span.Span.{Span}
use Rattle.vt_syntax.specs.declared.core_expr.Core.{Core}
use Rattle.vt_syntax.specs.CoreTrees.{core, choice_form}
use Rattle.vt_syntax.specs.Selection.{chosen, core_at}
use Rattle.vt_type.specs.Variational.{by_side}
use Rattle.vt_type.specs.Constants.{Constant}
use Rattle.vt_store.specs.Patterns.{FateMap, fate_at}
use Rattle.vt_store.specs.Stores.{Cells, cell_count}
use Rattle.vt_store.specs.Writes.{IsOf}
use Rattle.vt_infer.specs.Places.{Place, HaveCells}
use Rattle.vt_infer.specs.Numbered.{AreBefore, IsNumberedCore}
use Rattle.vt_infer.specs.Steps.{Keeps, Adds, Steps}
use Rattle.vt_infer.specs.Environments.{AreMeant}
use Rattle.vt_infer.specs.Inferring.{solutions_at, GoesOn, IsNew, IsExpressed}
use Rattle.vt_infer.specs.declared.work.Work.{Work}
use Rattle.vt_infer.specs.declared.holes.MetHole.{MetHole}
use Rattle.vt_infer.specs.Meetings.{HoleLog, AreMetAt, IsMarked}
use Rattle.vt_infer.specs.Wanted.{AddsAt, TypesAtOf}
use Rattle.vt_infer.proofs.Combining.{steps-keeps, keeps-steps, steps-same}
use Rattle.vt_rules.specs.TypingAt.{HoldsHole}
use Rattle.vt_infer.proofs.MarkedSteps.{at-keeps, at-result, keeps-at}
use Rattle.vt_infer.proofs.PartsExpressed.{both_added, added_cells, added_spaces, added_inside}
use Rattle.vt_infer.proofs.GoingOn.{goes_on-then, goes_on-new, of_same, meant-cells, meant-later}

-- Choices, from their alternatives.

-- what a decision that takes a side selects from a choice
taken : Side → Core → Core → Core
taken Left left right = left
taken Right left right = right

module _ (N : ℕ) (K : List Constant) (region : Region) (node : ℕ) (at : Span) (dim : ℕ) (within : dim < 64 * N) (left right : Core) where
  abbrev whole : Core
  whole = core node at (choice_form dim left right)

  selects_left : (decision : List Side) → Takes decision dim Left → core_at decision whole ≡ core_at decision left
  selects_left decision takes = ap (λ side. chosen side (core_at decision left) (core_at decision right) (core node at (choice_form dim (core_at decision left) (core_at decision right)))) takes

  selects_right : (decision : List Side) → Takes decision dim Right → core_at decision whole ≡ core_at decision right
  selects_right decision takes = ap (λ side. chosen side (core_at decision left) (core_at decision right) (core node at (choice_form dim (core_at decision left) (core_at decision right)))) takes

  side_of : (decision : List Side) (space : _) → IsOf N space decision → Takes decision dim Left ⊎ Takes decision dim Right
  side_of decision space of = by (get_or decision dim Left) (slice_get-get_or decision dim Left (omega (arith, of.sized)))
    where
      by : (side : Side) → slice_get decision dim ≡ Some side → Takes decision dim Left ⊎ Takes decision dim Right
      by Left is = inl is
      by Right is = inr is

  -- the step of an alternative is that of the choice where the decision takes it
  abbrev IsStep : List Side → (old new : Work N) → ℕ → List Place → Core → (first last : ℕ) → Type 0
  IsStep decision old new result places e first last =
      Steps K (cell_count old.store) (cell_count new.store) (solutions_at old.store decision) (solutions_at new.store decision) result places e first last (fate_at new.pattern decision)

  -- only one alternative is there, since no decision takes the other side
  pub expressed-only_right : (result : ℕ) (old new : Work N) → (CanTake region dim Left → ⊥) → IsExpressed N K region right result old new → IsExpressed N K region whole result old new
  expressed-only_right result old new never inner = record {
    goes_on = inner.goes_on;
    environment = inner.environment;
    is_cell = inner.is_cell;
    here = λ decision of admits alive places first last meant before numbered. by decision of admits alive places first last meant before numbered (side_of decision old.store.space of);
  }
    where
      by : (decision : List Side) → IsOf N old.store.space decision → Admits region decision → fate_at old.pattern decision ≡ Alive → (places : List Place) (first last : ℕ)
          → AreMeant K (cell_count old.store) (solutions_at old.store decision) decision old.environment places → AreBefore first places → IsNumberedCore first (core_at decision whole) last
          → Takes decision dim Left ⊎ Takes decision dim Right → IsStep decision old new result places (core_at decision whole) first last
      by decision of admits alive places first last meant before numbered (inl takes) = absurd (never (decision, admits, takes))
      by decision of admits alive places first last meant before numbered (inr takes) =
          let is = selects_right decision takes in
          subst (λ e. IsStep decision old new result places e first last) (sym is) (inner.here decision of admits alive places first last meant before (subst (λ e. IsNumberedCore first e last) is numbered))

  -- a context that is narrowed goes on as the whole one does
  narrowed_goes_on : (side : Side) (part : Region) (old new : Cells) (before after : FateMap) → Narrows region dim side part → GoesOn N part old new before after → GoesOn N region old new before after
  narrowed_goes_on side part old new before after narrows inner = record {
    space = inner.space;
    pattern_space = inner.pattern_space;
    grows = inner.grows;
    dead = inner.dead;
    fates = λ decision of outside. inner.fates decision of (λ admits. outside ((narrows.exactly decision).0 admits).0);
    elsewhere = λ decision of outside. inner.elsewhere decision of (λ admits. outside ((narrows.exactly decision).0 admits).0);
  }

  pub expressed-only_left : (result : ℕ) (old new : Work N) (part : Region) → Narrows region dim Left part → (CanTake region dim Right → ⊥) → IsExpressed N K part left result old new → IsExpressed N K region whole result old new
  expressed-only_left result old new part narrows never inner = record {
    goes_on = narrowed_goes_on Left part old.store new.store old.pattern new.pattern narrows inner.goes_on;
    environment = inner.environment;
    is_cell = inner.is_cell;
    here = λ decision of admits alive places first last meant before numbered. by decision of admits alive places first last meant before numbered (side_of decision old.store.space of);
  }
    where
      by : (decision : List Side) → IsOf N old.store.space decision → Admits region decision → fate_at old.pattern decision ≡ Alive → (places : List Place) (first last : ℕ)
          → AreMeant K (cell_count old.store) (solutions_at old.store decision) decision old.environment places → AreBefore first places → IsNumberedCore first (core_at decision whole) last
          → Takes decision dim Left ⊎ Takes decision dim Right → IsStep decision old new result places (core_at decision whole) first last
      by decision of admits alive places first last meant before numbered (inr takes) = absurd (never (decision, admits, takes))
      by decision of admits alive places first last meant before numbered (inl takes) =
          let is = selects_left decision takes in
          subst (λ e. IsStep decision old new result places e first last) (sym is)
          (inner.here decision of ((narrows.exactly decision).1 (admits, takes)) alive places first last meant before (subst (λ e. IsNumberedCore first e last) is numbered))

  -- the holes of the one alternative that is there
  abbrev AreMet : List Side → (old new : Work N) → ℕ → List Place → Core → List ℕ → List (MetHole N) → Type 0
  AreMet decision old new result places e asked added =
      AreMetAt K (cell_count old.store) (cell_count new.store) (solutions_at old.store decision) (solutions_at new.store decision) result places e decision asked added

  pub marked-only_right : (result : ℕ) (old new : Work N) (log later : HoleLog N) → (CanTake region dim Left → ⊥) → IsMarked N K region right result old new log later → IsMarked N K region whole result old new log later
  marked-only_right result old new log later never inner = record {
    asked = inner.asked;
    added = inner.added;
    met = inner.met;
    cells = inner.cells;
    spaces = inner.spaces;
    inside = inner.inside;
    here = λ decision of admits alive still places first last meant before numbered. by decision of admits alive still places first last meant before numbered (side_of decision old.store.space of);
  }
    where
      by : (decision : List Side) → IsOf N old.store.space decision → Admits region decision → fate_at old.pattern decision ≡ Alive → fate_at new.pattern decision ≡ Alive → (places : List Place) (first last : ℕ)
          → AreMeant K (cell_count old.store) (solutions_at old.store decision) decision old.environment places → AreBefore first places → IsNumberedCore first (core_at decision whole) last
          → Takes decision dim Left ⊎ Takes decision dim Right → AreMet decision old new result places (core_at decision whole) log.asked inner.added
      by decision of admits alive still places first last meant before numbered (inl takes) = absurd (never (decision, admits, takes))
      by decision of admits alive still places first last meant before numbered (inr takes) =
          let is = selects_right decision takes in
          subst (λ e. AreMet decision old new result places e log.asked inner.added) (sym is) (inner.here decision of admits alive still places first last meant before (subst (λ e. IsNumberedCore first e last) is numbered))

  pub marked-only_left : (result : ℕ) (old new : Work N) (log later : HoleLog N) (part : Region) → Narrows region dim Left part → (CanTake region dim Right → ⊥) → IsMarked N K part left result old new log later → IsMarked N K region whole result old new log later
  marked-only_left result old new log later part narrows never inner = record {
    asked = inner.asked;
    added = inner.added;
    met = inner.met;
    cells = inner.cells;
    spaces = λ hole is. inner.spaces hole is ∙ narrows.space;
    inside = λ hole decision is within. ((narrows.exactly decision).0 (inner.inside hole decision is within)).0;
    here = λ decision of admits alive still places first last meant before numbered. by decision of admits alive still places first last meant before numbered (side_of decision old.store.space of);
  }
    where
      by : (decision : List Side) → IsOf N old.store.space decision → Admits region decision → fate_at old.pattern decision ≡ Alive → fate_at new.pattern decision ≡ Alive → (places : List Place) (first last : ℕ)
          → AreMeant K (cell_count old.store) (solutions_at old.store decision) decision old.environment places → AreBefore first places → IsNumberedCore first (core_at decision whole) last
          → Takes decision dim Left ⊎ Takes decision dim Right → AreMet decision old new result places (core_at decision whole) log.asked inner.added
      by decision of admits alive still places first last meant before numbered (inr takes) = absurd (never (decision, admits, takes))
      by decision of admits alive still places first last meant before numbered (inl takes) =
          let is = selects_left decision takes in
          subst (λ e. AreMet decision old new result places e log.asked inner.added) (sym is)
          (inner.here decision of ((narrows.exactly decision).1 (admits, takes)) alive still places first last meant before (subst (λ e. IsNumberedCore first e last) is numbered))

  -- both alternatives, each in its part of the context
  module _ (one other result : ℕ) (old middle after new : Work N) (on_left on_right : Region)
      (narrows_left : Narrows region dim Left on_left) (narrows_right : Narrows region dim Right on_right)
      (lefts : IsExpressed N K on_left left one old middle) (rights : IsExpressed N K on_right right other middle after)
      (made : IsNew N (λ decision s type. type ≡ by_side (slice_get decision dim) (s one) (s other)) result after.store new.store)
      (pattern : new.pattern ≡ after.pattern) (environment : new.environment ≡ after.environment) where
    apart : (decision : List Side) → Takes decision dim Left → Takes decision dim Right → ⊥
    apart decision one other =
        let both : Some Left ≡ Some Right = sym one ∙ other in
        cc

    choice_left : (decision : List Side) → IsOf N old.store.space decision → Admits region decision → fate_at old.pattern decision ≡ Alive → (places : List Place) (first last : ℕ)
        → AreMeant K (cell_count old.store) (solutions_at old.store decision) decision old.environment places → AreBefore first places → IsNumberedCore first (core_at decision left) last
        → Takes decision dim Left → IsStep decision old new result places (core_at decision left) first last
    choice_left decision of admits alive places first last meant before numbered takes =
        let of_middle = of_same N region old.store middle.store decision lefts.goes_on.space of in
        let of_after = of_same N region middle.store after.store decision rights.goes_on.space of_middle in
        let not_right : Admits on_right decision → ⊥ = λ admitted. apart decision takes ((narrows_right.exactly decision).0 admitted).1 in
        let A0 = solutions_at old.store decision in
        let A1 = solutions_at middle.store decision in
        let A2 = solutions_at after.store decision in
        let A3 = solutions_at new.store decision in
        let e = core_at decision left in
        let step = lefts.here decision of ((narrows_left.exactly decision).1 (admits, takes)) alive places first last meant before numbered in
        let kept = steps-keeps K places e first last (fate_at middle.pattern decision) (cell_count old.store) (cell_count middle.store) (cell_count after.store) A0 A1 A2 one step (rights.goes_on.elsewhere decision of_middle not_right) in
        let same : Adds (cell_count after.store) (cell_count new.store) A2 A3 result (λ s type. type ≡ s one) =
        subst (λ side. Adds (cell_count after.store) (cell_count new.store) A2 A3 result (λ s type. type ≡ by_side side (s one) (s other))) takes (made.adds decision of_after) in
        let fate : fate_at new.pattern decision ≡ fate_at middle.pattern decision = ap (λ fates. fate_at fates decision) pattern ∙ rights.goes_on.fates decision of_middle not_right in
        subst (Steps K (cell_count old.store) (cell_count new.store) A0 A3 result places e first last) (sym fate)
        (steps-same K places e first last (fate_at middle.pattern decision) (cell_count old.store) (cell_count after.store) (cell_count new.store) A0 A2 A3 one result kept same)

    choice_right : (decision : List Side) → IsOf N old.store.space decision → Admits region decision → fate_at old.pattern decision ≡ Alive → (places : List Place) (first last : ℕ)
        → AreMeant K (cell_count old.store) (solutions_at old.store decision) decision old.environment places → AreBefore first places → IsNumberedCore first (core_at decision right) last
        → Takes decision dim Right → IsStep decision old new result places (core_at decision right) first last
    choice_right decision of admits alive places first last meant before numbered takes =
        let of_middle = of_same N region old.store middle.store decision lefts.goes_on.space of in
        let of_after = of_same N region middle.store after.store decision rights.goes_on.space of_middle in
        let not_left : Admits on_left decision → ⊥ = λ admitted. apart decision ((narrows_left.exactly decision).0 admitted).1 takes in
        let A0 = solutions_at old.store decision in
        let A1 = solutions_at middle.store decision in
        let A2 = solutions_at after.store decision in
        let A3 = solutions_at new.store decision in
        let e = core_at decision right in
        let keeps = lefts.goes_on.elsewhere decision of not_left in
        let meant_middle = subst (λ entries. AreMeant K (cell_count middle.store) A1 decision entries places) (sym lefts.environment)
        (meant-later K (cell_count old.store) (cell_count middle.store) A0 A1 decision old.environment places keeps.grows keeps.old meant) in
        let step = rights.here decision of_middle ((narrows_right.exactly decision).1 (admits, takes)) (lefts.goes_on.fates decision of not_left ∙ alive) places first last meant_middle before numbered in
        let kept = keeps-steps K places e first last (fate_at after.pattern decision) (cell_count old.store) (cell_count middle.store) (cell_count after.store) A0 A1 A2 other
        (meant-cells K (cell_count old.store) A0 decision old.environment places meant) keeps step in
        let same : Adds (cell_count after.store) (cell_count new.store) A2 A3 result (λ s type. type ≡ s other) =
        subst (λ side. Adds (cell_count after.store) (cell_count new.store) A2 A3 result (λ s type. type ≡ by_side side (s one) (s other))) takes (made.adds decision of_after) in
        subst (Steps K (cell_count old.store) (cell_count new.store) A0 A3 result places e first last) (sym (ap (λ fates. fate_at fates decision) pattern))
        (steps-same K places e first last (fate_at after.pattern decision) (cell_count old.store) (cell_count after.store) (cell_count new.store) A0 A2 A3 other result kept same)

    choice_here : (decision : List Side) → IsOf N old.store.space decision → Admits region decision → fate_at old.pattern decision ≡ Alive → (places : List Place) (first last : ℕ)
        → AreMeant K (cell_count old.store) (solutions_at old.store decision) decision old.environment places → AreBefore first places → IsNumberedCore first (core_at decision whole) last
        → Takes decision dim Left ⊎ Takes decision dim Right → IsStep decision old new result places (core_at decision whole) first last
    choice_here decision of admits alive places first last meant before numbered (inl takes) =
        let is = selects_left decision takes in
        subst (λ e. IsStep decision old new result places e first last) (sym is) (choice_left decision of admits alive places first last meant before (subst (λ e. IsNumberedCore first e last) is numbered) takes)
    choice_here decision of admits alive places first last meant before numbered (inr takes) =
        let is = selects_right decision takes in
        subst (λ e. IsStep decision old new result places e first last) (sym is) (choice_right decision of admits alive places first last meant before (subst (λ e. IsNumberedCore first e last) is numbered) takes)

    pub expressed-choice : IsExpressed N K region whole result old new
    expressed-choice = record {
      goes_on = goes_on-then N region old.store after.store new.store old.pattern after.pattern new.pattern
          (goes_on-then N region old.store middle.store after.store old.pattern middle.pattern after.pattern
          (narrowed_goes_on Left on_left old.store middle.store old.pattern middle.pattern narrows_left lefts.goes_on)
          (narrowed_goes_on Right on_right middle.store after.store middle.pattern after.pattern narrows_right rights.goes_on))
          (subst (λ fates. GoesOn N region after.store new.store after.pattern fates) (sym pattern)
          (goes_on-new N region (λ decision s type. type ≡ by_side (slice_get decision dim) (s one) (s other)) result after.store new.store after.pattern
          (λ decision s of solves. (by_side (slice_get decision dim) (s one) (s other), refl)) made));
      environment = environment ∙ rights.environment ∙ lefts.environment;
      is_cell = made.is_cell;
      here = λ decision of admits alive places first last meant before numbered. choice_here decision of admits alive places first last meant before numbered (side_of decision old.store.space of);
    }

    -- the holes of both
    module _ (log between_log later_log : HoleLog N) (marked_left : IsMarked N K on_left left one old middle log between_log) (marked_right : IsMarked N K on_right right other middle after between_log later_log)
        (decision : List Side) (of : IsOf N old.store.space decision) (admits : Admits region decision)
        (alive : fate_at old.pattern decision ≡ Alive) (still : fate_at new.pattern decision ≡ Alive) (places : List Place) (first last : ℕ)
        (meant : AreMeant K (cell_count old.store) (solutions_at old.store decision) decision old.environment places) (before : AreBefore first places) where
      of_middle : IsOf N middle.store.space decision
      of_middle = of_same N region old.store middle.store decision lefts.goes_on.space of

      of_after : IsOf N after.store.space decision
      of_after = of_same N region middle.store after.store decision rights.goes_on.space of_middle

      alive_after : fate_at after.pattern decision ≡ Alive
      alive_after = sym (ap (λ fates. fate_at fates decision) pattern) ∙ still

      have : HaveCells (cell_count old.store) places
      have = meant-cells K (cell_count old.store) (solutions_at old.store decision) decision old.environment places meant

      met_left : Takes decision dim Left → IsNumberedCore first (core_at decision left) last → AreMet decision old new result places (core_at decision left) log.asked (marked_left.added ++ marked_right.added)
      met_left takes numbered = record {
        wanted = λ hole is within. by hole (Contains-append_cases marked_left.added marked_right.added hole is) within;
        reached = λ mark asked holds.
            let (hole, is, within, same) = inside.reached mark asked holds in
            (hole, Contains-append_left marked_left.added marked_right.added hole is, within, same);
      }
        where
          not_right : Admits on_right decision → ⊥
          not_right admitted = apart decision takes ((narrows_right.exactly decision).0 admitted).1

          alive_middle : fate_at middle.pattern decision ≡ Alive
          alive_middle = sym (rights.goes_on.fates decision of_middle not_right) ∙ alive_after

          inside : AreMet decision old middle one places (core_at decision left) log.asked marked_left.added
          inside = marked_left.here decision of ((narrows_left.exactly decision).1 (admits, takes)) alive alive_middle places first last meant before numbered

          same_type : Adds (cell_count after.store) (cell_count new.store) (solutions_at after.store decision) (solutions_at new.store decision) result (λ s type. type ≡ s one)
          same_type = subst (λ side. Adds (cell_count after.store) (cell_count new.store) (solutions_at after.store decision) (solutions_at new.store decision) result (λ s type. type ≡ by_side side (s one) (s other))) takes (made.adds decision of_after)

          by : (hole : MetHole N) → Contains marked_left.added hole ⊎ Contains marked_right.added hole → Admits hole.within decision
              → HoldsHole hole.node (core_at decision left).node (core_at decision left).form
              × AddsAt (cell_count old.store) (cell_count new.store) (solutions_at old.store decision) (solutions_at new.store decision) result hole.cell (TypesAtOf K hole.node places (core_at decision left))
          by hole (inr is) within = absurd (not_right (marked_right.inside hole decision is within))
          by hole (inl is) within =
              let got = inside.wanted hole is within in (
                got.0,
                at-result (cell_count old.store) (cell_count after.store) (cell_count new.store) (solutions_at old.store decision) (solutions_at after.store decision) (solutions_at new.store decision) one result hole.cell (TypesAtOf K hole.node places (core_at decision left))
                    (omega (arith, lefts.goes_on.grows, rights.goes_on.grows))
                    (at-keeps (cell_count old.store) (cell_count middle.store) (cell_count after.store) (solutions_at old.store decision) (solutions_at middle.store decision) (solutions_at after.store decision) one hole.cell (TypesAtOf K hole.node places (core_at decision left))
                    lefts.goes_on.grows lefts.is_cell got.1 (rights.goes_on.elsewhere decision of_middle not_right))
                    same_type,
              )

      met_right : Takes decision dim Right → IsNumberedCore first (core_at decision right) last → AreMet decision old new result places (core_at decision right) log.asked (marked_left.added ++ marked_right.added)
      met_right takes numbered = record {
        wanted = λ hole is within. by hole (Contains-append_cases marked_left.added marked_right.added hole is) within;
        reached = λ mark asked holds.
            let (hole, is, within, same) = inside.reached mark (subst (λ asked. Contains asked mark) (sym marked_left.asked) asked) holds in
            (hole, Contains-append_right marked_left.added marked_right.added hole is, within, same);
      }
        where
          not_left : Admits on_left decision → ⊥
          not_left admitted = apart decision ((narrows_left.exactly decision).0 admitted).1 takes

          keeps : Keeps (cell_count old.store) (cell_count middle.store) (solutions_at old.store decision) (solutions_at middle.store decision)
          keeps = lefts.goes_on.elsewhere decision of not_left

          alive_middle : fate_at middle.pattern decision ≡ Alive
          alive_middle = lefts.goes_on.fates decision of not_left ∙ alive

          inside : AreMet decision middle after other places (core_at decision right) between_log.asked marked_right.added
          inside = marked_right.here decision of_middle ((narrows_right.exactly decision).1 (admits, takes)) alive_middle alive_after places first last
              (subst (λ entries. AreMeant K (cell_count middle.store) (solutions_at middle.store decision) decision entries places) (sym lefts.environment)
              (meant-later K (cell_count old.store) (cell_count middle.store) (solutions_at old.store decision) (solutions_at middle.store decision) decision old.environment places keeps.grows keeps.old meant))
              before numbered

          same_type : Adds (cell_count after.store) (cell_count new.store) (solutions_at after.store decision) (solutions_at new.store decision) result (λ s type. type ≡ s other)
          same_type = subst (λ side. Adds (cell_count after.store) (cell_count new.store) (solutions_at after.store decision) (solutions_at new.store decision) result (λ s type. type ≡ by_side side (s one) (s other))) takes (made.adds decision of_after)

          by : (hole : MetHole N) → Contains marked_left.added hole ⊎ Contains marked_right.added hole → Admits hole.within decision
              → HoldsHole hole.node (core_at decision right).node (core_at decision right).form
              × AddsAt (cell_count old.store) (cell_count new.store) (solutions_at old.store decision) (solutions_at new.store decision) result hole.cell (TypesAtOf K hole.node places (core_at decision right))
          by hole (inl is) within = absurd (not_left (marked_left.inside hole decision is within))
          by hole (inr is) within =
              let got = inside.wanted hole is within in (
                got.0,
                at-result (cell_count old.store) (cell_count after.store) (cell_count new.store) (solutions_at old.store decision) (solutions_at after.store decision) (solutions_at new.store decision) other result hole.cell (TypesAtOf K hole.node places (core_at decision right))
                    (omega (arith, lefts.goes_on.grows, rights.goes_on.grows))
                    (keeps-at K hole.node places (core_at decision right) (cell_count old.store) (cell_count middle.store) (cell_count after.store) (solutions_at old.store decision) (solutions_at middle.store decision) (solutions_at after.store decision) other hole.cell
                    have keeps got.1)
                    same_type,
              )

      choice_met : IsNumberedCore first (core_at decision whole) last → Takes decision dim Left ⊎ Takes decision dim Right → AreMet decision old new result places (core_at decision whole) log.asked (marked_left.added ++ marked_right.added)
      choice_met numbered (inl takes) =
          let is = selects_left decision takes in
          subst (λ e. AreMet decision old new result places e log.asked (marked_left.added ++ marked_right.added)) (sym is) (met_left takes (subst (λ e. IsNumberedCore first e last) is numbered))
      choice_met numbered (inr takes) =
          let is = selects_right decision takes in
          subst (λ e. AreMet decision old new result places e log.asked (marked_left.added ++ marked_right.added)) (sym is) (met_right takes (subst (λ e. IsNumberedCore first e last) is numbered))

    pub marked-choice : (log between_log later_log : HoleLog N) → IsMarked N K on_left left one old middle log between_log → IsMarked N K on_right right other middle after between_log later_log
        → IsMarked N K region whole result old new log later_log
    marked-choice log between_log later_log marked_left marked_right = record {
      asked = marked_right.asked ∙ marked_left.asked;
      added = marked_left.added ++ marked_right.added;
      met = both_added log between_log later_log marked_left.added marked_right.added marked_left.met marked_right.met;
      cells = λ hole is. added_cells marked_left.added marked_right.added (cell_count middle.store) (cell_count after.store) (cell_count new.store) rights.goes_on.grows made.grows marked_left.cells marked_right.cells hole is;
      spaces = λ hole is. added_spaces marked_left.added marked_right.added region.space (λ hole is. marked_left.spaces hole is ∙ narrows_left.space) (λ hole is. marked_right.spaces hole is ∙ narrows_right.space) hole is;
      inside = λ hole decision is within. added_inside marked_left.added marked_right.added region
          (λ hole decision is within. ((narrows_left.exactly decision).0 (marked_left.inside hole decision is within)).0)
          (λ hole decision is within. ((narrows_right.exactly decision).0 (marked_right.inside hole decision is within)).0) hole decision is within;
      here = λ decision of admits alive still places first last meant before numbered.
          choice_met log between_log later_log marked_left marked_right decision of admits alive still places first last meant before numbered (side_of decision old.store.space of);
    }
