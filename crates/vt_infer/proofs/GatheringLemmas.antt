use Rattle.std.proofs.Common.{◌≡◌, ◌⊎◌, ◌↔◌, inl, inr, ℕ, suc, ◌+◌, ◌<◌, true, false, List, [], ◌∷◌, ◌++◌, take, drop, slice_get, Some, add-one, refl, sym, ap, subst, ◌∙◌, arith}
use Rattle.std.specs.List.{Contains}
use Rattle.std.specs.Option.{option_map}
use Rattle.std.proofs.lemmas.Option.{slice_get-map}
use Rattle.std.proofs.lemmas.List.Elements.{Contains-append_left, Contains-append_right, Contains-append_cases}
use Rattle.vt_dec.specs.declared.side.Side.{Side}
use Rattle.vt_dec.specs.declared.fate.Fate.TheVariants.{Alive}
use Rattle.vt_dec.specs.Decisions.{Region, Admits}
use Rattle.vt_syntax.specs.declared.core_program.CoreDef.{CoreDef}
use Rattle.vt_syntax.specs.declared.core_program.CoreProgram.{CoreProgram}
use Rattle.vt_syntax.specs.Programs.{nested}
use Rattle.vt_syntax.specs.Selection.{core_at, selected_core_def}
use Rattle.vt_type.specs.declared.plain.Plain.{Plain}
use Rattle.vt_type.specs.Plain.{IsWellFormed}
use Rattle.vt_type.specs.Constants.{Constant}
use Rattle.vt_rules.specs.Env.{Empty}
use Rattle.vt_rules.specs.TypingAt.{HoldsHole}
use Rattle.vt_store.specs.Patterns.{fate_at}
use Rattle.vt_store.specs.Stores.{Cells, cell_count}
use Rattle.vt_store.specs.Writes.{IsOf}
use Rattle.vt_infer.specs.declared.environment.Entry.TheVariants.{Mono}
use Rattle.vt_infer.specs.declared.holes.MetHole.{MetHole}
use Rattle.vt_infer.specs.declared.work.Work.{Work}
use Rattle.vt_infer.specs.Definitions.{placed, place_of, places_after, env_after, DefinitionSteps}
use Rattle.vt_infer.specs.Environments.{AreMeant, schemes_of}
use Rattle.vt_infer.specs.Gathering.{AreMetIn, IsMarkedDefinition, IsAddedWith, HoldsIn, GivesIn, AreGatheredAt, AreGathered}
use Rattle.vt_infer.specs.Inferring.{IsNew, IsEquated, IsExpressed, solutions_at}
use Rattle.vt_infer.specs.Meetings.{HoleLog, AreMetAt, IsMarked}
use Rattle.vt_infer.specs.Numbered.{AreBefore, IsNumberedCore}
use Rattle.vt_infer.specs.Parts.{Covers, IsAdded, IsReached, IsReachedAt, AreKnown, defs_at, def_at}
use Rattle.vt_infer.specs.Places.{Place, At, HaveCells, env_at, Gives}
use Rattle.vt_infer.specs.Steps.{Solutions, Adds, Equates, Steps, TypesOf}
use Rattle.vt_infer.specs.Wanted.{AddsAt, GivesAt}
use Rattle.vt_infer.proofs.DefinitionLemmas.{env-places, places-cells}
use Rattle.vt_infer.proofs.GoingOn.{of_same, alive_before}
use Rattle.vt_infer.proofs.HolesWithin.{holds-within}
use Rattle.vt_infer.proofs.KnownLemmas.{are_meant, take-at, drop-at}
use Rattle.vt_infer.proofs.MarkedSteps.{looped_at}
use Rattle.vt_infer.proofs.NestedHoles.{holds_in-append, holds_in-left, holds_in-right, holds_in-before, gives_in-holds, gives_in-append, gives_in-left, gives_in-right}
use Rattle.vt_infer.proofs.PartsExpressed.{added_cells, added_spaces}
use Rattle.vt_infer.proofs.PartLemmas.{two_numbered}

-- The holes of definitions, one after the other.

module _ (N : ℕ) (K : List Constant) (region : Region) (def : CoreDef) (old : Work N) where
  -- those of a definition, from its expression
  pub plain_marked : def.recursive ≡ false → (result : ℕ) (new : Work N) (log later : HoleLog N) → IsMarked N K region def.body result old new log later → IsMarkedDefinition N K region def result old new log later
  plain_marked is result new log later marked = record {
    asked = marked.asked;
    added = marked.added;
    met = marked.met;
    cells = marked.cells;
    spaces = marked.spaces;
    here = λ decision of admits alive still places first known cells before body.
        let inside = marked.here decision of admits alive still places first def.node (are_meant K (cell_count old.store) (solutions_at old.store decision) decision old.environment places known) before body in
        record {
          wanted = λ hole own within.
              let got = inside.wanted hole own within in
              (got.0, subst (λ r. AddsAt (cell_count old.store) (cell_count new.store) (solutions_at old.store decision) (solutions_at new.store decision) result hole.cell (λ s type wanted. GivesAt K hole.node (env_at s places) (placed (def_at decision def) r) type wanted)) (sym is) got.1);
          reached = inside.reached;
        };
  }

  -- those of a recursive one
  module _ (is : def.recursive ≡ true) (parameter : ℕ) (opened : Cells) (new : IsNew N (λ decision s type. IsWellFormed type) parameter old.store opened) (own : ℕ) (expressed last : Work N)
      (e : IsExpressed N K region def.body own (record { store = opened; pattern = old.pattern; environment = Mono parameter ∷ old.environment }) expressed)
      (equated : IsEquated N region own parameter def.node expressed.store last.store expressed.pattern last.pattern)
      (log later : HoleLog N) (marked : IsMarked N K region def.body own (record { store = opened; pattern = old.pattern; environment = Mono parameter ∷ old.environment }) expressed log later) where
    module _ (decision : List Side) (of : IsOf N old.store.space decision) (admits : Admits region decision) (alive : fate_at old.pattern decision ≡ Alive) (still : fate_at last.pattern decision ≡ Alive)
        (places : List Place) (first : ℕ) (known : AreKnown K decision old.environment places) (cells : HaveCells (cell_count old.store) places) (before : AreBefore first places) (body : IsNumberedCore first (core_at decision def.body) def.node) where
      of_opened : IsOf N opened.space decision
      of_opened = of_same N region old.store opened decision new.space of

      of_expressed : IsOf N expressed.store.space decision
      of_expressed = of_same N region opened expressed.store decision e.goes_on.space of_opened

      alive_expressed : fate_at expressed.pattern decision ≡ Alive
      alive_expressed = alive_before (fate_at expressed.pattern decision) (fate_at last.pattern decision) (equated.goes_on.dead decision of_expressed) still

      meant : AreMeant K (cell_count opened) (solutions_at opened decision) decision old.environment places
      meant = are_meant K (cell_count opened) (solutions_at opened decision) decision old.environment places known

      plain : Adds (cell_count opened) (cell_count expressed.store) (solutions_at opened decision) (solutions_at expressed.store decision) own (TypesOf K (At parameter ∷ places) (core_at decision def.body))
      plain = subst (Steps K (cell_count opened) (cell_count expressed.store) (solutions_at opened decision) (solutions_at expressed.store decision) own (At parameter ∷ places) (core_at decision def.body) first def.node) alive_expressed
          (e.here decision of_opened admits alive (At parameter ∷ places) first def.node ((refl, new.is_cell), meant) before body)

      equal : Equates (solutions_at expressed.store decision) (solutions_at last.store decision) own parameter def.node Alive
      equal = subst (Equates (solutions_at expressed.store decision) (solutions_at last.store decision) own parameter def.node) still (equated.here decision of_expressed admits alive_expressed)

      inside : AreMetAt K (cell_count opened) (cell_count expressed.store) (solutions_at opened decision) (solutions_at expressed.store decision) own (At parameter ∷ places) (core_at decision def.body) decision log.asked marked.added
      inside = marked.here decision of_opened admits alive alive_expressed (At parameter ∷ places) first def.node ((refl, new.is_cell), meant) before body

      looped_met : AreMetIn K (cell_count old.store) (cell_count last.store) (solutions_at old.store decision) (solutions_at last.store decision) parameter places (def_at decision def) decision log.asked marked.added
      looped_met = record {
        wanted = λ hole own_hole within.
            let got = inside.wanted hole own_hole within in (
              got.0,
              subst (λ m. AddsAt (cell_count old.store) m (solutions_at old.store decision) (solutions_at last.store decision) parameter hole.cell (λ s type wanted. GivesAt K hole.node (env_at s places) (place_of (def_at decision def)) type wanted)) (sym equated.cells)
                  (subst (λ r. AddsAt (cell_count old.store) (cell_count expressed.store) (solutions_at old.store decision) (solutions_at last.store decision) parameter hole.cell (λ s type wanted. GivesAt K hole.node (env_at s places) (placed (def_at decision def) r) type wanted)) (sym is)
                  (looped_at K hole.node places def.node def.name_span (core_at decision def.body) (cell_count old.store) (cell_count opened) (cell_count expressed.store) (solutions_at old.store decision) (solutions_at opened decision) (solutions_at expressed.store decision) (solutions_at last.store decision)
                  parameter own hole.cell cells (new.adds decision of) plain got.1 equal)),
            );
        reached = inside.reached;
      }

    pub looped_marked : IsMarkedDefinition N K region def parameter old last log later
    looped_marked = record {
      asked = marked.asked;
      added = marked.added;
      met = marked.met;
      cells = λ hole own_hole. subst (λ n. hole.cell < n) (sym equated.cells) (marked.cells hole own_hole);
      spaces = marked.spaces;
      here = looped_met;
    }

-- one more definition, at a decision that stays alive
module _ (N : ℕ) (K : List Constant) (decision : List Side) (done : List CoreDef) (here : CoreDef) (n m : ℕ) (A B : Solutions) (root first : ℕ)
    (before : AreBefore first (places_after [] done)) (body : IsNumberedCore first here.body here.node)
    (adds : Adds n m A B root (λ s type. Gives K (env_at s (places_after [] done)) (place_of here) type)) (some : (s : ℕ → Plain) × A s) (other : (s : ℕ → Plain) × B s)
    (asked : List ℕ) (met added : List (MetHole N)) (old : AreGatheredAt K n A done decision asked met) (there : (hole : MetHole N) → Contains met hole → hole.cell < n)
    (own : AreMetIn K n m A B root (places_after [] done) here decision asked added) where
  env : (s : ℕ → Plain) → env_at s (places_after [] done) ≡ env_after Empty done
  env s = env-places s [] done

  -- the definition has some type
  given : (s : ℕ → Plain) → (type : Plain) × Gives K (env_at s (places_after [] done)) (place_of here) type
  given s = (other.0 root, subst (λ e. Gives K e (place_of here) (other.0 root)) (env other.0 ∙ sym (env s)) (adds.related other.0 other.1))

  -- a hole that stands in what came before does not stand in it
  apart : (mark : ℕ) → HoldsIn mark done → HoldsHole mark here.body.node here.body.form → ⊥
  apart mark one two =
      let less = holds_in-before first mark [] done before one in
      let within = holds-within mark first here.body here.node body two in
      omega (arith, within.0)

  apart_in : (mark : ℕ) → HoldsIn mark done → HoldsIn mark (here ∷ []) → ⊥
  apart_in mark one (inl two) = apart mark one two
  apart_in mark one (inr two) = two

  -- the one definition that is left
  only : (mark : ℕ) (wanted : Plain) → GivesIn K mark (env_after Empty done) (here ∷ []) wanted → (type : Plain) × GivesAt K mark (env_after Empty done) (place_of here) type wanted
  only mark wanted (inl found) = found
  only mark wanted (inr none) = absurd none

  old_types : (hole : MetHole N) → Contains met hole → Admits hole.within decision → (wanted : Plain) → ((s : ℕ → Plain) × B s × (s hole.cell ≡ wanted)) ↔ GivesIn K hole.node Empty (done ++ here ∷ []) wanted
  old_types hole is within wanted = (
    λ found. gives_in-left K hole.node Empty done (here ∷ []) wanted ((old.types hole is within wanted).0 (found.0, adds.old found.0 found.1, found.2)),
    λ g. back (gives_in-append K hole.node Empty done (here ∷ []) wanted g),
  )
    where
      back : GivesIn K hole.node Empty done wanted ⊎ GivesIn K hole.node (env_after Empty done) (here ∷ []) wanted → (s : ℕ → Plain) × B s × (s hole.cell ≡ wanted)
      back (inl one) =
          let (s, a, same) = (old.types hole is within wanted).1 one in
          let (type, d) = given s in
          let (t, b, agree, _) = adds.taken s type a d in
          (t, b, agree hole.cell (there hole is) ∙ same)
      back (inr two) = absurd (apart_in hole.node (old.holds hole is within) (gives_in-holds K hole.node (env_after Empty done) (here ∷ []) wanted two))

  new_types : (hole : MetHole N) → Contains added hole → Admits hole.within decision → (wanted : Plain) → ((s : ℕ → Plain) × B s × (s hole.cell ≡ wanted)) ↔ GivesIn K hole.node Empty (done ++ here ∷ []) wanted
  new_types hole is within wanted = (
    λ found.
        let (s, b, same) = found in
        gives_in-right K hole.node Empty done (here ∷ []) wanted
        (inl (s root, subst (GivesAt K hole.node (env_after Empty done) (place_of here) (s root)) same (subst (λ e. GivesAt K hole.node e (place_of here) (s root) (s hole.cell)) (env s) ((own.wanted hole is within).1.related s b)))),
    λ g. back (gives_in-append K hole.node Empty done (here ∷ []) wanted g),
  )
    where
      back : GivesIn K hole.node Empty done wanted ⊎ GivesIn K hole.node (env_after Empty done) (here ∷ []) wanted → (s : ℕ → Plain) × B s × (s hole.cell ≡ wanted)
      back (inl one) = absurd (apart hole.node (gives_in-holds K hole.node Empty done wanted one) (own.wanted hole is within).0)
      back (inr two) =
          let (type, d) = only hole.node wanted two in
          let (s, a) = some in
          let (t, b, agree, _, same) = (own.wanted hole is within).1.taken s type wanted a (subst (λ e. GivesAt K hole.node e (place_of here) type wanted) (sym (env s)) d) in
          (t, b, same)

  reach : (mark : ℕ) → Contains asked mark → HoldsIn mark done ⊎ HoldsIn mark (here ∷ []) → (hole : MetHole N) × Contains (met ++ added) hole × Admits hole.within decision × (hole.node ≡ mark)
  reach mark in_asked (inl one) = let (hole, is, within, same) = old.reached mark in_asked one in (hole, Contains-append_left met added hole is, within, same)
  reach mark in_asked (inr (inl two)) = let (hole, is, within, same) = own.reached mark in_asked two in (hole, Contains-append_right met added hole is, within, same)
  reach mark in_asked (inr (inr none)) = absurd none

  pub gathered_next : AreGatheredAt K m B (done ++ here ∷ []) decision asked (met ++ added)
  gathered_next = record {
    holds = λ hole is within. elim (Contains-append_cases met added hole is) [
      | inl one ↦ holds_in-left hole.node done (here ∷ []) (old.holds hole one within)
      | inr two ↦ holds_in-right hole.node done (here ∷ []) (inl (own.wanted hole two within).0)
    ];
    types = λ hole is within. elim (Contains-append_cases met added hole is) [
      | inl one ↦ old_types hole one within
      | inr two ↦ new_types hole two within
    ];
    reached = λ mark in_asked h. reach mark in_asked (holds_in-append mark done (here ∷ []) h);
  }

-- one more definition in the loop
module _ (N : ℕ) (K : List Constant) (region : Region) (core : CoreProgram) (count : ℕ) (old : Work N) (marks : List ℕ) (h : IsReached N K core region.space count old marks)
    (log : HoleLog N) (g : AreGathered N K core region.space count old log) (def : CoreDef) (is : slice_get core.defs count ≡ Some def) (covers : Covers N region region.space)
    (new : Work N) (later : List ℕ) (later_log : HoleLog N) (with_holes : IsAddedWith N K region def old new marks later log later_log) where
  abbrev added : IsAdded N K region def old new marks later
  added = with_holes.added

  abbrev marked : IsMarkedDefinition N K region def added.root old added.between log later_log
  marked = with_holes.marked

  module _ (decision : List Side) (of : IsOf N region.space decision) (alive_between : fate_at added.between.pattern decision ≡ Alive) where
    abbrev defs : List CoreDef
    defs = defs_at decision core.defs

    abbrev done : List CoreDef
    done = take count defs

    abbrev here : CoreDef
    here = def_at decision def

    found : slice_get defs count ≡ Some here
    found = slice_get-map (selected_core_def (slice_get decision)) core.defs count ∙ ap (option_map (selected_core_def (slice_get decision))) is

    of_old : IsOf N old.store.space decision
    of_old = subst (λ space. IsOf N space decision) (sym h.store_space) of

    of_between : IsOf N added.between.store.space decision
    of_between = subst (λ space. IsOf N space decision) (sym (added.defined.space ∙ h.store_space)) of

    alive_old : fate_at old.pattern decision ≡ Alive
    alive_old = alive_before (fate_at old.pattern decision) (fate_at added.between.pattern decision) (added.defined.dead decision of_old) alive_between

    at : IsReachedAt K core count decision old.environment (schemes_of old.environment) marks (fate_at old.pattern decision)
    at = h.at decision of

    body : IsNumberedCore at.first here.body def.node
    body = (two_numbered at.first here (nested (drop (suc count) defs) (core_at decision core.main)) at.last here.recursive
        (subst (λ list. IsNumberedCore at.first (nested list (core_at decision core.main)) at.last) (drop-at defs count here found) at.numbered)).0

    cells : HaveCells (cell_count old.store) (places_after [] done)
    cells = (places-cells (cell_count old.store) [] done tt refl).0

    adds : Adds (cell_count old.store) (cell_count added.between.store) (solutions_at old.store decision) (solutions_at added.between.store decision) added.root (λ s type. Gives K (env_at s (places_after [] done)) (place_of here) type)
    adds = subst (DefinitionSteps K (cell_count old.store) (cell_count added.between.store) (solutions_at old.store decision) (solutions_at added.between.store decision) added.root (places_after [] done) here at.first) alive_between
        (added.defined.here decision of_old (covers decision of) alive_old (places_after [] done) at.first (at.known alive_old) cells at.before body)

    next_at : AreGatheredAt K (cell_count added.between.store) (solutions_at added.between.store decision) (take (suc count) defs) decision log.asked (log.met ++ marked.added)
    next_at =
        subst (λ list. AreGatheredAt K (cell_count added.between.store) (solutions_at added.between.store decision) list decision log.asked (log.met ++ marked.added)) (sym (take-at defs count here found))
        (gathered_next N K decision done here (cell_count old.store) (cell_count added.between.store) (solutions_at old.store decision) (solutions_at added.between.store decision) added.root at.first at.before body adds
        (added.solvable decision of_old) (added.solvable_after decision of_between) log.asked log.met marked.added (g.at decision of alive_old) g.cells
        (marked.here decision of_old (covers decision of) alive_old alive_between (places_after [] done) at.first (at.known alive_old) cells at.before body))

  pub gathered_added : AreGathered N K core region.space (count + 1) new later_log
  gathered_added =
      subst (λ number. AreGathered N K core region.space number new later_log) (sym (add-one count)) (record {
        cells = λ hole one.
            subst (λ store. hole.cell < cell_count store) (sym added.store)
            (added_cells log.met marked.added (cell_count old.store) (cell_count added.between.store) (cell_count added.between.store) added.defined.grows (omega arith) g.cells marked.cells hole (subst (λ met. Contains met hole) marked.met one));
        spaces = λ hole one. added_spaces log.met marked.added region.space g.spaces marked.spaces hole (subst (λ met. Contains met hole) marked.met one);
        at = λ decision of alive.
            subst (λ store. AreGatheredAt K (cell_count store) (solutions_at store decision) (take (suc count) (defs_at decision core.defs)) decision later_log.asked later_log.met) (sym added.store)
            (subst (λ asked. AreGatheredAt K (cell_count added.between.store) (solutions_at added.between.store decision) (take (suc count) (defs_at decision core.defs)) decision asked later_log.met) (sym marked.asked)
            (subst (AreGatheredAt K (cell_count added.between.store) (solutions_at added.between.store decision) (take (suc count) (defs_at decision core.defs)) decision log.asked) (sym marked.met)
            (next_at decision of (sym (ap (λ fates. fate_at fates decision) added.pattern) ∙ alive))));
      })
