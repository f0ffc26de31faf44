use Rattle.std.proofs.Common.{◌≡◌, ◌⊎◌, inl, inr, ℕ, suc, ◌<◌, ◌≤◌, List, ◌∷◌, ◌++◌, refl, ap, sym, subst, ◌∙◌, arith}
use Rattle.std.specs.List.{Contains}
use Rattle.std.proofs.lemmas.List.Elements.{Contains-append_left, Contains-append_right, Contains-append_cases}
use Rattle.vt_dec.specs.declared.side.Side.{Side}
use Rattle.vt_dec.specs.declared.fate.Fate.TheVariants.{Alive}
use Rattle.vt_dec.specs.Decisions.{Region, Admits}
use Rattle.vt_lex.specs.declared.span.Span.{Span}
use Rattle.vt_syntax.specs.declared.core_expr.Core.{Core}
use Rattle.vt_syntax.specs.CoreTrees.{core, let_rec_form}
use Rattle.vt_syntax.specs.Selection.{core_at}
use Rattle.vt_type.specs.Plain.{IsWellFormed}
use Rattle.vt_type.specs.Constants.{Constant, IsTable}
use Rattle.vt_store.specs.Patterns.{fate_at}
use Rattle.vt_store.specs.Stores.{cell_count}
use Rattle.vt_store.specs.Writes.{IsOf}
use Rattle.vt_infer.specs.Places.{Place, At, Looped, env_at, HaveCells, Gives}
use Rattle.vt_infer.specs.Numbered.{AreBefore, IsNumberedCore}
use Rattle.vt_infer.specs.Steps.{AreFormed, Adds, Equates, Steps, TypesOf}
use Rattle.vt_infer.specs.Environments.{AreMeant}
use Rattle.vt_infer.specs.Inferring.{solutions_at, GoesOn, IsNew, IsEquated, IsGeneralised, IsExpressed}
use Rattle.vt_infer.specs.declared.environment.Entry.TheVariants.{Mono}
use Rattle.vt_infer.specs.declared.work.Work.{Work}
use Rattle.vt_infer.specs.declared.holes.MetHole.{MetHole}
use Rattle.vt_infer.specs.Meetings.{HoleLog, AreMetAt, IsMarked}
use Rattle.vt_infer.specs.Wanted.{AddsAt, TypesAtOf}
use Rattle.vt_rules.specs.TypingAt.{HoldsHole}
use Rattle.vt_infer.proofs.MarkedSteps.{looped_at, rec_bound_at, rec_body_at}
use Rattle.vt_infer.proofs.HolesWithin.{holds-one}
use Rattle.vt_infer.proofs.FormSteps.{looped, let_rec_step}
use Rattle.vt_infer.proofs.NumberLemmas.{numbered-within}
use Rattle.vt_infer.proofs.PlaceLemmas.{are_before-later}
use Rattle.vt_infer.proofs.GoingOn.{goes_on-then, of_same, meant-cells, meant-later, formed_at, alive_before}
use Rattle.vt_infer.proofs.PartsExpressed.{opened, both_added, added_cells, added_spaces, added_inside}
use Rattle.vt_infer.proofs.LetsExpressed.{meant-looped, bound_before}

-- `let rec`, from its parts.

module _ (N : ℕ) (K : List Constant) (table : IsTable K) (region : Region) (node : ℕ) (at : Span)
    (name : List ℕ) (name_at : Span) (bound body : Core) (parameter own result : ℕ) (old opened_work inner equal_work general_work after new : Work N)
    (open_cell : IsNew N (λ decision s type. IsWellFormed type) parameter old.store opened_work.store) (later : cell_count old.store ≤ parameter)
    (open_pattern : opened_work.pattern ≡ old.pattern) (open_environment : opened_work.environment ≡ Mono parameter ∷ old.environment)
    (left : IsExpressed N K region bound own opened_work inner)
    (equal : IsEquated N region own parameter node inner.store equal_work.store inner.pattern equal_work.pattern) (equal_environment : equal_work.environment ≡ old.environment)
    (same_store : general_work.store ≡ equal_work.store) (same_pattern : general_work.pattern ≡ equal_work.pattern)
    (general : IsGeneralised N equal_work.store parameter equal_work.environment general_work.environment)
    (right : IsExpressed N K region body result general_work after)
    (last_store : new.store ≡ after.store) (last_pattern : new.pattern ≡ after.pattern) (environment : new.environment ≡ old.environment) where
  goes_on_inner : GoesOn N region old.store inner.store old.pattern inner.pattern
  goes_on_inner = goes_on-then N region old.store opened_work.store inner.store old.pattern opened_work.pattern inner.pattern (opened N region old opened_work parameter open_cell open_pattern) left.goes_on

  goes_on_equal : GoesOn N region old.store equal_work.store old.pattern equal_work.pattern
  goes_on_equal = goes_on-then N region old.store inner.store equal_work.store old.pattern inner.pattern equal_work.pattern goes_on_inner equal.goes_on

  goes_on_new : GoesOn N region old.store new.store old.pattern new.pattern
  goes_on_new =
      subst (λ store. GoesOn N region old.store store old.pattern new.pattern) (sym last_store)
      (subst (λ fates. GoesOn N region old.store after.store old.pattern fates) (sym last_pattern)
      (goes_on-then N region old.store general_work.store after.store old.pattern general_work.pattern after.pattern
      (subst (λ store. GoesOn N region old.store store old.pattern general_work.pattern) (sym same_store)
      (subst (λ fates. GoesOn N region old.store equal_work.store old.pattern fates) (sym same_pattern) goes_on_equal))
      right.goes_on))

  -- at one decision
  module _ (decision : List Side) (of : IsOf N old.store.space decision) (admits : Admits region decision) (alive : fate_at old.pattern decision ≡ Alive)
      (places : List Place) (first last : ℕ)
      (meant : AreMeant K (cell_count old.store) (solutions_at old.store decision) decision old.environment places)
      (before : AreBefore first places) (bound_numbered : IsNumberedCore first (core_at decision bound) node) (body_numbered : IsNumberedCore (suc node) (core_at decision body) last) where
    of_inner : IsOf N inner.store.space decision
    of_inner = of_same N region old.store inner.store decision goes_on_inner.space of

    of_equal : IsOf N equal_work.store.space decision
    of_equal = of_same N region old.store equal_work.store decision goes_on_equal.space of

    of_general : IsOf N general_work.store.space decision
    of_general = subst (λ store. IsOf N store.space decision) (sym same_store) of_equal

    cells : HaveCells (cell_count old.store) places
    cells = meant-cells K (cell_count old.store) (solutions_at old.store decision) decision old.environment places meant

    alive_opened : fate_at opened_work.pattern decision ≡ Alive
    alive_opened = ap (λ fates. fate_at fates decision) open_pattern ∙ alive

    -- what the environment means with the parameter
    opened_meant : AreMeant K (cell_count opened_work.store) (solutions_at opened_work.store decision) decision opened_work.environment (At parameter ∷ places)
    opened_meant =
        subst (λ entries. AreMeant K (cell_count opened_work.store) (solutions_at opened_work.store decision) decision entries (At parameter ∷ places)) (sym open_environment)
        ((refl, open_cell.is_cell), meant-later K (cell_count old.store) (cell_count opened_work.store) (solutions_at old.store decision) (solutions_at opened_work.store decision) decision old.environment places open_cell.grows (open_cell.adds decision of).old meant)

    bound_here : Steps K (cell_count opened_work.store) (cell_count inner.store) (solutions_at opened_work.store decision) (solutions_at inner.store decision) own (At parameter ∷ places) (core_at decision bound) first node (fate_at inner.pattern decision)
    bound_here =
        left.here decision (of_same N region old.store opened_work.store decision open_cell.space of) admits alive_opened (At parameter ∷ places) first node opened_meant before bound_numbered

    equal_formed : AreFormed (cell_count inner.store) (solutions_at equal_work.store decision)
    equal_formed = subst (λ n. AreFormed n (solutions_at equal_work.store decision)) equal.cells (formed_at equal_work.store decision)

    -- the types of the cell once it is equal to the bound expression's
    loop_here : fate_at inner.pattern decision ≡ Alive → fate_at equal_work.pattern decision ≡ Alive
        → Adds (cell_count old.store) (cell_count inner.store) (solutions_at old.store decision) (solutions_at equal_work.store decision) parameter (λ s type. Gives K (env_at s places) (Looped (core_at decision bound)) type)
    loop_here inner_alive equal_alive =
        looped K table places node at first last before (core_at decision bound) (cell_count old.store) (cell_count opened_work.store) (cell_count inner.store)
        (solutions_at old.store decision) (solutions_at opened_work.store decision) (solutions_at inner.store decision) (solutions_at equal_work.store decision) parameter own
        cells (open_cell.adds decision of) later
        (subst (Steps K (cell_count opened_work.store) (cell_count inner.store) (solutions_at opened_work.store decision) (solutions_at inner.store decision) own (At parameter ∷ places) (core_at decision bound) first node) inner_alive bound_here)
        (subst (Equates (solutions_at inner.store decision) (solutions_at equal_work.store decision) own parameter node) equal_alive (equal.here decision of_inner admits inner_alive))
        equal_formed

    -- what the environment means with the bound name, and that its nodes come before the body's
    general_meant : fate_at equal_work.pattern decision ≡ Alive
        → AreMeant K (cell_count general_work.store) (solutions_at general_work.store decision) decision general_work.environment (Looped (core_at decision bound) ∷ places)
    general_meant equal_alive =
        let inner_alive = alive_before (fate_at inner.pattern decision) (fate_at equal_work.pattern decision) (equal.goes_on.dead decision of_inner) equal_alive in
        let loop = subst (λ n. Adds (cell_count old.store) n (solutions_at old.store decision) (solutions_at equal_work.store decision) parameter (λ s type. Gives K (env_at s places) (Looped (core_at decision bound)) type)) (sym equal.cells) (loop_here inner_alive equal_alive) in
        let meant_equal = subst (λ entries. AreMeant K (cell_count old.store) (solutions_at old.store decision) decision entries places) (sym equal_environment) meant in
        subst (λ store. AreMeant K (cell_count store) (solutions_at store decision) decision general_work.environment (Looped (core_at decision bound) ∷ places)) (sym same_store)
        (meant-looped N K table region node at equal_work.environment general_work.environment equal_work.store parameter general decision of_equal places first last before
        (core_at decision bound) (cell_count old.store) (solutions_at old.store decision) goes_on_equal.grows loop.old meant_equal loop)

    bound_earlier : AreBefore (suc node) (Looped (core_at decision bound) ∷ places)
    bound_earlier =
        let within = numbered-within first (core_at decision bound).node (core_at decision bound).form node bound_numbered in
        (bound_before first node (core_at decision bound) bound_numbered, are_before-later first (suc node) places (omega (arith, within.0, within.1)) before)

    -- the body's step, where the decision is still alive
    body_here : fate_at equal_work.pattern decision ≡ Alive
        → Steps K (cell_count inner.store) (cell_count after.store) (solutions_at equal_work.store decision) (solutions_at after.store decision) result (Looped (core_at decision bound) ∷ places) (core_at decision body) (suc node) last (fate_at after.pattern decision)
    body_here equal_alive =
        let step = right.here decision of_general admits (ap (λ fates. fate_at fates decision) same_pattern ∙ equal_alive) (Looped (core_at decision bound) ∷ places) (suc node) last
        (general_meant equal_alive) bound_earlier body_numbered in
        subst (λ n. Steps K n (cell_count after.store) (solutions_at equal_work.store decision) (solutions_at after.store decision) result (Looped (core_at decision bound) ∷ places) (core_at decision body) (suc node) last (fate_at after.pattern decision)) equal.cells
        (subst (λ store. Steps K (cell_count store) (cell_count after.store) (solutions_at store decision) (solutions_at after.store decision) result (Looped (core_at decision bound) ∷ places) (core_at decision body) (suc node) last (fate_at after.pattern decision)) same_store step)

    after_dead : (fate_at equal_work.pattern decision ≡ Alive → ⊥) → fate_at after.pattern decision ≡ fate_at equal_work.pattern decision
    after_dead died =
        let same_fate : fate_at general_work.pattern decision ≡ fate_at equal_work.pattern decision = ap (λ fates. fate_at fates decision) same_pattern in
        right.goes_on.dead decision of_general (λ still. died (sym same_fate ∙ still)) ∙ same_fate

    let_rec_here : Steps K (cell_count old.store) (cell_count after.store) (solutions_at old.store decision) (solutions_at after.store decision) result places (core node at (let_rec_form name name_at (core_at decision bound) (core_at decision body))) first last (fate_at after.pattern decision)
    let_rec_here =
        let_rec_step K table places node at first last before name name_at (core_at decision bound) (core_at decision body)
        (cell_count old.store) (cell_count opened_work.store) (cell_count inner.store) (cell_count after.store)
        (solutions_at old.store decision) (solutions_at opened_work.store decision) (solutions_at inner.store decision) (solutions_at equal_work.store decision) (solutions_at after.store decision)
        parameter own result (fate_at inner.pattern decision) (fate_at equal_work.pattern decision) (fate_at after.pattern decision)
        cells (formed_at old.store decision) (formed_at opened_work.store decision) (formed_at inner.store decision) equal_formed
        bound_numbered body_numbered (equal.some decision of_inner) (open_cell.adds decision of) later bound_here
        (equal.here decision of_inner admits) (equal.goes_on.dead decision of_inner)
        body_here after_dead

    -- the holes of its parts
    module _ (log between_log later_log : HoleLog N) (lefts : IsMarked N K region bound own opened_work inner log between_log) (rights : IsMarked N K region body result general_work after between_log later_log)
        (alive_after : fate_at after.pattern decision ≡ Alive) where
      alive_general : fate_at general_work.pattern decision ≡ Alive
      alive_general = alive_before (fate_at general_work.pattern decision) (fate_at after.pattern decision) (right.goes_on.dead decision of_general) alive_after

      alive_equal : fate_at equal_work.pattern decision ≡ Alive
      alive_equal = sym (ap (λ fates. fate_at fates decision) same_pattern) ∙ alive_general

      alive_inner : fate_at inner.pattern decision ≡ Alive
      alive_inner = alive_before (fate_at inner.pattern decision) (fate_at equal_work.pattern decision) (equal.goes_on.dead decision of_inner) alive_equal

      step_left : Adds (cell_count old.store) (cell_count inner.store) (solutions_at old.store decision) (solutions_at equal_work.store decision) parameter (λ s type. Gives K (env_at s places) (Looped (core_at decision bound)) type)
      step_left = loop_here alive_inner alive_equal

      step_right : Adds (cell_count inner.store) (cell_count after.store) (solutions_at equal_work.store decision) (solutions_at after.store decision) result (TypesOf K (Looped (core_at decision bound) ∷ places) (core_at decision body))
      step_right = subst (Steps K (cell_count inner.store) (cell_count after.store) (solutions_at equal_work.store decision) (solutions_at after.store decision) result (Looped (core_at decision bound) ∷ places) (core_at decision body) (suc node) last) alive_after (body_here alive_equal)

      met_left : AreMetAt K (cell_count opened_work.store) (cell_count inner.store) (solutions_at opened_work.store decision) (solutions_at inner.store decision) own (At parameter ∷ places) (core_at decision bound) decision log.asked lefts.added
      met_left = lefts.here decision (of_same N region old.store opened_work.store decision open_cell.space of) admits alive_opened alive_inner (At parameter ∷ places) first node opened_meant before bound_numbered

      met_right : AreMetAt K (cell_count inner.store) (cell_count after.store) (solutions_at equal_work.store decision) (solutions_at after.store decision) result (Looped (core_at decision bound) ∷ places) (core_at decision body) decision between_log.asked rights.added
      met_right =
          subst (λ n. AreMetAt K n (cell_count after.store) (solutions_at equal_work.store decision) (solutions_at after.store decision) result (Looped (core_at decision bound) ∷ places) (core_at decision body) decision between_log.asked rights.added) equal.cells
          (subst (λ store. AreMetAt K (cell_count store) (cell_count after.store) (solutions_at store decision) (solutions_at after.store decision) result (Looped (core_at decision bound) ∷ places) (core_at decision body) decision between_log.asked rights.added) same_store
          (rights.here decision of_general admits alive_general alive_after (Looped (core_at decision bound) ∷ places) (suc node) last (general_meant alive_equal) bound_earlier body_numbered))

      apart : (mark : ℕ) → HoldsHole mark (core_at decision bound).node (core_at decision bound).form → HoldsHole mark (core_at decision body).node (core_at decision body).form → ⊥
      apart mark = holds-one mark first (core_at decision bound) node (suc node) (core_at decision body) last (omega arith) bound_numbered body_numbered

      in_one : (hole : MetHole N) → Contains lefts.added hole ⊎ Contains rights.added hole → Admits hole.within decision
          → HoldsHole hole.node node (let_rec_form name name_at (core_at decision bound) (core_at decision body))
          × AddsAt (cell_count old.store) (cell_count after.store) (solutions_at old.store decision) (solutions_at after.store decision) result hole.cell (TypesAtOf K hole.node places (core node at (let_rec_form name name_at (core_at decision bound) (core_at decision body))))
      in_one hole (inl is) within =
          let got = met_left.wanted hole is within in
          let loop = looped_at K hole.node places node at (core_at decision bound) (cell_count old.store) (cell_count opened_work.store) (cell_count inner.store)
          (solutions_at old.store decision) (solutions_at opened_work.store decision) (solutions_at inner.store decision) (solutions_at equal_work.store decision) parameter own hole.cell cells (open_cell.adds decision of)
          (subst (Steps K (cell_count opened_work.store) (cell_count inner.store) (solutions_at opened_work.store decision) (solutions_at inner.store decision) own (At parameter ∷ places) (core_at decision bound) first node) alive_inner bound_here)
          got.1
          (subst (Equates (solutions_at inner.store decision) (solutions_at equal_work.store decision) own parameter node) alive_equal (equal.here decision of_inner admits alive_inner)) in (
            inl got.0,
            rec_bound_at K hole.node places node at name name_at (core_at decision bound) (core_at decision body) (cell_count old.store) (cell_count inner.store) (cell_count after.store)
                (solutions_at old.store decision) (solutions_at equal_work.store decision) (solutions_at after.store decision) parameter result hole.cell cells step_left step_right (apart hole.node got.0) loop,
          )
      in_one hole (inr is) within =
          let got = met_right.wanted hole is within in (
            inr got.0,
            rec_body_at K hole.node places node at name name_at (core_at decision bound) (core_at decision body) (cell_count old.store) (cell_count inner.store) (cell_count after.store)
                (solutions_at old.store decision) (solutions_at equal_work.store decision) (solutions_at after.store decision) parameter result hole.cell cells step_left step_right (λ there. apart hole.node there got.0) got.1,
          )

      reach : (mark : ℕ) → Contains log.asked mark → HoldsHole mark (core_at decision bound).node (core_at decision bound).form ⊎ HoldsHole mark (core_at decision body).node (core_at decision body).form
          → (hole : MetHole N) × Contains (lefts.added ++ rights.added) hole × Admits hole.within decision × (hole.node ≡ mark)
      reach mark asked (inl holds) =
          let (hole, is, within, same) = met_left.reached mark asked holds in
          (hole, Contains-append_left lefts.added rights.added hole is, within, same)
      reach mark asked (inr holds) =
          let (hole, is, within, same) = met_right.reached mark (subst (λ asked. Contains asked mark) (sym lefts.asked) asked) holds in
          (hole, Contains-append_right lefts.added rights.added hole is, within, same)

      let_rec_met : AreMetAt K (cell_count old.store) (cell_count after.store) (solutions_at old.store decision) (solutions_at after.store decision) result places (core node at (let_rec_form name name_at (core_at decision bound) (core_at decision body))) decision log.asked (lefts.added ++ rights.added)
      let_rec_met = record {
        wanted = λ hole is within. in_one hole (Contains-append_cases lefts.added rights.added hole is) within;
        reached = reach;
      }

  pub expressed-let_rec : IsExpressed N K region (core node at (let_rec_form name name_at bound body)) result old new
  expressed-let_rec = record {
    goes_on = goes_on_new;
    environment = environment;
    is_cell = subst (λ store. result < cell_count store) (sym last_store) right.is_cell;
    here = λ decision of admits alive places first last meant before numbered.
        subst (λ store. Steps K (cell_count old.store) (cell_count store) (solutions_at old.store decision) (solutions_at store decision) result places (core node at (let_rec_form name name_at (core_at decision bound) (core_at decision body))) first last (fate_at new.pattern decision)) (sym last_store)
        (subst (λ fates. Steps K (cell_count old.store) (cell_count after.store) (solutions_at old.store decision) (solutions_at after.store decision) result places (core node at (let_rec_form name name_at (core_at decision bound) (core_at decision body))) first last (fate_at fates decision)) (sym last_pattern)
        (let_rec_here decision of admits alive places first last meant before numbered.0 numbered.1));
  }

  pub marked-let_rec : (log between_log later_log : HoleLog N) → IsMarked N K region bound own opened_work inner log between_log → IsMarked N K region body result general_work after between_log later_log
      → IsMarked N K region (core node at (let_rec_form name name_at bound body)) result old new log later_log
  marked-let_rec log between_log later_log lefts rights = record {
    asked = rights.asked ∙ lefts.asked;
    added = lefts.added ++ rights.added;
    met = both_added log between_log later_log lefts.added rights.added lefts.met rights.met;
    cells = λ hole is.
        subst (λ store. hole.cell < cell_count store) (sym last_store)
        (added_cells lefts.added rights.added (cell_count inner.store) (cell_count after.store) (cell_count after.store)
        (subst (λ n. n ≤ cell_count after.store) equal.cells (subst (λ store. cell_count store ≤ cell_count after.store) same_store right.goes_on.grows)) (omega arith) lefts.cells rights.cells hole is);
    spaces = λ hole is. added_spaces lefts.added rights.added region.space lefts.spaces rights.spaces hole is;
    inside = λ hole decision is within. added_inside lefts.added rights.added region lefts.inside rights.inside hole decision is within;
    here = λ decision of admits alive still places first last meant before numbered.
        subst (λ store. AreMetAt K (cell_count old.store) (cell_count store) (solutions_at old.store decision) (solutions_at store decision) result places (core node at (let_rec_form name name_at (core_at decision bound) (core_at decision body))) decision log.asked (lefts.added ++ rights.added)) (sym last_store)
        (let_rec_met decision of admits alive places first last meant before numbered.0 numbered.1 log between_log later_log lefts rights (sym (ap (λ fates. fate_at fates decision) last_pattern) ∙ still));
  }
