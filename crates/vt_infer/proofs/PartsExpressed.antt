use Rattle.std.proofs.Common.{◌≡◌, ◌⊎◌, inl, inr, ℕ, ◌<◌, ◌≤◌, List, [], ◌∷◌, ◌++◌, append_assoc, refl, ap, sym, subst, ◌∙◌, arith}
use Rattle.std.specs.List.{Contains}
use Rattle.std.proofs.lemmas.List.Elements.{Contains-append_left, Contains-append_right, Contains-append_cases}
use Rattle.vt_dec.specs.declared.side.Side.{Side}
use Rattle.vt_dec.specs.declared.side.Space.{Space}
use Rattle.vt_dec.specs.declared.fate.Fate.TheVariants.{Alive}
use Rattle.vt_dec.specs.Decisions.{Region, Admits}
use Rattle.vt_lex.specs.declared.span.Span.{Span}
use Rattle.vt_syntax.specs.declared.core_expr.Core.{Core}
use Rattle.vt_syntax.specs.CoreTrees.{core, fun_form, app_form}
use Rattle.vt_syntax.specs.Selection.{core_at}
use Rattle.vt_type.specs.declared.plain.Plain.{Var}
use Rattle.vt_type.specs.Plain.{IsWellFormed}
use Rattle.vt_type.specs.Constants.{Constant, IsTable, ◌⇒◌}
use Rattle.vt_rules.specs.TypingAt.{HoldsHole}
use Rattle.vt_store.specs.Patterns.{fate_at}
use Rattle.vt_store.specs.Stores.{cell_count}
use Rattle.vt_store.specs.Writes.{IsOf}
use Rattle.vt_infer.specs.Places.{Place, At, HaveCells}
use Rattle.vt_infer.specs.Numbered.{AreBefore, IsNumberedCore}
use Rattle.vt_infer.specs.Steps.{Adds, Joins, Steps, TypesOf}
use Rattle.vt_infer.specs.Environments.{AreMeant}
use Rattle.vt_infer.specs.Inferring.{solutions_at, GoesOn, IsNew, IsJoint, IsExpressed}
use Rattle.vt_infer.specs.declared.environment.Entry.TheVariants.{Mono}
use Rattle.vt_infer.specs.declared.work.Work.{Work}
use Rattle.vt_infer.specs.declared.holes.MetHole.{MetHole}
use Rattle.vt_infer.specs.Meetings.{HoleLog, AreMetAt, IsMarked}
use Rattle.vt_infer.specs.Wanted.{AddsAt, TypesAtOf}
use Rattle.vt_infer.proofs.FormSteps.{fun_step, app_step}
use Rattle.vt_infer.proofs.NumberLemmas.{numbered-within}
use Rattle.vt_infer.proofs.PlaceLemmas.{are_before-later}
use Rattle.vt_infer.proofs.MarkedSteps.{fun_at, function_at, argument_at}
use Rattle.vt_infer.proofs.HolesWithin.{holds-one}
use Rattle.vt_infer.proofs.GoingOn.{goes_on-then, goes_on-new, of_same, meant-cells, meant-later, formed_at, alive_before}

-- Functions and applications, from their parts.

-- a new cell, and no other change
pub opened : (N : ℕ) (region : Region) (old new : Work N) (parameter : ℕ)
    → IsNew N (λ decision s type. IsWellFormed type) parameter old.store new.store → new.pattern ≡ old.pattern → GoesOn N region old.store new.store old.pattern new.pattern
opened N region old new parameter is_new pattern =
    subst (λ fates. GoesOn N region old.store new.store old.pattern fates) (sym pattern)
    (goes_on-new N region (λ decision s type. IsWellFormed type) parameter old.store new.store old.pattern (λ decision s of solves. (Var [], tt)) is_new)

-- the holes of two parts, one after the other
pub both_added : {N : ℕ} (log between later : HoleLog N) (first second : List (MetHole N)) → between.met ≡ log.met ++ first → later.met ≡ between.met ++ second → later.met ≡ log.met ++ (first ++ second)
both_added log between later first second one other = other ∙ ap (λ met. met ++ second) one ∙ append_assoc log.met first second

pub added_cells : {N : ℕ} (first second : List (MetHole N)) (n m l : ℕ) → n ≤ m → m ≤ l
    → ((hole : MetHole N) → Contains first hole → hole.cell < n) → ((hole : MetHole N) → Contains second hole → hole.cell < m)
    → (hole : MetHole N) → Contains (first ++ second) hole → hole.cell < l
added_cells first second n m l le more one other hole is = by (Contains-append_cases first second hole is)
  where
    by : Contains first hole ⊎ Contains second hole → hole.cell < l
    by (inl own) = omega (arith, one hole own)
    by (inr own) = omega (arith, other hole own)

pub added_spaces : {N : ℕ} (first second : List (MetHole N)) (space : Space)
    → ((hole : MetHole N) → Contains first hole → hole.within.space ≡ space) → ((hole : MetHole N) → Contains second hole → hole.within.space ≡ space)
    → (hole : MetHole N) → Contains (first ++ second) hole → hole.within.space ≡ space
added_spaces first second space one other hole is = by (Contains-append_cases first second hole is)
  where
    by : Contains first hole ⊎ Contains second hole → hole.within.space ≡ space
    by (inl own) = one hole own
    by (inr own) = other hole own

pub added_inside : {N : ℕ} (first second : List (MetHole N)) (region : Region)
    → ((hole : MetHole N) (decision : List Side) → Contains first hole → Admits hole.within decision → Admits region decision)
    → ((hole : MetHole N) (decision : List Side) → Contains second hole → Admits hole.within decision → Admits region decision)
    → (hole : MetHole N) (decision : List Side) → Contains (first ++ second) hole → Admits hole.within decision → Admits region decision
added_inside first second region one other hole decision is within = by (Contains-append_cases first second hole is)
  where
    by : Contains first hole ⊎ Contains second hole → Admits region decision
    by (inl own) = one hole decision own within
    by (inr own) = other hole decision own within

module _ (N : ℕ) (K : List Constant) (table : IsTable K) (region : Region) (node : ℕ) (at : Span) where
  module _ (body : Core) (parameter to result : ℕ) (old opened_work after new : Work N)
      (open_cell : IsNew N (λ decision s type. IsWellFormed type) parameter old.store opened_work.store) (later : cell_count old.store ≤ parameter)
      (open_pattern : opened_work.pattern ≡ old.pattern) (open_environment : opened_work.environment ≡ Mono parameter ∷ old.environment)
      (inner : IsExpressed N K region body to opened_work after)
      (made : IsNew N (λ decision s type. type ≡ (s parameter ⇒ s to)) result after.store new.store)
      (pattern : new.pattern ≡ after.pattern) (environment : new.environment ≡ old.environment) where
    -- what the environment means with the parameter
    opened_meant : (decision : List Side) → IsOf N old.store.space decision → (places : List Place)
        → AreMeant K (cell_count old.store) (solutions_at old.store decision) decision old.environment places
        → AreMeant K (cell_count opened_work.store) (solutions_at opened_work.store decision) decision opened_work.environment (At parameter ∷ places)
    opened_meant decision of places meant =
        let A0 = solutions_at old.store decision in
        let A1 = solutions_at opened_work.store decision in
        subst (λ own. AreMeant K (cell_count opened_work.store) A1 decision own (At parameter ∷ places)) (sym open_environment)
        ((refl, open_cell.is_cell), meant-later K (cell_count old.store) (cell_count opened_work.store) A0 A1 decision old.environment places open_cell.grows (open_cell.adds decision of).old meant)

    function_here : (decision : List Side) → IsOf N old.store.space decision → Admits region decision → fate_at old.pattern decision ≡ Alive
        → (places : List Place) (first last : ℕ)
        → AreMeant K (cell_count old.store) (solutions_at old.store decision) decision old.environment places
        → AreBefore first places → IsNumberedCore first (core node at (fun_form (core_at decision body))) last
        → Steps K (cell_count old.store) (cell_count new.store) (solutions_at old.store decision) (solutions_at new.store decision) result places (core node at (fun_form (core_at decision body))) first last (fate_at after.pattern decision)
    function_here decision of admits alive places first last meant before numbered =
        let of_opened = of_same N region old.store opened_work.store decision open_cell.space of in
        let of_after = of_same N region opened_work.store after.store decision inner.goes_on.space of_opened in
        let alive_opened : fate_at opened_work.pattern decision ≡ Alive = ap (λ fates. fate_at fates decision) open_pattern ∙ alive in
        let adds = open_cell.adds decision of in
        let A0 = solutions_at old.store decision in
        let A1 = solutions_at opened_work.store decision in
        fun_step K table places node at first last before (core_at decision body) (cell_count old.store) (cell_count opened_work.store) (cell_count after.store) (cell_count new.store)
        A0 A1 (solutions_at after.store decision) (solutions_at new.store decision) parameter to result (fate_at after.pattern decision)
        (meant-cells K (cell_count old.store) A0 decision old.environment places meant) (formed_at old.store decision) (formed_at opened_work.store decision)
        numbered adds later
        (inner.here decision of_opened admits alive_opened (At parameter ∷ places) first node (opened_meant decision of places meant) before numbered.0)
        (made.adds decision of_after)

    pub expressed-function : IsExpressed N K region (core node at (fun_form body)) result old new
    expressed-function = record {
      goes_on = goes_on-then N region old.store after.store new.store old.pattern after.pattern new.pattern
          (goes_on-then N region old.store opened_work.store after.store old.pattern opened_work.pattern after.pattern
          (opened N region old opened_work parameter open_cell open_pattern) inner.goes_on)
          (subst (λ fates. GoesOn N region after.store new.store after.pattern fates) (sym pattern)
          (goes_on-new N region (λ decision s type. type ≡ (s parameter ⇒ s to)) result after.store new.store after.pattern (λ decision s of solves. (s parameter ⇒ s to, refl)) made));
      environment = environment;
      is_cell = made.is_cell;
      here = λ decision of admits alive places first last meant before numbered.
          subst (Steps K (cell_count old.store) (cell_count new.store) (solutions_at old.store decision) (solutions_at new.store decision) result places (core node at (fun_form (core_at decision body))) first last)
          (sym (ap (λ fates. fate_at fates decision) pattern))
          (function_here decision of admits alive places first last meant before numbered);
    }

    -- the holes of its body
    pub marked-function : (log later_log : HoleLog N) → IsMarked N K region body to opened_work after log later_log → IsMarked N K region (core node at (fun_form body)) result old new log later_log
    marked-function log later_log marked = record {
      asked = marked.asked;
      added = marked.added;
      met = marked.met;
      cells = λ hole is. omega (arith, marked.cells hole is, made.grows);
      spaces = marked.spaces;
      inside = marked.inside;
      here = λ decision of admits alive still places first last meant before numbered.
          let e = core_at decision body in
          let of_opened = of_same N region old.store opened_work.store decision open_cell.space of in
          let of_after = of_same N region opened_work.store after.store decision inner.goes_on.space of_opened in
          let alive_opened : fate_at opened_work.pattern decision ≡ Alive = ap (λ fates. fate_at fates decision) open_pattern ∙ alive in
          let alive_after : fate_at after.pattern decision ≡ Alive = sym (ap (λ fates. fate_at fates decision) pattern) ∙ still in
          let A0 = solutions_at old.store decision in
          let A1 = solutions_at opened_work.store decision in
          let A2 = solutions_at after.store decision in
          let A3 = solutions_at new.store decision in
          let meant_opened = opened_meant decision of places meant in
          let plain = subst (Steps K (cell_count opened_work.store) (cell_count after.store) A1 A2 to (At parameter ∷ places) e first node) alive_after
          (inner.here decision of_opened admits alive_opened (At parameter ∷ places) first node meant_opened before numbered.0) in
          let inside = marked.here decision of_opened admits alive_opened alive_after (At parameter ∷ places) first node meant_opened before numbered.0 in
          record {
            wanted = λ hole is within.
                let got = inside.wanted hole is within in (
                  got.0,
                  fun_at K hole.node places node at e (cell_count old.store) (cell_count opened_work.store) (cell_count after.store) (cell_count new.store) A0 A1 A2 A3 parameter to result hole.cell
                      (meant-cells K (cell_count old.store) A0 decision old.environment places meant) (open_cell.adds decision of) plain got.1 (made.adds decision of_after),
                );
            reached = inside.reached;
          };
    }

  module _ (function argument : Core) (one other result : ℕ) (old middle after new : Work N)
      (left : IsExpressed N K region function one old middle)
      (right : IsExpressed N K region argument other middle after)
      (joint : IsJoint N region (λ decision s type. s one ≡ (s other ⇒ type)) node result after.store new.store after.pattern new.pattern)
      (environment : new.environment ≡ after.environment) where
    -- the argument's step, where the decision is still alive
    argument_here : (decision : List Side) → IsOf N old.store.space decision → Admits region decision
        → (places : List Place) (first between : ℕ)
        → AreMeant K (cell_count old.store) (solutions_at old.store decision) decision old.environment places
        → AreBefore first places → IsNumberedCore first (core_at decision function) between → IsNumberedCore between (core_at decision argument) node
        → Steps K (cell_count old.store) (cell_count middle.store) (solutions_at old.store decision) (solutions_at middle.store decision) one places (core_at decision function) first between (fate_at middle.pattern decision)
        → fate_at middle.pattern decision ≡ Alive
        → Steps K (cell_count middle.store) (cell_count after.store) (solutions_at middle.store decision) (solutions_at after.store decision) other places (core_at decision argument) between node (fate_at after.pattern decision)
    argument_here decision of admits places first between meant before first_numbered then_numbered step alive =
        let A0 = solutions_at old.store decision in
        let A1 = solutions_at middle.store decision in
        let adds = subst (Steps K (cell_count old.store) (cell_count middle.store) A0 A1 one places (core_at decision function) first between) alive step in
        let meant_later = meant-later K (cell_count old.store) (cell_count middle.store) A0 A1 decision old.environment places left.goes_on.grows adds.old meant in
        let meant_middle = subst (λ own. AreMeant K (cell_count middle.store) A1 decision own places) (sym left.environment) meant_later in
        let within = numbered-within first (core_at decision function).node (core_at decision function).form between first_numbered in
        right.here decision (of_same N region old.store middle.store decision left.goes_on.space of) admits alive places between node meant_middle
        (are_before-later first between places (omega (arith, within.0, within.1)) before) then_numbered

    pub expressed-application : IsExpressed N K region (core node at (app_form function argument)) result old new
    expressed-application = record {
      goes_on = goes_on-then N region old.store after.store new.store old.pattern after.pattern new.pattern
          (goes_on-then N region old.store middle.store after.store old.pattern middle.pattern after.pattern left.goes_on right.goes_on) joint.goes_on;
      environment = environment ∙ right.environment ∙ left.environment;
      is_cell = joint.is_cell;
      here = λ decision of admits alive places first last meant before numbered.
          let of_middle = of_same N region old.store middle.store decision left.goes_on.space of in
          let of_after = of_same N region middle.store after.store decision right.goes_on.space of_middle in
          let step = left.here decision of admits alive places first numbered.0 meant before numbered.1 in
          app_step K table places node at first last before (core_at decision function) (core_at decision argument) numbered.0
          (cell_count old.store) (cell_count middle.store) (cell_count after.store) (cell_count new.store)
          (solutions_at old.store decision) (solutions_at middle.store decision) (solutions_at after.store decision) (solutions_at new.store decision)
          one other result (fate_at middle.pattern decision) (fate_at after.pattern decision) (fate_at new.pattern decision)
          (meant-cells K (cell_count old.store) (solutions_at old.store decision) decision old.environment places meant)
          (formed_at old.store decision) (formed_at middle.store decision) (formed_at after.store decision)
          numbered.1 numbered.2 numbered.3 (joint.some decision of_after) step
          (argument_here decision of admits places first numbered.0 meant before numbered.1 numbered.2 step)
          (right.goes_on.dead decision of_middle)
          (joint.here decision of_after admits)
          (joint.goes_on.dead decision of_after);
    }

    -- the holes of its parts
    module _ (log between_log later_log : HoleLog N) (lefts : IsMarked N K region function one old middle log between_log) (rights : IsMarked N K region argument other middle after between_log later_log)
        (decision : List Side) (of : IsOf N old.store.space decision) (admits : Admits region decision)
        (alive : fate_at old.pattern decision ≡ Alive) (still : fate_at new.pattern decision ≡ Alive) (places : List Place) (first last : ℕ)
        (meant : AreMeant K (cell_count old.store) (solutions_at old.store decision) decision old.environment places) (before : AreBefore first places)
        (numbered : IsNumberedCore first (core node at (app_form (core_at decision function) (core_at decision argument))) last) where
      of_middle : IsOf N middle.store.space decision
      of_middle = of_same N region old.store middle.store decision left.goes_on.space of

      of_after : IsOf N after.store.space decision
      of_after = of_same N region middle.store after.store decision right.goes_on.space of_middle

      alive_after : fate_at after.pattern decision ≡ Alive
      alive_after = alive_before (fate_at after.pattern decision) (fate_at new.pattern decision) (joint.goes_on.dead decision of_after) still

      alive_middle : fate_at middle.pattern decision ≡ Alive
      alive_middle = alive_before (fate_at middle.pattern decision) (fate_at after.pattern decision) (right.goes_on.dead decision of_middle) alive_after

      step_left : Adds (cell_count old.store) (cell_count middle.store) (solutions_at old.store decision) (solutions_at middle.store decision) one (TypesOf K places (core_at decision function))
      step_left = subst (Steps K (cell_count old.store) (cell_count middle.store) (solutions_at old.store decision) (solutions_at middle.store decision) one places (core_at decision function) first numbered.0) alive_middle
          (left.here decision of admits alive places first numbered.0 meant before numbered.1)

      step_right : Adds (cell_count middle.store) (cell_count after.store) (solutions_at middle.store decision) (solutions_at after.store decision) other (TypesOf K places (core_at decision argument))
      step_right = subst (Steps K (cell_count middle.store) (cell_count after.store) (solutions_at middle.store decision) (solutions_at after.store decision) other places (core_at decision argument) numbered.0 node) alive_after
          (argument_here decision of admits places first numbered.0 meant before numbered.1 numbered.2 (left.here decision of admits alive places first numbered.0 meant before numbered.1) alive_middle)

      joined : Adds (cell_count after.store) (cell_count new.store) (solutions_at after.store decision) (solutions_at new.store decision) result (λ s type. s one ≡ (s other ⇒ type))
      joined = subst (Joins (cell_count after.store) (cell_count new.store) (solutions_at after.store decision) (solutions_at new.store decision) result (λ s type. s one ≡ (s other ⇒ type)) node) still
          (joint.here decision of_after admits alive_after)

      met_left : AreMetAt K (cell_count old.store) (cell_count middle.store) (solutions_at old.store decision) (solutions_at middle.store decision) one places (core_at decision function) decision log.asked lefts.added
      met_left = lefts.here decision of admits alive alive_middle places first numbered.0 meant before numbered.1

      met_right : AreMetAt K (cell_count middle.store) (cell_count after.store) (solutions_at middle.store decision) (solutions_at after.store decision) other places (core_at decision argument) decision between_log.asked rights.added
      met_right =
          let within = numbered-within first (core_at decision function).node (core_at decision function).form numbered.0 numbered.1 in
          rights.here decision of_middle admits alive_middle alive_after places numbered.0 node
          (subst (λ own. AreMeant K (cell_count middle.store) (solutions_at middle.store decision) decision own places) (sym left.environment)
          (meant-later K (cell_count old.store) (cell_count middle.store) (solutions_at old.store decision) (solutions_at middle.store decision) decision old.environment places left.goes_on.grows step_left.old meant))
          (are_before-later first numbered.0 places (omega (arith, within.0, within.1)) before) numbered.2

      apart : (mark : ℕ) → HoldsHole mark (core_at decision function).node (core_at decision function).form → HoldsHole mark (core_at decision argument).node (core_at decision argument).form → ⊥
      apart mark = holds-one mark first (core_at decision function) numbered.0 numbered.0 (core_at decision argument) node (omega arith) numbered.1 numbered.2

      abbrev Whole : MetHole N → Type 0
      Whole hole = HoldsHole hole.node node (app_form (core_at decision function) (core_at decision argument))
          × AddsAt (cell_count old.store) (cell_count new.store) (solutions_at old.store decision) (solutions_at new.store decision) result hole.cell (TypesAtOf K hole.node places (core node at (app_form (core_at decision function) (core_at decision argument))))

      have : HaveCells (cell_count old.store) places
      have = meant-cells K (cell_count old.store) (solutions_at old.store decision) decision old.environment places meant

      in_one : (hole : MetHole N) → Contains lefts.added hole ⊎ Contains rights.added hole → Admits hole.within decision → Whole hole
      in_one hole (inl is) within =
          let got = met_left.wanted hole is within in (
            inl got.0,
            function_at K hole.node places node at (core_at decision function) (core_at decision argument) (cell_count old.store) (cell_count middle.store) (cell_count after.store) (cell_count new.store)
                (solutions_at old.store decision) (solutions_at middle.store decision) (solutions_at after.store decision) (solutions_at new.store decision) one other result hole.cell have step_left step_right joined (apart hole.node got.0) got.1,
          )
      in_one hole (inr is) within =
          let got = met_right.wanted hole is within in (
            inr got.0,
            argument_at K hole.node places node at (core_at decision function) (core_at decision argument) (cell_count old.store) (cell_count middle.store) (cell_count after.store) (cell_count new.store)
                (solutions_at old.store decision) (solutions_at middle.store decision) (solutions_at after.store decision) (solutions_at new.store decision) one other result hole.cell have step_left step_right joined (λ there. apart hole.node there got.0) got.1,
          )

      reach : (mark : ℕ) → Contains log.asked mark → HoldsHole mark (core_at decision function).node (core_at decision function).form ⊎ HoldsHole mark (core_at decision argument).node (core_at decision argument).form
          → (hole : MetHole N) × Contains (lefts.added ++ rights.added) hole × Admits hole.within decision × (hole.node ≡ mark)
      reach mark asked (inl holds) =
          let (hole, is, within, own) = met_left.reached mark asked holds in
          (hole, Contains-append_left lefts.added rights.added hole is, within, own)
      reach mark asked (inr holds) =
          let (hole, is, within, own) = met_right.reached mark (subst (λ asked. Contains asked mark) (sym lefts.asked) asked) holds in
          (hole, Contains-append_right lefts.added rights.added hole is, within, own)

      application_met : AreMetAt K (cell_count old.store) (cell_count new.store) (solutions_at old.store decision) (solutions_at new.store decision) result places (core node at (app_form (core_at decision function) (core_at decision argument))) decision log.asked (lefts.added ++ rights.added)
      application_met = record {
        wanted = λ hole is within. in_one hole (Contains-append_cases lefts.added rights.added hole is) within;
        reached = reach;
      }

    pub marked-application : (log between_log later_log : HoleLog N) → IsMarked N K region function one old middle log between_log → IsMarked N K region argument other middle after between_log later_log
        → IsMarked N K region (core node at (app_form function argument)) result old new log later_log
    marked-application log between_log later_log lefts rights = record {
      asked = rights.asked ∙ lefts.asked;
      added = lefts.added ++ rights.added;
      met = both_added log between_log later_log lefts.added rights.added lefts.met rights.met;
      cells = λ hole is. added_cells lefts.added rights.added (cell_count middle.store) (cell_count after.store) (cell_count new.store) right.goes_on.grows joint.goes_on.grows lefts.cells rights.cells hole is;
      spaces = λ hole is. added_spaces lefts.added rights.added region.space lefts.spaces rights.spaces hole is;
      inside = λ hole decision is within. added_inside lefts.added rights.added region lefts.inside rights.inside hole decision is within;
      here = λ decision of admits alive still places first last meant before numbered.
          application_met log between_log later_log lefts rights decision of admits alive still places first last meant before numbered;
    }
