use Rattle.std.proofs.Common.{◌≡◌, ◌↔◌, ◌⊎◌, inl, inr, ℕ, suc, ◌<◌, ◌≤◌, List, [], ◌∷◌, ◌++◌, map, ap, sym, subst, ◌∙◌, arith}
use Rattle.std.specs.List.{All, Contains}
use Rattle.std.proofs.lemmas.List.Elements.{Contains-append_left, Contains-append_right, Contains-append_cases}
use Rattle.vt_dec.specs.declared.side.Side.{Side}
use Rattle.vt_dec.specs.declared.fate.Fate.TheVariants.{Alive}
use Rattle.vt_dec.specs.Decisions.{Region, Admits}
use Rattle.vt_lex.specs.declared.span.Span.{Span}
use Rattle.vt_syntax.specs.declared.core_expr.Core.{Core}
use Rattle.vt_syntax.specs.declared.core_expr.Form.{Form, Literal, Name, Const, Hole}
use Rattle.vt_syntax.specs.CoreTrees.{core, fun_of, app_of, let_of, let_rec_of, choice_of, let_form}
use Rattle.vt_syntax.specs.Checking.{numbers, numbers_of}
use Rattle.vt_rules.proofs.InOrder.{AllNodes}
use Rattle.vt_scheme.specs.declared.scheme.Scheme.{Scheme}
use Rattle.std.proofs.lemmas.List.Elements.{All-nil, All-cons, All-push, All-append, All-weaker}
use Rattle.vt_syntax.specs.Selection.{core_at}
use Rattle.vt_type.specs.declared.plain.Plain.{Plain}
use Rattle.vt_type.specs.Constants.{Constant, IsTable}
use Rattle.vt_scheme.specs.Schemes.{Allows, IsFrozen}
use Rattle.vt_store.specs.Patterns.{fate_at}
use Rattle.vt_store.specs.Stores.{Cells, cell_count}
use Rattle.vt_store.specs.Writes.{IsOf}
use Rattle.vt_infer.specs.Places.{Place, Bound, Looped, env_at, HaveCells, Gives}
use Rattle.vt_infer.specs.Numbered.{AreBefore, IsNumberedCore}
use Rattle.vt_infer.specs.Steps.{Solutions, Adds, Steps, TypesOf, IsPoly}
use Rattle.vt_infer.specs.Environments.{AreMeant, mono_cells}
use Rattle.vt_infer.specs.Inferring.{solutions_at, GoesOn, IsGeneralised, IsExpressed}
use Rattle.vt_infer.specs.declared.environment.Entry.{Entry}
use Rattle.vt_infer.specs.declared.work.Work.{Work}
use Rattle.vt_infer.specs.declared.holes.MetHole.{MetHole}
use Rattle.vt_infer.specs.Meetings.{HoleLog, AreMetAt, IsMarked}
use Rattle.vt_infer.specs.Wanted.{AddsAt, TypesAtOf}
use Rattle.vt_rules.specs.TypingAt.{HoldsHole}
use Rattle.vt_infer.proofs.MarkedSteps.{let_bound_at, let_body_at}
use Rattle.vt_infer.proofs.HolesWithin.{holds-one}
use Rattle.vt_infer.proofs.PartsExpressed.{both_added, added_cells, added_spaces, added_inside}
use Rattle.vt_infer.proofs.FormSteps.{let_step, frozen_poly}
use Rattle.vt_infer.proofs.NumberLemmas.{numbered-within, numbered-all}
use Rattle.vt_infer.proofs.PlaceLemmas.{are_before-later}
use Rattle.vt_infer.proofs.GoingOn.{goes_on-then, of_same, meant-cells, meant-later, mono_cells-meant, formed_at, alive_before}

-- `let`, from its parts.

-- what a frozen cell allows, by the solutions of the store that it was taken from
frozen_allows : (N : ℕ) (store : Cells) (monos : List ℕ) (root : ℕ) (scheme : Scheme N) → IsFrozen N store monos root scheme
    → (decision : List Side) → IsOf N store.space decision → (types : List Plain) (type : Plain)
    → Allows scheme decision types type ↔ ((s : ℕ → Plain) × solutions_at store decision s × (map s monos ≡ types) × (s root ≡ type))
frozen_allows N store monos root scheme frozen decision of types type = (
  λ allowed. let has = (frozen.allows decision of types type).0 allowed in (has.s, has.solves, has.cells_are, has.root_is),
  λ given. (frozen.allows decision of types type).1 (record { s = given.0; solves = given.1; cells_are = given.2; root_is = given.3 }),
)

-- a property of all nodes, by the list of their numbers
nodes-all : (P : ℕ → Type 0) (node : ℕ) (form : Form) → AllNodes P node form → All P (numbers node form)
nodes-all P node (Literal literal) h = All-cons P node [] h (All-nil P)
nodes-all P node (Name distance) h = All-cons P node [] h (All-nil P)
nodes-all P node (Const id) h = All-cons P node [] h (All-nil P)
nodes-all P node Hole h = All-cons P node [] h (All-nil P)
nodes-all P node (fun_of n at body) h = All-push P (numbers n body) node (nodes-all P n body h.1) h.0
nodes-all P node (app_of n at function m by argument) h =
    All-push P (numbers n function ++ numbers m argument) node (All-append P (numbers n function) (numbers m argument) (nodes-all P n function h.1) (nodes-all P m argument h.2)) h.0
nodes-all P node (let_of n at bound m by body) h =
    All-append P (numbers n bound) (node ∷ numbers m body) (nodes-all P n bound h.1) (All-cons P node (numbers m body) h.0 (nodes-all P m body h.2))
nodes-all P node (let_rec_of name name_at n at bound m by body) h =
    All-append P (numbers n bound) (node ∷ numbers m body) (nodes-all P n bound h.1) (All-cons P node (numbers m body) h.0 (nodes-all P m body h.2))
nodes-all P node (choice_of dim n at left m by right) h =
    All-push P (numbers n left ++ numbers m right) node (All-append P (numbers n left) (numbers m right) (nodes-all P n left h.1) (nodes-all P m right h.2)) h.0

-- the nodes of a bound expression come before what follows its `let`
pub bound_before : (first node : ℕ) (bound : Core) → IsNumberedCore first bound node → All (λ number. number < suc node) (numbers_of bound)
bound_before first node bound numbered =
    All-weaker (λ n. (first ≤ n) × (n < node)) (λ n. n < suc node) (λ n both. omega (arith, both.1)) (numbers_of bound)
    (nodes-all (λ n. (first ≤ n) × (n < node)) bound.node bound.form (numbered-all first bound.node bound.form node numbered))

module _ (N : ℕ) (K : List Constant) (table : IsTable K) (region : Region) (node : ℕ) (at : Span) where
  -- a new entry has the meaning of its place
  module _ (entries after : List (Entry N)) (store : Cells) (own : ℕ) (general : IsGeneralised N store own entries after)
      (decision : List Side) (of : IsOf N store.space decision) (places : List Place) (first last : ℕ) (before : AreBefore first places) where
    poly_is : (place : Place) (n : ℕ) (A : Solutions) → AreMeant K n A decision entries places
        → Adds n (cell_count store) A (solutions_at store decision) own (λ s type. Gives K (env_at s places) place type)
        → IsPoly K (cell_count store) (solutions_at store decision) (Allows general.scheme decision) (mono_cells entries) place places
    poly_is place n A meant adds =
        let same = mono_cells-meant K n A decision entries places meant in
        subst (λ cells. IsPoly K (cell_count store) (solutions_at store decision) (Allows general.scheme decision) cells place places) (sym same)
        (frozen_poly K table places node at first last before place n (cell_count store) A (solutions_at store decision) own (Allows general.scheme decision)
        (meant-cells K n A decision entries places meant) adds
        (λ types type. subst (λ cells. Allows general.scheme decision types type ↔ ((s : ℕ → Plain) × solutions_at store decision s × (map s cells ≡ types) × (s own ≡ type))) same
        (frozen_allows N store (mono_cells entries) own general.scheme general.frozen decision of types type)))

    meant-bound : (bound : Core) (n : ℕ) (A : Solutions) → n ≤ cell_count store → ((s : ℕ → Plain) → solutions_at store decision s → A s) → AreMeant K n A decision entries places
        → Adds n (cell_count store) A (solutions_at store decision) own (λ s type. Gives K (env_at s places) (Bound bound) type)
        → AreMeant K (cell_count store) (solutions_at store decision) decision after (Bound bound ∷ places)
    meant-bound bound n A grows back meant adds =
        subst (λ own. AreMeant K (cell_count store) (solutions_at store decision) decision own (Bound bound ∷ places)) (sym general.pushed)
        (poly_is (Bound bound) n A meant adds, meant-later K n (cell_count store) A (solutions_at store decision) decision entries places grows back meant)

    pub meant-looped : (bound : Core) (n : ℕ) (A : Solutions) → n ≤ cell_count store → ((s : ℕ → Plain) → solutions_at store decision s → A s) → AreMeant K n A decision entries places
        → Adds n (cell_count store) A (solutions_at store decision) own (λ s type. Gives K (env_at s places) (Looped bound) type)
        → AreMeant K (cell_count store) (solutions_at store decision) decision after (Looped bound ∷ places)
    meant-looped bound n A grows back meant adds =
        subst (λ own. AreMeant K (cell_count store) (solutions_at store decision) decision own (Looped bound ∷ places)) (sym general.pushed)
        (poly_is (Looped bound) n A meant adds, meant-later K n (cell_count store) A (solutions_at store decision) decision entries places grows back meant)

  module _ (bound body : Core) (own result : ℕ) (old middle general_work after new : Work N)
      (left : IsExpressed N K region bound own old middle)
      (same_store : general_work.store ≡ middle.store) (same_pattern : general_work.pattern ≡ middle.pattern)
      (general : IsGeneralised N middle.store own middle.environment general_work.environment)
      (right : IsExpressed N K region body result general_work after)
      (last_store : new.store ≡ after.store) (last_pattern : new.pattern ≡ after.pattern) (environment : new.environment ≡ old.environment) where
    -- what the environment means with the bound name, and that its nodes come before the body's
    bound_meant : (decision : List Side) → IsOf N old.store.space decision → (places : List Place) (first last : ℕ)
        → AreMeant K (cell_count old.store) (solutions_at old.store decision) decision old.environment places → AreBefore first places
        → Adds (cell_count old.store) (cell_count middle.store) (solutions_at old.store decision) (solutions_at middle.store decision) own (TypesOf K places (core_at decision bound))
        → AreMeant K (cell_count general_work.store) (solutions_at general_work.store decision) decision general_work.environment (Bound (core_at decision bound) ∷ places)
    bound_meant decision of places first last meant before adds =
        let A0 = solutions_at old.store decision in
        let meant_old = subst (λ entries. AreMeant K (cell_count old.store) A0 decision entries places) (sym left.environment) meant in
        subst (λ store. AreMeant K (cell_count store) (solutions_at store decision) decision general_work.environment (Bound (core_at decision bound) ∷ places)) (sym same_store)
        (meant-bound middle.environment general_work.environment middle.store own general decision (of_same N region old.store middle.store decision left.goes_on.space of) places first last before
        (core_at decision bound) (cell_count old.store) A0 left.goes_on.grows adds.old meant_old adds)

    bound_earlier : (decision : List Side) (places : List Place) (first : ℕ) → AreBefore first places → IsNumberedCore first (core_at decision bound) node → AreBefore (suc node) (Bound (core_at decision bound) ∷ places)
    bound_earlier decision places first before bound_numbered =
        let within = numbered-within first (core_at decision bound).node (core_at decision bound).form node bound_numbered in
        (bound_before first node (core_at decision bound) bound_numbered, are_before-later first (suc node) places (omega (arith, within.0, within.1)) before)

    -- the body's step, where the decision is still alive
    body_here : (decision : List Side) → IsOf N old.store.space decision → Admits region decision
        → (places : List Place) (first last : ℕ)
        → AreMeant K (cell_count old.store) (solutions_at old.store decision) decision old.environment places
        → AreBefore first places → IsNumberedCore first (core_at decision bound) node → IsNumberedCore (suc node) (core_at decision body) last
        → Steps K (cell_count old.store) (cell_count middle.store) (solutions_at old.store decision) (solutions_at middle.store decision) own places (core_at decision bound) first node (fate_at middle.pattern decision)
        → fate_at middle.pattern decision ≡ Alive
        → Steps K (cell_count general_work.store) (cell_count after.store) (solutions_at general_work.store decision) (solutions_at after.store decision) result (Bound (core_at decision bound) ∷ places) (core_at decision body) (suc node) last (fate_at after.pattern decision)
    body_here decision of admits places first last meant before bound_numbered body_numbered step alive =
        let A0 = solutions_at old.store decision in
        let A1 = solutions_at middle.store decision in
        let of_middle = of_same N region old.store middle.store decision left.goes_on.space of in
        let adds = subst (Steps K (cell_count old.store) (cell_count middle.store) A0 A1 own places (core_at decision bound) first node) alive step in
        right.here decision (subst (λ store. IsOf N store.space decision) (sym same_store) of_middle) admits (ap (λ fates. fate_at fates decision) same_pattern ∙ alive)
        (Bound (core_at decision bound) ∷ places) (suc node) last
        (bound_meant decision of places first last meant before adds)
        (bound_earlier decision places first before bound_numbered)
        body_numbered

    let_goes_on : GoesOn N region old.store new.store old.pattern new.pattern
    let_goes_on =
        subst (λ store. GoesOn N region old.store store old.pattern new.pattern) (sym last_store)
        (subst (λ fates. GoesOn N region old.store after.store old.pattern fates) (sym last_pattern)
        (goes_on-then N region old.store general_work.store after.store old.pattern general_work.pattern after.pattern
        (subst (λ store. GoesOn N region old.store store old.pattern general_work.pattern) (sym same_store)
        (subst (λ fates. GoesOn N region old.store middle.store old.pattern fates) (sym same_pattern) left.goes_on))
        right.goes_on))

    let_here : (decision : List Side) → IsOf N old.store.space decision → Admits region decision → fate_at old.pattern decision ≡ Alive
        → (places : List Place) (first last : ℕ)
        → AreMeant K (cell_count old.store) (solutions_at old.store decision) decision old.environment places
        → AreBefore first places → IsNumberedCore first (core_at decision bound) node → IsNumberedCore (suc node) (core_at decision body) last
        → Steps K (cell_count old.store) (cell_count after.store) (solutions_at old.store decision) (solutions_at after.store decision) result places (core node at (let_form (core_at decision bound) (core_at decision body))) first last (fate_at after.pattern decision)
    let_here decision of admits alive places first last meant before bound_numbered body_numbered =
        let A0 = solutions_at old.store decision in
        let step = left.here decision of admits alive places first node meant before bound_numbered in
        let of_middle = of_same N region old.store middle.store decision left.goes_on.space of in
        let of_general = subst (λ store. IsOf N store.space decision) (sym same_store) of_middle in
        let same_fate : fate_at general_work.pattern decision ≡ fate_at middle.pattern decision = ap (λ fates. fate_at fates decision) same_pattern in
        let_step K table places node at first last before (core_at decision bound) (core_at decision body)
        (cell_count old.store) (cell_count middle.store) (cell_count after.store) A0 (solutions_at middle.store decision) (solutions_at after.store decision)
        own result (fate_at middle.pattern decision) (fate_at after.pattern decision)
        (meant-cells K (cell_count old.store) A0 decision old.environment places meant) (formed_at old.store decision) (formed_at middle.store decision)
        bound_numbered body_numbered step
        (λ still. subst (λ store. Steps K (cell_count store) (cell_count after.store) (solutions_at store decision) (solutions_at after.store decision) result (Bound (core_at decision bound) ∷ places) (core_at decision body) (suc node) last (fate_at after.pattern decision)) same_store
        (body_here decision of admits places first last meant before bound_numbered body_numbered step still))
        (λ died. right.goes_on.dead decision of_general (λ still. died (sym same_fate ∙ still)) ∙ same_fate)

    pub expressed-let : IsExpressed N K region (core node at (let_form bound body)) result old new
    expressed-let = record {
      goes_on = let_goes_on;
      environment = environment;
      is_cell = subst (λ store. result < cell_count store) (sym last_store) right.is_cell;
      here = λ decision of admits alive places first last meant before numbered.
          subst (λ store. Steps K (cell_count old.store) (cell_count store) (solutions_at old.store decision) (solutions_at store decision) result places (core node at (let_form (core_at decision bound) (core_at decision body))) first last (fate_at new.pattern decision)) (sym last_store)
          (subst (λ fates. Steps K (cell_count old.store) (cell_count after.store) (solutions_at old.store decision) (solutions_at after.store decision) result places (core node at (let_form (core_at decision bound) (core_at decision body))) first last (fate_at fates decision)) (sym last_pattern)
          (let_here decision of admits alive places first last meant before numbered.0 numbered.1));
    }

    -- the holes of its parts
    module _ (log between_log later_log : HoleLog N) (lefts : IsMarked N K region bound own old middle log between_log) (rights : IsMarked N K region body result general_work after between_log later_log)
        (decision : List Side) (of : IsOf N old.store.space decision) (admits : Admits region decision)
        (alive : fate_at old.pattern decision ≡ Alive) (alive_after : fate_at after.pattern decision ≡ Alive) (places : List Place) (first last : ℕ)
        (meant : AreMeant K (cell_count old.store) (solutions_at old.store decision) decision old.environment places) (before : AreBefore first places)
        (bound_numbered : IsNumberedCore first (core_at decision bound) node) (body_numbered : IsNumberedCore (suc node) (core_at decision body) last) where
      of_middle : IsOf N middle.store.space decision
      of_middle = of_same N region old.store middle.store decision left.goes_on.space of

      of_general : IsOf N general_work.store.space decision
      of_general = subst (λ store. IsOf N store.space decision) (sym same_store) of_middle

      alive_general : fate_at general_work.pattern decision ≡ Alive
      alive_general = alive_before (fate_at general_work.pattern decision) (fate_at after.pattern decision) (right.goes_on.dead decision of_general) alive_after

      alive_middle : fate_at middle.pattern decision ≡ Alive
      alive_middle = sym (ap (λ fates. fate_at fates decision) same_pattern) ∙ alive_general

      bound_step : Steps K (cell_count old.store) (cell_count middle.store) (solutions_at old.store decision) (solutions_at middle.store decision) own places (core_at decision bound) first node (fate_at middle.pattern decision)
      bound_step = left.here decision of admits alive places first node meant before bound_numbered

      step_left : Adds (cell_count old.store) (cell_count middle.store) (solutions_at old.store decision) (solutions_at middle.store decision) own (TypesOf K places (core_at decision bound))
      step_left = subst (Steps K (cell_count old.store) (cell_count middle.store) (solutions_at old.store decision) (solutions_at middle.store decision) own places (core_at decision bound) first node) alive_middle bound_step

      step_right : Adds (cell_count middle.store) (cell_count after.store) (solutions_at middle.store decision) (solutions_at after.store decision) result (TypesOf K (Bound (core_at decision bound) ∷ places) (core_at decision body))
      step_right =
          subst (λ store. Adds (cell_count store) (cell_count after.store) (solutions_at store decision) (solutions_at after.store decision) result (TypesOf K (Bound (core_at decision bound) ∷ places) (core_at decision body))) same_store
          (subst (Steps K (cell_count general_work.store) (cell_count after.store) (solutions_at general_work.store decision) (solutions_at after.store decision) result (Bound (core_at decision bound) ∷ places) (core_at decision body) (suc node) last) alive_after
          (body_here decision of admits places first last meant before bound_numbered body_numbered bound_step alive_middle))

      met_left : AreMetAt K (cell_count old.store) (cell_count middle.store) (solutions_at old.store decision) (solutions_at middle.store decision) own places (core_at decision bound) decision log.asked lefts.added
      met_left = lefts.here decision of admits alive alive_middle places first node meant before bound_numbered

      met_right : AreMetAt K (cell_count middle.store) (cell_count after.store) (solutions_at middle.store decision) (solutions_at after.store decision) result (Bound (core_at decision bound) ∷ places) (core_at decision body) decision between_log.asked rights.added
      met_right =
          subst (λ store. AreMetAt K (cell_count store) (cell_count after.store) (solutions_at store decision) (solutions_at after.store decision) result (Bound (core_at decision bound) ∷ places) (core_at decision body) decision between_log.asked rights.added) same_store
          (rights.here decision of_general admits alive_general alive_after (Bound (core_at decision bound) ∷ places) (suc node) last
          (bound_meant decision of places first last meant before step_left) (bound_earlier decision places first before bound_numbered) body_numbered)

      apart : (mark : ℕ) → HoldsHole mark (core_at decision bound).node (core_at decision bound).form → HoldsHole mark (core_at decision body).node (core_at decision body).form → ⊥
      apart mark = holds-one mark first (core_at decision bound) node (suc node) (core_at decision body) last (omega arith) bound_numbered body_numbered

      have : HaveCells (cell_count old.store) places
      have = meant-cells K (cell_count old.store) (solutions_at old.store decision) decision old.environment places meant

      in_one : (hole : MetHole N) → Contains lefts.added hole ⊎ Contains rights.added hole → Admits hole.within decision
          → HoldsHole hole.node node (let_form (core_at decision bound) (core_at decision body))
          × AddsAt (cell_count old.store) (cell_count after.store) (solutions_at old.store decision) (solutions_at after.store decision) result hole.cell (TypesAtOf K hole.node places (core node at (let_form (core_at decision bound) (core_at decision body))))
      in_one hole (inl is) within =
          let got = met_left.wanted hole is within in (
            inl got.0,
            let_bound_at K hole.node places node at (core_at decision bound) (core_at decision body) (cell_count old.store) (cell_count middle.store) (cell_count after.store)
                (solutions_at old.store decision) (solutions_at middle.store decision) (solutions_at after.store decision) own result hole.cell have step_left step_right (apart hole.node got.0) got.1,
          )
      in_one hole (inr is) within =
          let got = met_right.wanted hole is within in (
            inr got.0,
            let_body_at K hole.node places node at (core_at decision bound) (core_at decision body) (cell_count old.store) (cell_count middle.store) (cell_count after.store)
                (solutions_at old.store decision) (solutions_at middle.store decision) (solutions_at after.store decision) own result hole.cell have step_left step_right (λ there. apart hole.node there got.0) got.1,
          )

      reach : (mark : ℕ) → Contains log.asked mark → HoldsHole mark (core_at decision bound).node (core_at decision bound).form ⊎ HoldsHole mark (core_at decision body).node (core_at decision body).form
          → (hole : MetHole N) × Contains (lefts.added ++ rights.added) hole × Admits hole.within decision × (hole.node ≡ mark)
      reach mark asked (inl holds) =
          let (hole, is, within, same) = met_left.reached mark asked holds in
          (hole, Contains-append_left lefts.added rights.added hole is, within, same)
      reach mark asked (inr holds) =
          let (hole, is, within, same) = met_right.reached mark (subst (λ asked. Contains asked mark) (sym lefts.asked) asked) holds in
          (hole, Contains-append_right lefts.added rights.added hole is, within, same)

      let_met : AreMetAt K (cell_count old.store) (cell_count after.store) (solutions_at old.store decision) (solutions_at after.store decision) result places (core node at (let_form (core_at decision bound) (core_at decision body))) decision log.asked (lefts.added ++ rights.added)
      let_met = record {
        wanted = λ hole is within. in_one hole (Contains-append_cases lefts.added rights.added hole is) within;
        reached = reach;
      }

    pub marked-let : (log between_log later_log : HoleLog N) → IsMarked N K region bound own old middle log between_log → IsMarked N K region body result general_work after between_log later_log
        → IsMarked N K region (core node at (let_form bound body)) result old new log later_log
    marked-let log between_log later_log lefts rights = record {
      asked = rights.asked ∙ lefts.asked;
      added = lefts.added ++ rights.added;
      met = both_added log between_log later_log lefts.added rights.added lefts.met rights.met;
      cells = λ hole is.
          subst (λ store. hole.cell < cell_count store) (sym last_store)
          (added_cells lefts.added rights.added (cell_count middle.store) (cell_count after.store) (cell_count after.store)
          (subst (λ store. cell_count store ≤ cell_count after.store) same_store right.goes_on.grows) (omega arith) lefts.cells rights.cells hole is);
      spaces = λ hole is. added_spaces lefts.added rights.added region.space lefts.spaces rights.spaces hole is;
      inside = λ hole decision is within. added_inside lefts.added rights.added region lefts.inside rights.inside hole decision is within;
      here = λ decision of admits alive still places first last meant before numbered.
          subst (λ store. AreMetAt K (cell_count old.store) (cell_count store) (solutions_at old.store decision) (solutions_at store decision) result places (core node at (let_form (core_at decision bound) (core_at decision body))) decision log.asked (lefts.added ++ rights.added)) (sym last_store)
          (let_met log between_log later_log lefts rights decision of admits alive (sym (ap (λ fates. fate_at fates decision) last_pattern) ∙ still) places first last meant before numbered.0 numbered.1);
    }
