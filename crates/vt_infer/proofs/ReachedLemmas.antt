use Rattle.std.proofs.Common.{◌≡◌, ◌↔◌, ◌⊎◌, ℕ, suc, ◌<◌, Bool, true, false, List, [], ◌∷◌, ◌++◌, length, take, drop, slice_get, Some, All, inl, inr, refl, sym, ap, subst, ◌∙◌, arith}
use Rattle.std.proofs.lemmas.Option.{slice_get-map, slice_get_within}
use Rattle.std.specs.Option.{option_map}
use Rattle.vt_dec.specs.declared.side.Side.{Side}
use Rattle.vt_dec.specs.declared.fate.Fate.{Fate}
use Rattle.vt_dec.specs.declared.fate.Fate.TheVariants.{Alive, Dead}
use Rattle.vt_syntax.specs.declared.core_program.CoreDef.{CoreDef}
use Rattle.vt_syntax.specs.declared.core_program.CoreProgram.{CoreProgram}
use Rattle.vt_syntax.specs.Checking.{numbers_of}
use Rattle.vt_syntax.specs.Programs.{nested}
use Rattle.vt_syntax.specs.Selection.{selected_core_def, core_at}
use Rattle.vt_type.specs.declared.plain.Plain.{Plain}
use Rattle.vt_type.specs.Constants.{Constant, IsTable}
use Rattle.vt_store.specs.Solutions.{Solves}
use Rattle.vt_store.specs.Stores.{Cells, cell_count, ends_at}
use Rattle.vt_store.specs.Writes.{IsOf}
use Rattle.vt_scheme.specs.declared.scheme.Scheme.{Scheme}
use Rattle.vt_scheme.specs.Schemes.{IsFrozen}
use Rattle.vt_rules.specs.Env.{Empty}
use Rattle.vt_rules.specs.Meaning.{own_expression}
use Rattle.vt_infer.specs.declared.environment.Entry.{Entry}
use Rattle.vt_infer.specs.declared.environment.Entry.TheVariants.{Poly}
use Rattle.vt_infer.specs.Definitions.{placed, place_of, places_after, env_after, DefinitionSteps, AreChecked}
use Rattle.vt_infer.specs.Inferred.{IsPartAt}
use Rattle.vt_infer.specs.Inferring.{solutions_at}
use Rattle.vt_infer.specs.Numbered.{IsNumberedCore, AreBefore}
use Rattle.vt_infer.specs.Parts.{defs_at, def_at, GivesAll, AreKnown, IsReachedAt}
use Rattle.vt_infer.specs.Places.{Place, env_at, Gives}
use Rattle.vt_infer.specs.Steps.{Solutions}
use Rattle.vt_infer.proofs.CheckedLemmas.{next_checked, next_dead, own_dead, own_dies, own_alive, own_typed, part_alive, part_dead, part_later}
use Rattle.vt_infer.proofs.DefinitionLemmas.{env-places, places-append}
use Rattle.vt_infer.proofs.KnownLemmas.{take-at, drop-at, last_or_before, chosen_part, known_entry}
use Rattle.vt_infer.proofs.NumberLemmas.{numbered-within}
use Rattle.vt_infer.proofs.NumberLists.{numbered-below}
use Rattle.vt_infer.proofs.PlaceLemmas.{are_before-later}
use Rattle.vt_infer.proofs.PartLemmas.{adds_types, frozen_allows, frozen_types, two_numbered}

-- What is known at one decision after one more definition.

-- a definition that comes next is before what follows
before_next : (first : ℕ) (def : CoreDef) (places : List Place) → IsNumberedCore first def.body def.node → AreBefore first places → (recursive : Bool) → AreBefore (suc def.node) (placed def recursive ∷ places)
before_next first def places body before recursive = by recursive
  where
    own : All (λ number. number < suc def.node) (numbers_of def.body)
    own = numbered-below first def.body.node def.body.form def.node (suc def.node) (omega arith) body

    rest : AreBefore (suc def.node) places
    rest = let within = numbered-within first def.body.node def.body.form def.node body in are_before-later first (suc def.node) places (omega arith) before

    by : (recursive : Bool) → AreBefore (suc def.node) (placed def recursive ∷ places)
    by false = (own, rest)
    by true = (own, rest)

-- a part that is the one that was added
added_part : {N : ℕ} (K : List Constant) (core : CoreProgram) (count part : ℕ) (decision : List Side) (scheme it : Scheme N) (node mark : ℕ) (fate : Fate)
    → part ≡ count → scheme ≡ it → node ≡ mark → IsPartAt K core count decision scheme node fate → (mark < suc node) × IsPartAt K core part decision it mark fate
added_part K core count part decision scheme it node mark fate same is equal h = (
  omega arith,
  subst (λ i. IsPartAt K core i decision it mark fate) (sym same)
      (subst (λ s. IsPartAt K core count decision s mark fate) is (subst (λ m. IsPartAt K core count decision scheme m fate) equal h)),
)

module _ (N : ℕ) (K : List Constant) (table : IsTable K) (core : CoreProgram) (count : ℕ) (decision : List Side)
    (entries : List (Entry N)) (schemes : List (Scheme N)) (marks : List ℕ) (def : CoreDef) (is : slice_get core.defs count ≡ Some def)
    (scheme : Scheme N) (store : Cells) (root : ℕ) (of : IsOf N store.space decision) (frozen : IsFrozen N store [] root scheme)
    (n : ℕ) (A : Solutions) (some : (s : ℕ → Plain) × A s) (other : (s : ℕ → Plain) × solutions_at store decision s)
    (scheme_count : length schemes ≡ count) (mark_count : length marks ≡ count) where
  abbrev defs : List CoreDef
  defs = defs_at decision core.defs

  abbrev done : List CoreDef
  done = take count defs

  abbrev here : CoreDef
  here = def_at decision def

  abbrev Steps : ℕ → Fate → Type 0
  Steps first fate = DefinitionSteps K n (cell_count store) A (solutions_at store decision) root (places_after [] done) here first fate

  found : slice_get defs count ≡ Some here
  found = slice_get-map (selected_core_def (slice_get decision)) core.defs count ∙ ap (option_map (selected_core_def (slice_get decision))) is

  taken : take (suc count) defs ≡ done ++ here ∷ []
  taken = take-at defs count here found

  left : drop count defs ≡ here ∷ drop (suc count) defs
  left = drop-at defs count here found

  -- the definition's cell has its types
  cell_types : (first : ℕ) → Steps first Alive → (type : Plain)
      → ((s : ℕ → Plain) × Solves (cell_count store) (ends_at store decision) s × (s root ≡ type)) ↔ Gives K (env_after Empty done) (place_of here) type
  cell_types first steps =
      adds_types n (cell_count store) A (solutions_at store decision) root (λ s type. Gives K (env_at s (places_after [] done)) (place_of here) type) (Gives K (env_after Empty done) (place_of here)) steps some
      (λ s type. (subst (λ env. Gives K env (place_of here) type) (env-places s [] done), subst (λ env. Gives K env (place_of here) type) (sym (env-places s [] done))))

  gives_all : (first : ℕ) → Steps first Alive → GivesAll K decision scheme (place_of here) (places_after [] done)
  gives_all first steps s type = (
    λ allows. subst (λ env. Gives K env (place_of here) type) (sym (env-places s [] done)) ((cell_types first steps type).0 ((frozen_allows N store root scheme frozen decision of type).0 allows)),
    λ gives. (frozen_allows N store root scheme frozen decision of type).1 ((cell_types first steps type).1 (subst (λ env. Gives K env (place_of here) type) (env-places s [] done) gives)),
  )

  scheme_types : (first : ℕ) → Steps first Alive → (type : Plain)
      → ((s : ℕ → Plain) × Solves (cell_count scheme.cells) (ends_at scheme.cells decision) s × (s scheme.root ≡ type)) ↔ Gives K (env_after Empty done) (place_of here) type
  scheme_types first steps type = (
    λ given. (cell_types first steps type).0 ((frozen_types N store root scheme frozen decision of type).0 given),
    λ gives. (frozen_types N store root scheme frozen decision of type).1 ((cell_types first steps type).1 gives),
  )

  module _ (first : ℕ) (body : IsNumberedCore first here.body def.node) where
    -- the part that the definition is
    own_part : (fate after : Fate) → AreChecked K done first fate → (fate ≡ Alive → Steps first after) → ((fate ≡ Alive → ⊥) → after ≡ fate) → IsPartAt K core count decision scheme def.node after
    own_part Alive Alive checked steps stays =
        let (s, solves) = other in
        part_alive N K core count decision scheme def.node (nested done (own_expression here here.recursive)) (chosen_part core decision count def is)
        (own_typed K table done here first body checked (s root) ((cell_types first (steps refl) (s root)).0 (s, solves, refl)))
        (own_alive K table done here first body checked (cell_count scheme.cells) (ends_at scheme.cells decision) scheme.root (scheme_types first (steps refl)))
    own_part Alive (Dead node) checked steps stays =
        let dies = own_dies K table done here first body A node some checked (steps refl) in
        part_dead N K core count decision scheme def.node (nested done (own_expression here here.recursive)) (chosen_part core decision count def is) table node dies.0 dies.1
    own_part (Dead node) after checked steps stays =
        let dead = own_dead K table done here first body node checked in
        subst (IsPartAt K core count decision scheme def.node) (sym (stays (λ e. absurd cc)))
        (part_dead N K core count decision scheme def.node (nested done (own_expression here here.recursive)) (chosen_part core decision count def is) table node dead.0 dead.1)

    -- a part that came before
    old_part : (part : ℕ) (old : Scheme N) (mark : ℕ) → mark < first → (fate after : Fate) → (fate ≡ Alive → Steps first after) → ((fate ≡ Alive → ⊥) → after ≡ fate)
        → IsPartAt K core part decision old mark fate → IsPartAt K core part decision old mark after
    old_part part old mark less Alive Alive steps stays h = h
    old_part part old mark less Alive (Dead node) steps stays h = let from = (steps refl).own.from in part_later N K core part decision old mark node (omega arith) h
    old_part part old mark less (Dead node) after steps stays h = subst (IsPartAt K core part decision old mark) (sym (stays (λ e. absurd cc))) h

    all_checked : (fate after : Fate) → AreChecked K done first fate → (fate ≡ Alive → Steps first after) → ((fate ≡ Alive → ⊥) → after ≡ fate) → AreChecked K (done ++ here ∷ []) (suc def.node) after
    all_checked Alive after checked steps stays =
        next_checked K table done here first body n (cell_count store) A (solutions_at store decision) root some other checked after (steps refl)
    all_checked (Dead node) after checked steps stays =
        subst (AreChecked K (done ++ here ∷ []) (suc def.node)) (sym (stays (λ e. absurd cc))) (next_dead K table done here first body node checked)

    all_known : (fate after : Fate) → (fate ≡ Alive → AreKnown K decision entries (places_after [] done)) → (fate ≡ Alive → Steps first after) → ((fate ≡ Alive → ⊥) → after ≡ fate)
        → after ≡ Alive → AreKnown K decision (Poly scheme [] ∷ entries) (places_after [] (done ++ here ∷ []))
    all_known Alive Alive known steps stays e =
        subst (AreKnown K decision (Poly scheme [] ∷ entries)) (sym (places-append [] done (here ∷ [])))
        (known_entry N K decision scheme here here.recursive (places_after [] done) (gives_all first (steps refl)), known refl)
    all_known Alive (Dead node) known steps stays e = absurd cc
    all_known (Dead node) after known steps stays e = let same = stays (λ h. absurd cc) in absurd cc

  -- one more definition
  pub reached_next : (fate after : Fate) → IsReachedAt K core count decision entries schemes marks fate
      → ((first : ℕ) → fate ≡ Alive → AreKnown K decision entries (places_after [] done) → AreBefore first (places_after [] done) → IsNumberedCore first here.body def.node → Steps first after)
      → ((fate ≡ Alive → ⊥) → after ≡ fate)
      → IsReachedAt K core (suc count) decision (Poly scheme [] ∷ entries) (schemes ++ scheme ∷ []) (marks ++ def.node ∷ []) after
  reached_next fate after h make stays =
      let first = h.first in
      let numbers = two_numbered first here (nested (drop (suc count) defs) (core_at decision core.main)) h.last here.recursive
      (subst (λ list. IsNumberedCore first (nested list (core_at decision core.main)) h.last) left h.numbered) in
      let body = numbers.0 in
      let steps : fate ≡ Alive → Steps first after = λ alive. make first alive (h.known alive) h.before body in
      let within = numbered-within first here.body.node here.body.form def.node body in
      record {
        first = suc def.node;
        last = h.last;
        before = subst (λ list. AreBefore (suc def.node) (places_after [] list)) (sym taken)
            (subst (AreBefore (suc def.node)) (sym (places-append [] done (here ∷ []))) (before_next first here (places_after [] done) body h.before here.recursive));
        numbered = numbers.1;
        checked = subst (λ list. AreChecked K list (suc def.node) after) (sym taken) (all_checked first body fate after h.checked steps stays);
        known = λ alive. subst (λ list. AreKnown K decision (Poly scheme [] ∷ entries) (places_after [] list)) (sym taken) (all_known first body fate after h.known steps stays alive);
        parts = λ part it mark scheme_is mark_is. by_place first body h.checked h.parts steps part it mark (last_or_before schemes scheme part it scheme_is) (last_or_before marks def.node part mark mark_is);
      }
    where
      by_place : (first : ℕ) → IsNumberedCore first here.body def.node → AreChecked K done first fate
          → ((part : ℕ) (it : Scheme N) (mark : ℕ) → slice_get schemes part ≡ Some it → slice_get marks part ≡ Some mark → (mark < first) × IsPartAt K core part decision it mark fate)
          → (fate ≡ Alive → Steps first after) → (part : ℕ) (it : Scheme N) (mark : ℕ)
          → (slice_get schemes part ≡ Some it) ⊎ ((part ≡ length schemes) × (scheme ≡ it))
          → (slice_get marks part ≡ Some mark) ⊎ ((part ≡ length marks) × (def.node ≡ mark))
          → (mark < suc def.node) × IsPartAt K core part decision it mark after
      by_place first body checked parts steps part it mark (inl old) (inl old_mark) =
          let within = numbered-within first here.body.node here.body.form def.node body in
          let found = parts part it mark old old_mark in
          let less = found.0 in
          (omega arith, old_part first body part it mark less fate after steps stays found.1)
      by_place first body checked parts steps part it mark (inl old) (inr new_mark) =
          let less = slice_get_within schemes part it old in
          let same = new_mark.0 in
          absurd (omega arith)
      by_place first body checked parts steps part it mark (inr new) (inl old_mark) =
          let less = slice_get_within marks part mark old_mark in
          let same = new.0 in
          absurd (omega arith)
      by_place first body checked parts steps part it mark (inr new) (inr new_mark) =
          added_part K core count part decision scheme it def.node mark after (new.0 ∙ scheme_count) new.1 new_mark.1 (own_part first body fate after checked steps stays)
