use Rattle.std.proofs.Common.{◌≡◌, ◌↔◌, ◌⊎◌, ℕ, suc, ◌+◌, ◌*◌, ◌<◌, ◌≤◌, List, [], ◌∷◌, ◌++◌, length, take, drop, slice_get, Option, Some, None, All, inl, inr, refl, sym, subst, ◌∙◌, arith}
use Rattle.std.proofs.lemmas.List.{take_all, drop_all, length-map}
use Rattle.std.proofs.lemmas.List.Elements.{All-cons}
use Rattle.std.proofs.lemmas.Option.{slice_get_within, slice_get_past, slice_get-get_or}
use Rattle.std.proofs.Math.ListN.{get_or}
use Rattle.vt_dec.specs.declared.side.Side.{Side}
use Rattle.vt_dec.specs.declared.side.Side.TheVariants.{Left, Right}
use Rattle.vt_dec.specs.declared.fate.Fate.{Fate}
use Rattle.vt_dec.specs.declared.fate.Fate.TheVariants.{Alive, Dead}
use Rattle.vt_lex.specs.declared.span.Span.{Span}
use Rattle.vt_syntax.specs.declared.core_expr.Core.{Core}
use Rattle.vt_syntax.specs.declared.core_expr.Form.{Form, Literal, Name, Const, Hole}
use Rattle.vt_syntax.specs.declared.core_program.CoreDef.{CoreDef}
use Rattle.vt_syntax.specs.declared.core_program.CoreProgram.{CoreProgram}
use Rattle.vt_syntax.specs.CoreTrees.{core, fun_of, app_of, let_of, let_rec_of, choice_of, choice_form}
use Rattle.vt_syntax.specs.Checking.{Rise, numbers_of, IsInCheckingOrder, IsGreatest}
use Rattle.vt_syntax.specs.Programs.{nested, whole}
use Rattle.vt_syntax.specs.Scoping.{HasDims}
use Rattle.vt_syntax.specs.Selection.{selected_core_def, selected_form, chosen, core_at, IsPlainForm}
use Rattle.vt_syntax.proofs.Choosing.{selected-alike}
use Rattle.vt_type.specs.declared.plain.Plain.{Plain}
use Rattle.vt_type.specs.Canonical.{IsCanonical}
use Rattle.vt_type.specs.Constants.{Constant, IsTable}
use Rattle.vt_store.specs.Solutions.{Solves, ReadsAs}
use Rattle.vt_store.specs.Stores.{Cells, cell_count, ends_at}
use Rattle.vt_store.specs.Writes.{IsOf}
use Rattle.vt_scheme.specs.declared.scheme.Scheme.{Scheme}
use Rattle.vt_scheme.specs.Schemes.{IsFrozen}
use Rattle.vt_rules.specs.Env.{Empty}
use Rattle.vt_rules.specs.Typing.{Ty}
use Rattle.vt_rules.specs.Failing.{FirstFailing}
use Rattle.vt_rules.specs.Principal.{IsTyped, Principal}
use Rattle.vt_rules.proofs.InOrder.{AllNodes, all_nodes}
use Rattle.vt_rules.proofs.NodesAbove.{weaker}
use Rattle.vt_infer.specs.declared.environment.Entry.{Entry}
use Rattle.vt_infer.specs.Definitions.{places_after, env_after, AreChecked}
use Rattle.vt_infer.specs.Inferred.{IsPartAt}
use Rattle.vt_infer.specs.Inferring.{solutions_at}
use Rattle.vt_infer.specs.Numbered.{IsNumberedCore, AreBefore}
use Rattle.vt_infer.specs.Parts.{defs_at, AreKnown, IsReachedAt}
use Rattle.vt_infer.specs.Steps.{Solutions, TypesOf, Steps}
use Rattle.vt_infer.proofs.CheckedLemmas.{fails_after, part_alive, part_dead, part_later}
use Rattle.vt_infer.proofs.DefinitionLemmas.{env-places}
use Rattle.vt_infer.proofs.KnownLemmas.{last_or_before, chosen_main, nested_selected}
use Rattle.vt_infer.proofs.NumberLemmas.{numbered-within, rise-numbered, core_at-plain}
use Rattle.vt_infer.proofs.NumberLists.{numbered-narrower}
use Rattle.vt_infer.proofs.PartLemmas.{adds_types, frozen_types, chain_same, reads_principal}

-- What is known at one decision before the first definition, and after the main expression.

-- some number is above all of a list
bounded : (xs : List ℕ) → (bound : ℕ) × All (λ n. (0 ≤ n) × (n < bound)) xs
bounded [] = (0, λ i d within. absurd (omega arith))
bounded (x ∷ xs) =
    let (bound, all) = bounded xs in (
      suc (x + bound),
      All-cons (λ n. (0 ≤ n) × (n < suc (x + bound))) x xs (omega arith, omega arith) (λ i d within. let h = all i d within in (omega arith, omega arith)),
    )

pub reached_first : {N : ℕ} (K : List Constant) (core : CoreProgram) (decision : List Side) → IsInCheckingOrder core → HasDims (64 * N) (whole core).form → length decision ≡ 64 * N
    → IsReachedAt {N = N} K core 0 decision [] [] [] Alive
reached_first {N = N} K core decision order dims sized =
    let program = nested (defs_at decision core.defs) (core_at decision core.main) in
    let bound = bounded (numbers_of program) in
    let given = λ (dim : ℕ). Some (get_or decision dim Left) in
    let same =
    sym (nested_selected given core.defs core.main)
    ∙ selected-alike (64 * N) given (slice_get decision) (λ dim less. sym (slice_get-get_or decision dim Left (omega arith))) (whole core).node (whole core).span (whole core).form dims
    ∙ nested_selected (slice_get decision) core.defs core.main
    in
    let plain : IsPlainForm program.form = subst (λ (e : Core). IsPlainForm e.form) (nested_selected (slice_get decision) core.defs core.main) (core_at-plain (64 * N) decision (whole core) dims (omega arith)) in
    record {
      first = 0;
      last = bound.0;
      before = tt;
      numbered = rise-numbered 0 program.node program.form bound.0 plain (subst (λ (e : Core). Rise (numbers_of e)) same (order (λ dim. get_or decision dim Left))) bound.1;
      checked = tt;
      known = λ _. tt;
      parts = λ part scheme mark is. absurd cc;
    }

-- the nodes that are left are among those of the whole
selected_nodes : (P : ℕ → Type 0) (taken : ℕ → Option Side) (node : ℕ) (at : Span) (form : Form) → AllNodes P node form
    → let c = selected_form taken node at form in AllNodes P c.node c.form
selected_nodes P taken node at (Literal literal) h = h
selected_nodes P taken node at (Name distance) h = h
selected_nodes P taken node at (Const id) h = h
selected_nodes P taken node at Hole h = h
selected_nodes P taken node at (fun_of n by body) h = (h.0, selected_nodes P taken n by body h.1)
selected_nodes P taken node at (app_of n by function m to argument) h = (h.0, selected_nodes P taken n by function h.1, selected_nodes P taken m to argument h.2)
selected_nodes P taken node at (let_of n by bound m to body) h = (h.0, selected_nodes P taken n by bound h.1, selected_nodes P taken m to body h.2)
selected_nodes P taken node at (let_rec_of name name_at n by bound m to body) h = (h.0, selected_nodes P taken n by bound h.1, selected_nodes P taken m to body h.2)
selected_nodes P taken node at (choice_of dim n by left m to right) h =
    by_choice (taken dim) (selected_form taken n by left) (selected_form taken m to right) (selected_nodes P taken n by left h.1) (selected_nodes P taken m to right h.2)
  where
    by_choice : (found : Option Side) (one other : Core) → AllNodes P one.node one.form → AllNodes P other.node other.form
        → let c = chosen found one other (core node at (choice_form dim one other)) in AllNodes P c.node c.form
    by_choice (Some Left) one other f g = f
    by_choice (Some Right) one other f g = g
    by_choice None one other f g = (h.0, f, g)

-- the numbers of the main expression lie below what comes after the greatest of them
pub main_numbered : (core : CoreProgram) (decision : List Side) (first last mark : ℕ) → IsGreatest mark (numbers_of core.main)
    → IsNumberedCore first (core_at decision core.main) last → IsNumberedCore first (core_at decision core.main) (suc mark)
main_numbered core decision first last mark greatest h =
    let below = weaker (λ n. n ≤ mark) (λ n. n < suc mark) (λ n le. omega arith) core.main.node core.main.form (all_nodes (λ n. n ≤ mark) core.main.node core.main.form greatest.greatest) in
    numbered-narrower first (core_at decision core.main).node (core_at decision core.main).form last (suc mark) h
    (selected_nodes (λ n. n < suc mark) (slice_get decision) core.main.node core.main.span core.main.form below)

-- What is known at a decision of a whole program, by its fate.
abbrev pub IsFinishedAt : List Constant → Core → Cells → List Side → ℕ → ℕ → Fate → Type 0
IsFinishedAt K program store decision root mark Alive =
    IsTyped K program × ((type : Plain) → ((s : ℕ → Plain) × Solves (cell_count store) (ends_at store decision) s × (s root ≡ type)) ↔ Ty K Empty program type)
IsFinishedAt K program store decision root mark (Dead node) = (node ≤ mark) × FirstFailing K program node

module _ (N : ℕ) (K : List Constant) (table : IsTable K) (core : CoreProgram) (decision : List Side)
    (store : Cells) (root : ℕ) (mark : ℕ) (greatest : IsGreatest mark (numbers_of core.main))
    (n : ℕ) (A : Solutions) (some : (s : ℕ → Plain) × A s) (other : (s : ℕ → Plain) × solutions_at store decision s) where
  abbrev defs : List CoreDef
  defs = defs_at decision core.defs

  abbrev main : Core
  main = core_at decision core.main

  abbrev Ends : ℕ → Fate → Type 0
  Ends first fate = Steps K n (cell_count store) A (solutions_at store decision) root (places_after [] defs) main first (suc mark) fate

  -- the whole program
  finished : (first : ℕ) → IsNumberedCore first main (suc mark) → (fate after : Fate) → AreChecked K defs first fate → (fate ≡ Alive → Ends first after) → ((fate ≡ Alive → ⊥) → after ≡ fate)
      → IsFinishedAt K (nested defs main) store decision root mark after
  finished first numbered Alive Alive typed steps stays =
      let same = adds_types n (cell_count store) A (solutions_at store decision) root (TypesOf K (places_after [] defs) main) (Ty K (env_after Empty defs) main) (steps refl) some
      (λ s type. (subst (λ env. Ty K env main type) (env-places s [] defs), subst (λ env. Ty K env main type) (sym (env-places s [] defs))))
      in
      let all = chain_same K defs typed main (λ type. (s : ℕ → Plain) × Solves (cell_count store) (ends_at store decision) s × (s root ≡ type)) same in
      ((other.0 root, (all (other.0 root)).0 (other.0, other.1, refl)), all)
  finished first numbered Alive (Dead node) typed steps stays =
      let below = (steps refl).below in
      (omega arith, fails_after K table defs A main first node (suc mark) typed some (steps refl))
  finished first numbered (Dead node) after checked steps stays =
      let less = checked.0 in
      let within = numbered-within first main.node main.form (suc mark) numbered in
      subst (IsFinishedAt K (nested defs main) store decision root mark) (sym (stays (λ e. absurd cc))) (omega arith, checked.1 main (suc mark) numbered)

  -- the part that the main expression is
  main_part : (scheme : Scheme N) → IsOf N store.space decision → IsFrozen N store [] root scheme → (part : ℕ) → slice_get core.defs part ≡ None → (fate : Fate)
      → IsFinishedAt K (nested defs main) store decision root mark fate → IsPartAt K core part decision scheme mark fate
  main_part scheme of frozen part past Alive h =
      part_alive N K core part decision scheme mark (nested defs main) (chosen_main core decision part past) h.0
      (reads_principal K (nested defs main) (cell_count scheme.cells) (ends_at scheme.cells decision) scheme.root (λ type. (
        λ given. (h.1 type).0 ((frozen_types N store root scheme frozen decision of type).0 given),
        λ d. (frozen_types N store root scheme frozen decision of type).1 ((h.1 type).1 d),
      )))
  main_part scheme of frozen part past (Dead node) h = part_dead N K core part decision scheme mark (nested defs main) (chosen_main core decision part past) table node h.0 h.1

  -- what is known of all definitions and the main expression
  pub finish : (entries : List (Entry N)) (schemes : List (Scheme N)) (marks : List ℕ) (count : ℕ) → length core.defs ≤ count → length schemes ≡ count → length marks ≡ count
      → (fate after : Fate) → IsReachedAt K core count decision entries schemes marks fate
      → ((first : ℕ) → fate ≡ Alive → AreKnown K decision entries (places_after [] defs) → AreBefore first (places_after [] defs) → IsNumberedCore first main (suc mark) → Ends first after)
      → ((fate ≡ Alive → ⊥) → after ≡ fate)
      → IsFinishedAt K (nested defs main) store decision root mark after
      × ((scheme : Scheme N) → IsOf N store.space decision → IsFrozen N store [] root scheme → (part : ℕ) (it : Scheme N) (number : ℕ)
      → slice_get (schemes ++ scheme ∷ []) part ≡ Some it → slice_get (marks ++ mark ∷ []) part ≡ Some number → IsPartAt K core part decision it number after)
  finish entries schemes marks count past scheme_count mark_count fate after h make stays = (
    whole_known,
    λ scheme of frozen part it number scheme_is mark_is.
        by_place scheme of frozen part it number (last_or_before schemes scheme part it scheme_is) (last_or_before marks mark part number mark_is),
  )
    where
      all : take count defs ≡ defs
      all = take_all count defs (omega (arith, length-map core.defs (selected_core_def (slice_get decision))))

      nothing : drop count defs ≡ []
      nothing = drop_all count defs (omega (arith, length-map core.defs (selected_core_def (slice_get decision))))

      numbered : IsNumberedCore h.first main (suc mark)
      numbered = main_numbered core decision h.first h.last mark greatest (subst (λ list. IsNumberedCore h.first (nested list main) h.last) nothing h.numbered)

      steps : fate ≡ Alive → Ends h.first after
      steps alive =
          make h.first alive (subst (λ list. AreKnown K decision entries (places_after [] list)) all (h.known alive))
          (subst (λ list. AreBefore h.first (places_after [] list)) all h.before) numbered

      whole_known : IsFinishedAt K (nested defs main) store decision root mark after
      whole_known = finished h.first numbered fate after (subst (λ list. AreChecked K list h.first fate) all h.checked) steps stays

      old_part : (part : ℕ) (it : Scheme N) (number : ℕ) → number < h.first → (before later : Fate) → (before ≡ Alive → Ends h.first later) → ((before ≡ Alive → ⊥) → later ≡ before)
          → IsPartAt K core part decision it number before → IsPartAt K core part decision it number later
      old_part part it number less Alive Alive go stay k = k
      old_part part it number less Alive (Dead node) go stay k = let from = (go refl).from in part_later N K core part decision it number node (omega arith) k
      old_part part it number less (Dead node) later go stay k = subst (IsPartAt K core part decision it number) (sym (stay (λ e. absurd cc))) k

      by_place : (scheme : Scheme N) → IsOf N store.space decision → IsFrozen N store [] root scheme → (part : ℕ) (it : Scheme N) (number : ℕ)
          → (slice_get schemes part ≡ Some it) ⊎ ((part ≡ length schemes) × (scheme ≡ it))
          → (slice_get marks part ≡ Some number) ⊎ ((part ≡ length marks) × (mark ≡ number))
          → IsPartAt K core part decision it number after
      by_place scheme of frozen part it number (inl old) (inl old_mark) =
          let found = h.parts part it number old old_mark in
          old_part part it number found.0 fate after steps stays found.1
      by_place scheme of frozen part it number (inl old) (inr new_mark) =
          let less = slice_get_within schemes part it old in let same = new_mark.0 in absurd (omega arith)
      by_place scheme of frozen part it number (inr new) (inl old_mark) =
          let less = slice_get_within marks part number old_mark in let same = new.0 in absurd (omega arith)
      by_place scheme of frozen part it number (inr new) (inr new_mark) =
          let same = new.0 in
          subst (λ s. IsPartAt K core part decision s number after) new.1
          (subst (λ m. IsPartAt K core part decision scheme m after) new_mark.1
          (main_part scheme of frozen part (slice_get_past core.defs part (omega arith)) after whole_known))

-- the main cell reads as the principal types
pub main_reads : (K : List Constant) (program : Core) (store : Cells) (decision : List Side) (root mark : ℕ) → IsFinishedAt K program store decision root mark Alive
    → IsTyped K program × ((type : Plain) → ReadsAs (cell_count store) (ends_at store decision) root type ↔ (Principal K program type × IsCanonical type))
main_reads K program store decision root mark h = (h.0, reads_principal K program (cell_count store) (ends_at store decision) root h.1)
