use Rattle.std.proofs.Common.{◌≡◌, ◌⊎◌, inl, inr, ℕ, ◌<◌, List, [], ◌++◌, length, take, drop, slice_get, refl, sym, subst, ◌∙◌, arith}
use Rattle.std.specs.List.{Contains}
use Rattle.std.proofs.lemmas.List.{length-map, take_all, drop_all}
use Rattle.std.proofs.lemmas.List.Elements.{Contains-append_left, Contains-append_right, Contains-append_cases}
use Rattle.vt_dec.specs.declared.side.Side.{Side}
use Rattle.vt_dec.specs.declared.fate.Fate.TheVariants.{Alive}
use Rattle.vt_dec.specs.Decisions.{Region, Admits}
use Rattle.vt_syntax.specs.declared.core_expr.Core.{Core}
use Rattle.vt_syntax.specs.declared.core_program.CoreDef.{CoreDef}
use Rattle.vt_syntax.specs.declared.core_program.CoreProgram.{CoreProgram}
use Rattle.vt_syntax.specs.Programs.{nested}
use Rattle.vt_syntax.specs.Selection.{core_at, selected_core_def}
use Rattle.vt_type.specs.declared.plain.Plain.{Plain}
use Rattle.vt_type.specs.Constants.{Constant}
use Rattle.vt_rules.specs.Env.{Empty}
use Rattle.vt_rules.specs.Typing.{Ty}
use Rattle.vt_rules.specs.TypingAt.{TyAt, HoldsHole}
use Rattle.vt_rules.proofs.InversionAt.{holds}
use Rattle.vt_store.specs.Patterns.{fate_at}
use Rattle.vt_store.specs.Stores.{cell_count}
use Rattle.vt_store.specs.Writes.{IsOf}
use Rattle.vt_infer.specs.declared.holes.MetHole.{MetHole}
use Rattle.vt_infer.specs.declared.work.Work.{Work}
use Rattle.vt_infer.specs.Definitions.{places_after, env_after, AreTyped, AreChecked}
use Rattle.vt_infer.specs.Environments.{schemes_of}
use Rattle.vt_infer.specs.Gathering.{HoldsIn, GivesIn, AreGatheredAt, AreGathered, HavePairs, AreFoundAt, AreFound}
use Rattle.vt_infer.specs.Inferring.{IsExpressed, solutions_at}
use Rattle.vt_infer.specs.Meetings.{HoleLog, AreMetAt, IsMarked}
use Rattle.vt_infer.specs.Numbered.{AreBefore, IsNumberedCore}
use Rattle.vt_infer.specs.Parts.{Covers, HasSolutions, IsReached, IsReachedAt, AreKnown, defs_at}
use Rattle.vt_infer.specs.Places.{env_at}
use Rattle.vt_infer.specs.Steps.{Solutions, Adds, Steps, TypesOf}
use Rattle.vt_infer.proofs.DefinitionLemmas.{env-places}
use Rattle.vt_infer.proofs.GoingOn.{alive_before}
use Rattle.vt_infer.proofs.HolesWithin.{holds-within}
use Rattle.vt_infer.proofs.KnownLemmas.{are_meant}
use Rattle.vt_infer.proofs.NestedHoles.{holds_in-before, gives_in-holds, nested-holds, nested-at, nested-in, nested-after}
use Rattle.vt_infer.proofs.PartsExpressed.{added_cells, added_spaces}

-- The holes of a whole program.

module _ (N : ℕ) (K : List Constant) (decision : List Side) (defs : List CoreDef) (main : Core) (n m : ℕ) (A B : Solutions) (root first last : ℕ)
    (before : AreBefore first (places_after [] defs)) (numbered : IsNumberedCore first main last) (typed : AreTyped K Empty defs)
    (adds : Adds n m A B root (TypesOf K (places_after [] defs) main)) (some : (s : ℕ → Plain) × A s)
    (asked : List ℕ) (met added : List (MetHole N)) (old : AreGatheredAt K n A defs decision asked met) (there : (hole : MetHole N) → Contains met hole → hole.cell < n)
    (own : AreMetAt K n m A B root (places_after [] defs) main decision asked added) where
  env : (s : ℕ → Plain) → env_at s (places_after [] defs) ≡ env_after Empty defs
  env s = env-places s [] defs

  apart : (mark : ℕ) → HoldsIn mark defs → HoldsHole mark main.node main.form → ⊥
  apart mark one two =
      let less = holds_in-before first mark [] defs before one in
      let within = holds-within mark first main last numbered two in
      omega (arith, within.0)

  old_pairs : (hole : MetHole N) → Contains met hole → Admits hole.within decision → HavePairs B hole.cell root (λ wanted type. TyAt K hole.node Empty (nested defs main) type wanted)
  old_pairs hole is within = record {
    related = λ s b.
        nested-in K hole.node Empty defs main (s root) (s hole.cell) typed ((old.types hole is within (s hole.cell)).0 (s, adds.old s b, refl))
        (subst (λ e. Ty K e main (s root)) (env s) (adds.related s b));
    taken = λ wanted type d. back wanted type (nested-at K hole.node Empty defs main type wanted d);
  }
    where
      back : (wanted type : Plain) → (GivesIn K hole.node Empty defs wanted × Ty K (env_after Empty defs) main type) ⊎ TyAt K hole.node (env_after Empty defs) main type wanted
          → (s : ℕ → Plain) × B s × (s hole.cell ≡ wanted) × (s root ≡ type)
      back wanted type (inl (given, f)) =
          let (s, a, same) = (old.types hole is within wanted).1 given in
          let (t, b, agree, own_is) = adds.taken s type a (subst (λ e. Ty K e main type) (sym (env s)) f) in
          (t, b, agree hole.cell (there hole is) ∙ same, own_is)
      back wanted type (inr f) = absurd (apart hole.node (old.holds hole is within) (holds K hole.node (env_after Empty defs) main type wanted f))

  new_pairs : (hole : MetHole N) → Contains added hole → Admits hole.within decision → HavePairs B hole.cell root (λ wanted type. TyAt K hole.node Empty (nested defs main) type wanted)
  new_pairs hole is within = record {
    related = λ s b.
        nested-after K hole.node Empty defs main (s root) (s hole.cell) typed
        (subst (λ e. TyAt K hole.node e main (s root) (s hole.cell)) (env s) ((own.wanted hole is within).1.related s b));
    taken = λ wanted type d. back wanted type (nested-at K hole.node Empty defs main type wanted d);
  }
    where
      back : (wanted type : Plain) → (GivesIn K hole.node Empty defs wanted × Ty K (env_after Empty defs) main type) ⊎ TyAt K hole.node (env_after Empty defs) main type wanted
          → (s : ℕ → Plain) × B s × (s hole.cell ≡ wanted) × (s root ≡ type)
      back wanted type (inl (given, f)) = absurd (apart hole.node (gives_in-holds K hole.node Empty defs wanted given) (own.wanted hole is within).0)
      back wanted type (inr f) =
          let (s, a) = some in
          let (t, b, agree, root_is, leaf_is) = (own.wanted hole is within).1.taken s type wanted a (subst (λ e. TyAt K hole.node e main type wanted) (sym (env s)) f) in
          (t, b, leaf_is, root_is)

  reach : (mark : ℕ) → Contains asked mark → HoldsIn mark defs ⊎ HoldsHole mark main.node main.form → (hole : MetHole N) × Contains (met ++ added) hole × Admits hole.within decision × (hole.node ≡ mark)
  reach mark in_asked (inl one) = let (hole, is, within, same) = old.reached mark in_asked one in (hole, Contains-append_left met added hole is, within, same)
  reach mark in_asked (inr two) = let (hole, is, within, same) = own.reached mark in_asked two in (hole, Contains-append_right met added hole is, within, same)

  pub found_at : AreFoundAt K (nested defs main) B root decision asked (met ++ added)
  found_at = record {
    pairs = λ hole is within. elim (Contains-append_cases met added hole is) [
      | inl one ↦ old_pairs hole one within
      | inr two ↦ new_pairs hole two within
    ];
    reached = λ mark in_asked h. reach mark in_asked (nested-holds mark defs main h);
  }

module _ (N : ℕ) (K : List Constant) (region : Region) (core : CoreProgram) (covers : Covers N region region.space)
    (work : Work N) (marks : List ℕ) (h : IsReached N K core region.space (length core.defs) work marks) (log : HoleLog N) (g : AreGathered N K core region.space (length core.defs) work log)
    (main : ℕ) (new : Work N) (later : HoleLog N) (e : IsExpressed N K region core.main main work new) (marked : IsMarked N K region core.main main work new log later) (solvable : HasSolutions N work.store) where
  module _ (decision : List Side) (of : IsOf N region.space decision) (alive : fate_at new.pattern decision ≡ Alive) where
    abbrev defs : List CoreDef
    defs = defs_at decision core.defs

    of_old : IsOf N work.store.space decision
    of_old = subst (λ space. IsOf N space decision) (sym h.store_space) of

    alive_old : fate_at work.pattern decision ≡ Alive
    alive_old = alive_before (fate_at work.pattern decision) (fate_at new.pattern decision) (e.goes_on.dead decision of_old) alive

    at : IsReachedAt K core (length core.defs) decision work.environment (schemes_of work.environment) marks (fate_at work.pattern decision)
    at = h.at decision of

    all : take (length core.defs) defs ≡ defs
    all = take_all (length core.defs) defs (omega (arith, length-map core.defs (selected_core_def (slice_get decision))))

    nothing : drop (length core.defs) defs ≡ []
    nothing = drop_all (length core.defs) defs (omega (arith, length-map core.defs (selected_core_def (slice_get decision))))

    numbered : IsNumberedCore at.first (core_at decision core.main) at.last
    numbered = subst (λ list. IsNumberedCore at.first (nested list (core_at decision core.main)) at.last) nothing at.numbered

    before : AreBefore at.first (places_after [] defs)
    before = subst (λ list. AreBefore at.first (places_after [] list)) all at.before

    known : AreKnown K decision work.environment (places_after [] defs)
    known = subst (λ list. AreKnown K decision work.environment (places_after [] list)) all (at.known alive_old)

    typed : AreTyped K Empty defs
    typed = subst (AreChecked K defs at.first) alive_old (subst (λ list. AreChecked K list at.first (fate_at work.pattern decision)) all at.checked)

    adds : Adds (cell_count work.store) (cell_count new.store) (solutions_at work.store decision) (solutions_at new.store decision) main (TypesOf K (places_after [] defs) (core_at decision core.main))
    adds = subst (Steps K (cell_count work.store) (cell_count new.store) (solutions_at work.store decision) (solutions_at new.store decision) main (places_after [] defs) (core_at decision core.main) at.first at.last) alive
        (e.here decision of_old (covers decision of) alive_old (places_after [] defs) at.first at.last
        (are_meant K (cell_count work.store) (solutions_at work.store decision) decision work.environment (places_after [] defs) known) before numbered)

    found_here : AreFoundAt K (nested defs (core_at decision core.main)) (solutions_at new.store decision) main decision log.asked (log.met ++ marked.added)
    found_here =
        found_at N K decision defs (core_at decision core.main) (cell_count work.store) (cell_count new.store) (solutions_at work.store decision) (solutions_at new.store decision) main at.first at.last before numbered typed adds
        (solvable decision of_old) log.asked log.met marked.added
        (subst (λ list. AreGatheredAt K (cell_count work.store) (solutions_at work.store decision) list decision log.asked log.met) all (g.at decision of alive_old)) g.cells
        (marked.here decision of_old (covers decision of) alive_old alive (places_after [] defs) at.first at.last
        (are_meant K (cell_count work.store) (solutions_at work.store decision) decision work.environment (places_after [] defs) known) before numbered)

  found_all : AreFound N K core region.space new.store new.pattern main later
  found_all = record {
    cells = λ hole is. added_cells log.met marked.added (cell_count work.store) (cell_count new.store) (cell_count new.store) e.goes_on.grows (omega arith) g.cells marked.cells hole (subst (λ met. Contains met hole) marked.met is);
    spaces = λ hole is. added_spaces log.met marked.added region.space g.spaces marked.spaces hole (subst (λ met. Contains met hole) marked.met is);
    at = λ decision of alive.
        subst (λ asked. AreFoundAt K (nested (defs_at decision core.defs) (core_at decision core.main)) (solutions_at new.store decision) main decision asked later.met) (sym marked.asked)
        (subst (AreFoundAt K (nested (defs_at decision core.defs) (core_at decision core.main)) (solutions_at new.store decision) main decision log.asked) (sym marked.met) (found_here decision of alive));
  }

  -- the same of what was found out, which is known by equations
  pub found_as : (last : Work N) → last.store ≡ new.store → last.pattern ≡ new.pattern → AreFound N K core region.space last.store last.pattern main later
  found_as last store pattern =
      subst (λ own. AreFound N K core region.space own last.pattern main later) (sym store)
      (subst (λ fates. AreFound N K core region.space new.store fates main later) (sym pattern) found_all)

-- before the first definition there is none
pub gathered_begin : (N : ℕ) (K : List Constant) (core : CoreProgram) (region : Region) (work : Work N) (log : HoleLog N) → log.met ≡ [] → AreGathered N K core region.space 0 work log
gathered_begin N K core region work log none = record {
  cells = λ hole is. absurd (nothing_met hole is);
  spaces = λ hole is. absurd (nothing_met hole is);
  at = λ decision of alive. record {
    holds = λ hole is within. absurd (nothing_met hole is);
    types = λ hole is within. absurd (nothing_met hole is);
    reached = λ mark asked holds_in. absurd holds_in;
  };
}
  where
    nothing_met : (hole : MetHole N) → Contains log.met hole → ⊥
    nothing_met hole is = let own = subst (λ met. Contains met hole) none is in omega (arith, own.1)
