use Rattle.std.proofs.Common.{◌≡◌, ◌⊎◌, ◌↔◌, ℕ, ◌*◌, ◌<◌, List, [], ◌∷◌, ◌++◌, Option, length, refl, ap, sym, subst, ◌∙◌, inl, inr}
use Rattle.std.specs.List.{All}
use Rattle.std.specs.Option.{option_to_list}
use Rattle.std.proofs.lemmas.List.Elements.{All-nil, All-cons, All-head, All-append, All-weaker}
use Rattle.vt_dec.specs.declared.side.Side.{Side}
use Rattle.vt_dec.specs.declared.fate.Fate.TheVariants.{Alive, Dead}
use Rattle.vt_dec.specs.Decisions.{Region, Admits}
use Rattle.vt_dec.proofs.Admitting.{Admits-or}
use Rattle.vt_type.specs.declared.plain.Plain.{Plain}
use Rattle.vt_store.specs.Ends.{CellEnd, IsAcyclic, AreArities}
use Rattle.vt_store.specs.Laws.{HaveMostGeneral}
use Rattle.vt_store.specs.Patterns.{FateMap, fate_at}
use Rattle.vt_store.specs.Solutions.{Solves}
use Rattle.vt_store.specs.Stores.{Cells, cell_count, ends_at, IsBound}
use Rattle.vt_store.specs.Writes.{IsOf}
use Rattle.vt_store.proofs.Solutions.{HaveSolutions}
use Rattle.vt_unify.specs.Equations.{Equation, HoldsAt, IsPosed, IsInside}
use Rattle.vt_unify.specs.Turns.{Turns, left_at, IsBindable, IsWorked}
use Rattle.vt_unify.specs.Unified.{AreEqualSolutions, IsEither, IsUnified}
use Rattle.vt_unify.proofs.Admitted.{IsOf-in}
use Rattle.vt_unify.proofs.Solving.{bound_solves}
use Rattle.vt_unify.proofs.Holding.{All-parts, Turns-then, alive_dead}
use Rattle.vt_unify.proofs.Binding.{unbound}

-- the solutions that are wanted: x and y are equal where the decision is admitted
abbrev pub wanted_at : Region → ℕ → ℕ → List Side → Cells → (ℕ → Plain) → Type 0
wanted_at region x y decision store s = Solves (cell_count store) (ends_at store decision) s × (Admits region decision → s x ≡ s y)

-- How far two cells are unified, with equations that are still to hold.
pub record IsUnderway (N node : ℕ) (region : Region) (x y : ℕ) (old new : Cells) (before after : FateMap) (pending : List Equation) : Type 0 where
  pub turned : (decision : List Side) → IsOf N old.space decision
      → Turns node (fate_at before decision) (fate_at after decision) (wanted_at region x y decision old) (left_at decision new pending)
  pub kept : (decision : List Side) → IsOf N old.space decision → (Admits region decision → fate_at before decision ≡ Alive → ⊥) → (cell : ℕ) → ends_at new decision cell ≡ ends_at old decision cell
  pub posed : All (IsPosed N new) pending
  pub inside : All (IsInside region) pending
  pub count : cell_count new ≡ cell_count old
  pub space : new.space ≡ old.space
  pub pattern_space : after.space ≡ before.space

same_solutions : (n : ℕ) (e later : ℕ → CellEnd) → ((cell : ℕ) → later cell ≡ e cell) → (s : ℕ → Plain) → Solves n later s ↔ Solves n e s
same_solutions n e later same s =
    let path : later ≡ e = λ i cell. same cell i in
    ((λ h. subst (λ ends. Solves n ends s) path h), (λ h. subst (λ ends. Solves n ends s) (sym path) h))

module _ (N node : ℕ) (region : Region) (x y : ℕ) (old : Cells) (before : FateMap) where
  -- at first the one equation
  pub underway_first : (equation : Equation) → IsPosed N old equation → equation.within ≡ region → equation.left ≡ x → equation.right ≡ y
      → IsUnderway N node region x y old old before before (equation ∷ [])
  underway_first equation posed own left right = record {
    turned = λ d of. inl (record {
      fate = refl;
      same = λ alive s. (
        (λ h. (h.0, λ admits. sym (ap s left) ∙ All-head (HoldsAt d s) equation [] h.1 (subst (λ within. Admits within d) (sym own) admits) ∙ ap s right)),
        (λ h. (h.0, All-cons (HoldsAt d s) equation [] (λ admits. ap s left ∙ h.1 (subst (λ within. Admits within d) own admits) ∙ sym (ap s right)) (All-nil (HoldsAt d s)))),
      );
    });
    kept = λ d of dead cell. refl;
    posed = All-cons (IsPosed N old) equation [] posed (All-nil (IsPosed N old));
    inside = All-cons (IsInside region) equation [] (λ d admits. subst (λ within. Admits within d) own admits) (All-nil (IsInside region));
    count = refl;
    space = refl;
    pattern_space = refl;
  }

  -- equations that were worked off
  pub underway_worked : (new : Cells) (after later : FateMap) (pending rest : List Equation) (found : Option Equation)
      → IsUnderway N node region x y old new before after pending → IsWorked N node new after later pending rest found
      → IsUnderway N node region x y old new before later (rest ++ option_to_list found)
  underway_worked new after later pending rest found so_far worked = record {
    turned = λ d of.
        Turns-then node (fate_at before d) (fate_at after d) (fate_at later d) (wanted_at region x y d old) (left_at d new pending) (left_at d new (rest ++ option_to_list found)) (so_far.turned d of)
        (worked.turned d (subst (λ space. IsOf N space d) (sym so_far.space) of));
    kept = so_far.kept;
    posed = worked.posed;
    inside = worked.inside region so_far.inside;
    count = so_far.count;
    space = so_far.space;
    pattern_space = worked.space ∙ so_far.pattern_space;
  }

  -- a cell that was bound as the last equation asks
  module _ (new later : Cells) (after : FateMap) (rest : List Equation) (binding : Equation) (so_far : IsUnderway N node region x y old new before after (rest ++ binding ∷ []))
      (bindable : IsBindable new after binding) (bound : IsBound N binding.within binding.left binding.right new later) where
    posed_here : IsPosed N new binding
    posed_here = All-head (IsPosed N new) binding [] (All-parts (IsPosed N new) rest (binding ∷ []) so_far.posed).1

    of_new : (d : List Side) → IsOf N old.space d → IsOf N new.space d
    of_new d of = subst (λ space. IsOf N space d) (sym so_far.space) of

    solves-bound : (d : List Side) → Admits binding.within d → (s : ℕ → Plain) → Solves (cell_count later) (ends_at later d) s ↔ (Solves (cell_count new) (ends_at new d) s × (s binding.left ≡ s binding.right))
    solves-bound d admits s =
        subst (λ n. Solves n (ends_at later d) s ↔ (Solves (cell_count new) (ends_at new d) s × (s binding.left ≡ s binding.right))) (sym bound.count)
        (bound_solves (cell_count new) (ends_at new d) (ends_at later d) binding.left binding.right posed_here.left (bindable.binds d admits).free (bound.admitted d admits) (bound.elsewhere d) s)

    solves-unbound : (d : List Side) → IsOf N old.space d → (Admits binding.within d → ⊥) → (s : ℕ → Plain) → Solves (cell_count later) (ends_at later d) s ↔ Solves (cell_count new) (ends_at new d) s
    solves-unbound d of out s =
        subst (λ n. Solves n (ends_at later d) s ↔ Solves (cell_count new) (ends_at new d) s) (sym bound.count)
        (same_solutions (cell_count new) (ends_at new d) (ends_at later d) (unbound N new later after binding posed_here bindable bound d (of_new d of) out) s)

    turned-bound : (d : List Side) → IsOf N old.space d → Turns node (fate_at after d) (fate_at after d) (left_at d new (rest ++ binding ∷ [])) (left_at d later rest)
    turned-bound d of = inl (record { fate = refl; same = λ alive s. by s (Admits-or binding.within d) })
      where
        by : (s : ℕ → Plain) → Admits binding.within d ⊎ (Admits binding.within d → ⊥) → left_at d later rest s ↔ left_at d new (rest ++ binding ∷ []) s
        by s (inl admits) = (
          (λ h.
              let solved = (solves-bound d admits s).0 h.0 in
              (solved.0, All-append (HoldsAt d s) rest (binding ∷ []) h.1 (All-cons (HoldsAt d s) binding [] (λ own. solved.1) (All-nil (HoldsAt d s))))),
          (λ h.
              let cut = All-parts (HoldsAt d s) rest (binding ∷ []) h.1 in
              ((solves-bound d admits s).1 (h.0, All-head (HoldsAt d s) binding [] cut.1 admits), cut.0)),
        )
        by s (inr out) = (
          (λ h. (
            (solves-unbound d of out s).0 h.0,
            All-append (HoldsAt d s) rest (binding ∷ []) h.1 (All-cons (HoldsAt d s) binding [] (λ own. absurd (out own)) (All-nil (HoldsAt d s))),
          )),
          (λ h. ((solves-unbound d of out s).1 h.0, (All-parts (HoldsAt d s) rest (binding ∷ []) h.1).0)),
        )

    -- what was not alive is not bound
    kept-bound : (d : List Side) → IsOf N old.space d → (Admits region d → fate_at before d ≡ Alive → ⊥) → (cell : ℕ) → ends_at later d cell ≡ ends_at old d cell
    kept-bound d of dead cell = unbound N new later after binding posed_here bindable bound d (of_new d of) out cell ∙ so_far.kept d of dead cell
      where
        was_alive : Turns node (fate_at before d) (fate_at after d) (wanted_at region x y d old) (left_at d new (rest ++ binding ∷ [])) → fate_at after d ≡ Alive → fate_at before d ≡ Alive
        was_alive (inl stays) alive = sym stays.fate ∙ alive
        was_alive (inr dies) alive = absurd (alive_dead node (sym alive ∙ dies.now))

        out : Admits binding.within d → ⊥
        out admits =
            dead (All-head (IsInside region) binding [] (All-parts (IsInside region) rest (binding ∷ []) so_far.inside).1 d admits) (was_alive (so_far.turned d of) (bindable.alive d admits))

    pub underway_bound : IsUnderway N node region x y old later before after rest
    underway_bound = record {
      turned = λ d of.
          Turns-then node (fate_at before d) (fate_at after d) (fate_at after d) (wanted_at region x y d old) (left_at d new (rest ++ binding ∷ [])) (left_at d later rest) (so_far.turned d of) (turned-bound d of);
      kept = kept-bound;
      posed =
          All-weaker (IsPosed N new) (IsPosed N later)
          (λ equation posed. record {
            left = subst (λ n. equation.left < n) (sym bound.count) posed.left;
            right = subst (λ n. equation.right < n) (sym bound.count) posed.right;
            space = posed.space ∙ sym bound.space;
            sized = posed.sized;
            some = posed.some;
          })
          rest (All-parts (IsPosed N new) rest (binding ∷ []) so_far.posed).0;
      inside = (All-parts (IsInside region) rest (binding ∷ []) so_far.inside).0;
      count = bound.count ∙ so_far.count;
      space = bound.space ∙ so_far.space;
      pattern_space = so_far.pattern_space;
    }

  -- ---- no equation is left

  module _ (new : Cells) (after : FateMap) (so_far : IsUnderway N node region x y old new before after []) (sized : length region.sides ≡ 64 * N) (space : region.space ≡ old.space)
      (solved_old : HaveSolutions N old) (solved_new : HaveSolutions N new) where
    of_region : (d : List Side) → Admits region d → IsOf N old.space d
    of_region d admits = IsOf-in N old.space region d sized space admits

    solutions-kept : (d : List Side) → IsOf N old.space d → (Admits region d → fate_at before d ≡ Alive → ⊥) → (s : ℕ → Plain) → Solves (cell_count new) (ends_at new d) s ↔ Solves (cell_count old) (ends_at old d) s
    solutions-kept d of dead s =
        subst (λ n. Solves n (ends_at new d) s ↔ Solves (cell_count old) (ends_at old d) s) (sym so_far.count) (same_solutions (cell_count old) (ends_at old d) (ends_at new d) (so_far.kept d of dead) s)

    solved : (d : List Side) → Admits region d → fate_at before d ≡ Alive → (s : ℕ → Plain) → Solves (cell_count old) (ends_at old d) s → s x ≡ s y
        → Turns node (fate_at before d) (fate_at after d) (wanted_at region x y d old) (left_at d new []) → AreEqualSolutions x y d old new × (fate_at after d ≡ Alive)
    solved d admits alive s solves equal (inl stays) = (
      (λ t. (
        (λ h. let wanted = (stays.same alive t).0 (h, All-nil (HoldsAt d t)) in (wanted.0, wanted.1 admits)),
        (λ h. ((stays.same alive t).1 (h.0, λ own. h.1)).0),
      )),
      stays.fate ∙ alive,
    )
    solved d admits alive s solves equal (inr dies) = absurd (dies.none s (solves, λ own. equal))

    failed : (d : List Side) → Admits region d → fate_at before d ≡ Alive → ((s : ℕ → Plain) → Solves (cell_count old) (ends_at old d) s → s x ≡ s y → ⊥)
        → Turns node (fate_at before d) (fate_at after d) (wanted_at region x y d old) (left_at d new []) → fate_at after d ≡ Dead node
    failed d admits alive none (inl stays) =
        let some = solved_new d (subst (λ own. IsOf N own d) (sym so_far.space) (of_region d admits)) in
        let wanted = (stays.same alive some.0).0 (some.1, All-nil (HoldsAt d some.0)) in
        absurd (none some.0 wanted.0 (wanted.1 admits))
    failed d admits alive none (inr dies) = dies.now

    either : (d : List Side) → Admits region d → fate_at before d ≡ Alive → Turns node (fate_at before d) (fate_at after d) (wanted_at region x y d old) (left_at d new []) → IsEither x y node d old new (fate_at after d)
    either d admits alive (inl stays) =
        subst (IsEither x y node d old new) (sym (stays.fate ∙ alive)) (λ t. (
          (λ h. let wanted = (stays.same alive t).0 (h, All-nil (HoldsAt d t)) in (wanted.0, wanted.1 admits)),
          (λ h. ((stays.same alive t).1 (h.0, λ own. h.1)).0),
        ))
    either d admits alive (inr dies) = subst (IsEither x y node d old new) (sym dies.now) (refl, λ s solves equal. dies.none s (solves, λ own. equal))

    dead-fate : (d : List Side) → (fate_at before d ≡ Alive → ⊥) → Turns node (fate_at before d) (fate_at after d) (wanted_at region x y d old) (left_at d new []) → fate_at after d ≡ fate_at before d
    dead-fate d dead (inl stays) = stays.fate
    dead-fate d dead (inr dies) = absurd (dead dies.was)

    other-fate : (d : List Side) → IsOf N old.space d → (Admits region d → ⊥) → Turns node (fate_at before d) (fate_at after d) (wanted_at region x y d old) (left_at d new [])
        → fate_at after d ≡ fate_at before d
    other-fate d of out (inl stays) = stays.fate
    other-fate d of out (inr dies) = let some = solved_old d of in absurd (dies.none some.0 (some.1, λ admits. absurd (out admits)))

    pub underway_last : IsUnified N region x y node old new before after
    underway_last = record {
      solved = λ d admits alive s solves equal. solved d admits alive s solves equal (so_far.turned d (of_region d admits));
      failed = λ d admits alive none. failed d admits alive none (so_far.turned d (of_region d admits));
      either = λ d admits alive. either d admits alive (so_far.turned d (of_region d admits));
      dead = λ d admits dead. (dead-fate d dead (so_far.turned d (of_region d admits)), solutions-kept d (of_region d admits) (λ own alive. dead alive));
      others = λ d of out. (other-fate d of out (so_far.turned d of), solutions-kept d of (λ admits alive. out admits));
      cells = so_far.count;
      space = so_far.space;
      pattern_space = so_far.pattern_space;
    }
