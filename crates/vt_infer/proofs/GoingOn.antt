use Rattle.std.proofs.Common.{◌≡◌, ℕ, zero, suc, ◌<◌, ◌≤◌, List, [], ◌∷◌, Some, drop, slice_get, refl, sym, subst, ◌∙◌, arith}
use Rattle.std.specs.List.{All}
use Rattle.std.proofs.lemmas.List.Elements.{All-weaker, All-nil, All-cons}
use Rattle.std.proofs.lemmas.Option.{same_Some}
use Rattle.vt_dec.specs.declared.side.Side.{Side}
use Rattle.vt_dec.specs.declared.fate.Fate.{Fate}
use Rattle.vt_dec.specs.declared.fate.Fate.TheVariants.{Alive, Dead}
use Rattle.vt_dec.specs.Decisions.{Region}
use Rattle.vt_type.specs.declared.plain.Plain.{Plain}
use Rattle.vt_type.specs.Constants.{Constant}
use Rattle.vt_store.specs.Patterns.{FateMap}
use Rattle.vt_store.specs.Stores.{Cells, cell_count}
use Rattle.vt_store.specs.Writes.{IsOf}
use Rattle.vt_infer.specs.Places.{Place, At, Bound, Looped, HaveCells, cells_of}
use Rattle.vt_infer.specs.Steps.{Solutions, AreFormed, IsPoly}
use Rattle.vt_infer.specs.Environments.{IsHeld, IsHeldEntry, IsMeant, AreMeant, mono_cells}
use Rattle.vt_infer.specs.Inferring.{solutions_at, GoesOn, NewTypes, IsNew}
use Rattle.vt_infer.specs.declared.environment.Entry.{Entry}
use Rattle.vt_infer.specs.declared.environment.Entry.TheVariants.{Mono, Poly}
use Rattle.vt_infer.proofs.Combining.{keeps-itself, keeps-then, adds-keeps}

-- A store and its pattern from one step to the next, and what an environment says of them later.

module _ (N : ℕ) (region : Region) where
  pub goes_on-itself : (store : Cells) (fates : FateMap) → GoesOn N region store store fates fates
  goes_on-itself store fates = record {
    space = refl;
    pattern_space = refl;
    grows = omega arith;
    dead = λ decision of died. refl;
    fates = λ decision of outside. refl;
    elsewhere = λ decision of outside. keeps-itself (cell_count store) (solutions_at store decision);
  }

  -- a decision of one space is one of the same space
  pub of_same : (old new : Cells) (decision : List Side) → new.space ≡ old.space → IsOf N old.space decision → IsOf N new.space decision
  of_same old new decision same of = subst (λ space. IsOf N space decision) (sym same) of

  pub goes_on-then : (old middle new : Cells) (before between after : FateMap)
      → GoesOn N region old middle before between → GoesOn N region middle new between after → GoesOn N region old new before after
  goes_on-then old middle new before between after one other = record {
    space = other.space ∙ one.space;
    pattern_space = other.pattern_space ∙ one.pattern_space;
    grows = omega (arith, one.grows, other.grows);
    dead = λ decision of died.
        let still = one.dead decision of died in
        other.dead decision (of_same old middle decision one.space of) (λ alive. died (sym still ∙ alive)) ∙ still;
    fates = λ decision of outside. other.fates decision (of_same old middle decision one.space of) outside ∙ one.fates decision of outside;
    elsewhere = λ decision of outside.
        keeps-then (cell_count old) (cell_count middle) (cell_count new) (solutions_at old decision) (solutions_at middle decision) (solutions_at new decision)
        (one.elsewhere decision of outside) (other.elsewhere decision (of_same old middle decision one.space of) outside);
  }

  -- a new cell that has some type in each solution
  pub goes_on-new : (types : NewTypes) (result : ℕ) (old new : Cells) (fates : FateMap)
      → ((decision : List Side) (s : ℕ → Plain) → IsOf N old.space decision → solutions_at old decision s → (type : Plain) × types decision s type)
      → IsNew N types result old new → GoesOn N region old new fates fates
  goes_on-new types result old new fates some is_new = record {
    space = is_new.space;
    pattern_space = refl;
    grows = is_new.grows;
    dead = λ decision of died. refl;
    fates = λ decision of outside. refl;
    elsewhere = λ decision of outside.
        adds-keeps (cell_count old) (cell_count new) (solutions_at old decision) (solutions_at new decision) result (types decision)
        (λ s solves. some decision s of solves) (is_new.adds decision of);
  }

-- what an environment keeps it keeps later
pub held-later : {N : ℕ} (old new : Cells) (entries : List (Entry N)) → new.space ≡ old.space → cell_count old ≤ cell_count new → IsHeld old entries → IsHeld new entries
held-later old new [] same grows held = tt
held-later old new (Mono cell ∷ entries) same grows held = (omega (arith, held.0), held-later old new entries same grows held.1)
held-later old new (Poly scheme originals ∷ entries) same grows held = (
  (held.0.0 ∙ sym same, held.0.1, held.0.2, All-weaker (λ cell. cell < cell_count old) (λ cell. cell < cell_count new) (λ cell inside. omega arith) originals held.0.3),
  held-later old new entries same grows held.1,
)

poly_later : (K : List Constant) (n m : ℕ) (A B : Solutions) (allows : List Plain → Plain → Type 0) (originals : List ℕ) (place : Place) (places : List Place)
    → n ≤ m → ((s : ℕ → Plain) → B s → A s) → IsPoly K n A allows originals place places → IsPoly K m B allows originals place places
poly_later K n m A B allows originals place places grows back poly = record {
  cells = All-weaker (λ cell. cell < n) (λ cell. cell < m) (λ cell inside. omega arith) originals poly.cells;
  exactly = λ s b. poly.exactly s (back s b);
}

-- what it means it means later
pub meant-later : {N : ℕ} (K : List Constant) (n m : ℕ) (A B : Solutions) (decision : List Side) (entries : List (Entry N)) (places : List Place)
    → n ≤ m → ((s : ℕ → Plain) → B s → A s) → AreMeant K n A decision entries places → AreMeant K m B decision entries places
meant-later K n m A B decision [] [] grows back meant = tt
meant-later K n m A B decision [] (place ∷ places) grows back meant = meant
meant-later K n m A B decision (entry ∷ entries) [] grows back meant = meant
meant-later K n m A B decision (Mono cell ∷ entries) (At own ∷ places) grows back meant =
    ((meant.0.0, omega (arith, meant.0.1)), meant-later K n m A B decision entries places grows back meant.1)
meant-later K n m A B decision (Mono cell ∷ entries) (Bound bound ∷ places) grows back meant = absurd meant.0
meant-later K n m A B decision (Mono cell ∷ entries) (Looped bound ∷ places) grows back meant = absurd meant.0
meant-later K n m A B decision (Poly scheme originals ∷ entries) (At own ∷ places) grows back meant = absurd meant.0
meant-later K n m A B decision (Poly scheme originals ∷ entries) (Bound bound ∷ places) grows back meant =
    (poly_later K n m A B _ originals (Bound bound) places grows back meant.0, meant-later K n m A B decision entries places grows back meant.1)
meant-later K n m A B decision (Poly scheme originals ∷ entries) (Looped bound ∷ places) grows back meant =
    (poly_later K n m A B _ originals (Looped bound) places grows back meant.0, meant-later K n m A B decision entries places grows back meant.1)

-- the cells among the places are there
pub meant-cells : {N : ℕ} (K : List Constant) (n : ℕ) (A : Solutions) (decision : List Side) (entries : List (Entry N)) (places : List Place)
    → AreMeant K n A decision entries places → HaveCells n places
meant-cells K n A decision [] [] meant = tt
meant-cells K n A decision [] (place ∷ places) meant = absurd meant
meant-cells K n A decision (entry ∷ entries) [] meant = absurd meant
meant-cells K n A decision (Mono cell ∷ entries) (At own ∷ places) meant = (subst (λ c. c < n) meant.0.0 meant.0.1, meant-cells K n A decision entries places meant.1)
meant-cells K n A decision (Mono cell ∷ entries) (Bound bound ∷ places) meant = absurd meant.0
meant-cells K n A decision (Mono cell ∷ entries) (Looped bound ∷ places) meant = absurd meant.0
meant-cells K n A decision (Poly scheme originals ∷ entries) (At own ∷ places) meant = absurd meant.0
meant-cells K n A decision (Poly scheme originals ∷ entries) (Bound bound ∷ places) meant = (tt, meant-cells K n A decision entries places meant.1)
meant-cells K n A decision (Poly scheme originals ∷ entries) (Looped bound ∷ places) meant = (tt, meant-cells K n A decision entries places meant.1)

-- an entry that is found means a place that is found
pub meant-at : {N : ℕ} (K : List Constant) (n : ℕ) (A : Solutions) (decision : List Side) (entries : List (Entry N)) (places : List Place) (distance : ℕ) (entry : Entry N)
    → slice_get entries distance ≡ Some entry → AreMeant K n A decision entries places
    → (place : Place) × (rest : List Place) × (drop distance places ≡ place ∷ rest) × IsMeant K n A decision entry place rest
meant-at K n A decision [] places distance entry found meant = cc
meant-at K n A decision (own ∷ entries) [] distance entry found meant = absurd meant
meant-at K n A decision (own ∷ entries) (place ∷ places) zero entry found meant =
    (place, places, refl, subst (λ e. IsMeant K n A decision e place places) (same_Some own entry found) meant.0)
meant-at K n A decision (own ∷ entries) (place ∷ places) (suc distance) entry found meant =
    let deeper = meant-at K n A decision entries places distance entry found meant.1 in
    (deeper.0, deeper.1, deeper.2, deeper.3)

-- the cells of the parameters in scope are those of the places
pub mono_cells-meant : {N : ℕ} (K : List Constant) (n : ℕ) (A : Solutions) (decision : List Side) (entries : List (Entry N)) (places : List Place)
    → AreMeant K n A decision entries places → mono_cells entries ≡ cells_of places
mono_cells-meant K n A decision [] [] meant = refl
mono_cells-meant K n A decision [] (place ∷ places) meant = absurd meant
mono_cells-meant K n A decision (entry ∷ entries) [] meant = absurd meant
mono_cells-meant K n A decision (Mono cell ∷ entries) (At own ∷ places) meant =
    let rest = mono_cells-meant K n A decision entries places meant.1 in
    let same = meant.0.0 in
    λ i. same i ∷ rest i
mono_cells-meant K n A decision (Mono cell ∷ entries) (Bound bound ∷ places) meant = absurd meant.0
mono_cells-meant K n A decision (Mono cell ∷ entries) (Looped bound ∷ places) meant = absurd meant.0
mono_cells-meant K n A decision (Poly scheme originals ∷ entries) (At own ∷ places) meant = absurd meant.0
mono_cells-meant K n A decision (Poly scheme originals ∷ entries) (Bound bound ∷ places) meant = mono_cells-meant K n A decision entries places meant.1
mono_cells-meant K n A decision (Poly scheme originals ∷ entries) (Looped bound ∷ places) meant = mono_cells-meant K n A decision entries places meant.1

pub mono_cells-held : {N : ℕ} (store : Cells) (entries : List (Entry N)) → IsHeld store entries → All (λ cell. cell < cell_count store) (mono_cells entries)
mono_cells-held store [] held = All-nil (λ cell. cell < cell_count store)
mono_cells-held store (Mono cell ∷ entries) held = All-cons (λ own. own < cell_count store) cell (mono_cells entries) held.0 (mono_cells-held store entries held.1)
mono_cells-held store (Poly scheme originals ∷ entries) held = mono_cells-held store entries held.1

-- the types of cells in a solution are well formed
pub formed_at : (store : Cells) (decision : List Side) → AreFormed (cell_count store) (solutions_at store decision)
formed_at store decision s solves cell inside = solves.well_formed cell inside

-- what was dead is dead later
pub alive_before : (before after : Fate) → ((before ≡ Alive → ⊥) → after ≡ before) → after ≡ Alive → before ≡ Alive
alive_before Alive after stays alive = refl
alive_before (Dead node) after stays alive =
    let still = stays (λ same. cc) in
    sym still ∙ alive

-- one entry of what an environment keeps
pub held-at : {N : ℕ} (store : Cells) (entries : List (Entry N)) (distance : ℕ) (entry : Entry N) → slice_get entries distance ≡ Some entry → IsHeld store entries → IsHeldEntry store entry
held-at store [] distance entry found held = cc
held-at store (own ∷ entries) zero entry found held = subst (IsHeldEntry store) (same_Some own entry found) held.0
held-at store (own ∷ entries) (suc distance) entry found held = held-at store entries distance entry found held.1
