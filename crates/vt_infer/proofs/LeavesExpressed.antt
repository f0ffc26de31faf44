use Rattle.std.proofs.Common.{◌≡◌, ◌⊎◌, inl, inr, ℕ, ◌<◌, ◌≤◌, List, [], ◌∷◌, ◌++◌, Some, map, drop, slice_get, refl, ap, sym, subst, ◌∙◌, arith}
use Rattle.std.specs.List.{Contains}
use Rattle.std.proofs.lemmas.List.{append-nil}
use Rattle.std.proofs.lemmas.List.Elements.{Contains-push, Contains-push_cases}
use Rattle.vt_dec.specs.declared.side.Side.{Side}
use Rattle.vt_dec.specs.declared.fate.Fate.TheVariants.{Alive}
use Rattle.vt_dec.specs.Decisions.{Region, Admits}
use Rattle.vt_lex.specs.declared.span.Span.{Span}
use Rattle.vt_syntax.specs.declared.core_expr.Core.{Core}
use Rattle.vt_syntax.specs.declared.core_expr.Form.{Form, Literal, Name, Const, Hole}
use Rattle.vt_syntax.specs.declared.core_expr.Lit.{Lit}
use Rattle.vt_syntax.specs.CoreTrees.{core}
use Rattle.vt_syntax.specs.Selection.{core_at}
use Rattle.vt_type.specs.declared.plain.Plain.{Plain, Var}
use Rattle.vt_type.specs.Plain.{IsWellFormed, IsInstance, substituted}
use Rattle.vt_type.specs.Constants.{Constant, IsTable}
use Rattle.vt_rules.specs.Typing.{literal_type}
use Rattle.vt_rules.specs.TypingAt.{HoldsHole}
use Rattle.vt_scheme.specs.Schemes.{Allows}
use Rattle.vt_scheme.specs.declared.scheme.Scheme.{Scheme}
use Rattle.vt_store.specs.Patterns.{fate_at}
use Rattle.vt_store.specs.Stores.{cell_count}
use Rattle.vt_store.specs.Writes.{IsOf}
use Rattle.vt_infer.specs.Places.{Place, At, Bound, Looped, HaveCells}
use Rattle.vt_infer.specs.Numbered.{AreBefore}
use Rattle.vt_infer.specs.Steps.{Adds, Joins, Steps}
use Rattle.vt_infer.specs.Environments.{IsHeld, IsMeant}
use Rattle.vt_infer.specs.Inferring.{solutions_at, GoesOn, NewTypes, IsNew, IsUse, IsUsed, IsNamed, IsExpressed}
use Rattle.vt_infer.specs.declared.environment.Entry.{Entry}
use Rattle.vt_infer.specs.declared.environment.Entry.TheVariants.{Mono, Poly}
use Rattle.vt_infer.specs.declared.work.Work.{Work}
use Rattle.vt_infer.specs.Meetings.{HoleLog, IsNoted, IsMarked}
use Rattle.vt_infer.specs.Wanted.{AddsAt, TypesAtOf}
use Rattle.vt_infer.proofs.FormSteps.{literal_step, constant_step, hole_step, mono_step, poly_step}
use Rattle.vt_infer.proofs.MarkedSteps.{hole_at}
use Rattle.vt_infer.proofs.GoingOn.{goes_on-itself, goes_on-new, meant-cells, meant-at, held-at}

-- The forms that have no parts.

-- an expression by its form
pub expressed-as : (N : ℕ) (K : List Constant) (region : Region) (e : Core) (form : Form) (result : ℕ) (old new : Work N)
    → e.form ≡ form → IsExpressed N K region (core e.node e.span form) result old new → IsExpressed N K region e result old new
expressed-as N K region e form result old new is expressed = subst (λ own. IsExpressed N K region (core e.node e.span own) result old new) (sym is) expressed

module _ (N : ℕ) (K : List Constant) (table : IsTable K) (region : Region) (node : ℕ) (at : Span) (result : ℕ) (old new : Work N) where
  -- a new cell for the form
  leaf : (types : NewTypes) (form : Form)
      → ((decision : List Side) → core_at decision (core node at form) ≡ core node at form)
      → ((decision : List Side) (s : ℕ → Plain) → IsOf N old.store.space decision → solutions_at old.store decision s → (type : Plain) × types decision s type)
      → ((decision : List Side) (places : List Place) (first last : ℕ) → AreBefore first places
      → Adds (cell_count old.store) (cell_count new.store) (solutions_at old.store decision) (solutions_at new.store decision) result (types decision)
      → Steps K (cell_count old.store) (cell_count new.store) (solutions_at old.store decision) (solutions_at new.store decision) result places (core node at form) first last Alive)
      → IsNew N types result old.store new.store → new.pattern ≡ old.pattern → new.environment ≡ old.environment
      → IsExpressed N K region (core node at form) result old new
  leaf types form plain some step is_new pattern environment = record {
    goes_on = subst (λ fates. GoesOn N region old.store new.store old.pattern fates) (sym pattern) (goes_on-new N region types result old.store new.store old.pattern some is_new);
    environment = environment;
    is_cell = is_new.is_cell;
    here = λ decision of admits alive places first last meant before numbered.
        let alive_new : fate_at new.pattern decision ≡ Alive = ap (λ fates. fate_at fates decision) pattern ∙ alive in
        subst (λ e. Steps K (cell_count old.store) (cell_count new.store) (solutions_at old.store decision) (solutions_at new.store decision) result places e first last (fate_at new.pattern decision)) (sym (plain decision))
        (subst (Steps K (cell_count old.store) (cell_count new.store) (solutions_at old.store decision) (solutions_at new.store decision) result places (core node at form) first last) (sym alive_new)
        (step decision places first last before (is_new.adds decision of)));
  }

  pub expressed-literal : (literal : Lit)
      → IsNew N (λ decision s type. type ≡ literal_type literal) result old.store new.store → new.pattern ≡ old.pattern → new.environment ≡ old.environment
      → IsExpressed N K region (core node at (Literal literal)) result old new
  expressed-literal literal =
      leaf (λ decision s type. type ≡ literal_type literal) (Literal literal) (λ decision. refl) (λ decision s of solves. (literal_type literal, refl))
      (λ decision places first last before. literal_step K table places node at first last before literal (cell_count old.store) (cell_count new.store) (solutions_at old.store decision) (solutions_at new.store decision) result)

  pub expressed-hole :
      IsNew N (λ decision s type. IsWellFormed type) result old.store new.store → new.pattern ≡ old.pattern → new.environment ≡ old.environment
      → IsExpressed N K region (core node at Hole) result old new
  expressed-hole =
      leaf (λ decision s type. IsWellFormed type) Hole (λ decision. refl) (λ decision s of solves. (Var [], tt))
      (λ decision places first last before. hole_step K table places node at first last before (cell_count old.store) (cell_count new.store) (solutions_at old.store decision) (solutions_at new.store decision) result)

  pub expressed-constant : (id : ℕ)
      → IsUse N K id result old.store new.store → new.pattern ≡ old.pattern → new.environment ≡ old.environment
      → IsExpressed N K region (core node at (Const id)) result old new
  expressed-constant id is_use =
      leaf (λ decision s type. IsInstance type is_use.closed) (Const id) (λ decision. refl)
      (λ decision s of solves. (substituted (λ name. Var name) is_use.closed, record { images = λ name. Var name; well_formed = λ name. tt; same = refl }))
      (λ decision places first last before. constant_step K table places node at first last before id is_use.closed (cell_count old.store) (cell_count new.store) (solutions_at old.store decision) (solutions_at new.store decision) result is_use.has_closed)
      is_use.is_new

  -- the cell of a parameter
  named_mono : (distance cell : ℕ) → slice_get old.environment distance ≡ Some (Mono cell)
      → result ≡ cell → new.store ≡ old.store → new.pattern ≡ old.pattern → new.environment ≡ old.environment → cell < cell_count old.store
      → IsExpressed N K region (core node at (Name distance)) result old new
  named_mono distance cell found is store pattern environment inside = record {
    goes_on = subst (λ own. GoesOn N region old.store own old.pattern new.pattern) (sym store)
        (subst (λ fates. GoesOn N region old.store old.store old.pattern fates) (sym pattern) (goes_on-itself N region old.store old.pattern));
    environment = environment;
    is_cell = subst (λ own. result < cell_count own) (sym store) (subst (λ own. own < cell_count old.store) (sym is) inside);
    here = λ decision of admits alive places first last meant before numbered.
        let alive_new : fate_at new.pattern decision ≡ Alive = ap (λ fates. fate_at fates decision) pattern ∙ alive in
        let there = meant-at K (cell_count old.store) (solutions_at old.store decision) decision old.environment places distance (Mono cell) found meant in
        subst (λ own. Steps K (cell_count old.store) (cell_count own) (solutions_at old.store decision) (solutions_at own decision) result places (core node at (Name distance)) first last (fate_at new.pattern decision)) (sym store)
        (subst (Steps K (cell_count old.store) (cell_count old.store) (solutions_at old.store decision) (solutions_at old.store decision) result places (core node at (Name distance)) first last) (sym alive_new)
        (at_place decision places first last before (meant-cells K (cell_count old.store) (solutions_at old.store decision) decision old.environment places meant) there.0 there.1 there.2 there.3));
  }
    where
      at_place : (decision : List Side) (places : List Place) (first last : ℕ) → AreBefore first places → HaveCells (cell_count old.store) places
          → (place : Place) (rest : List Place) → drop distance places ≡ place ∷ rest
          → IsMeant {N = N} K (cell_count old.store) (solutions_at old.store decision) decision (Mono cell) place rest
          → Steps K (cell_count old.store) (cell_count old.store) (solutions_at old.store decision) (solutions_at old.store decision) result places (core node at (Name distance)) first last Alive
      at_place decision places first last before cells (At own) rest is_there meant =
          subst (λ r. Steps K (cell_count old.store) (cell_count old.store) (solutions_at old.store decision) (solutions_at old.store decision) r places (core node at (Name distance)) first last Alive) (sym (is ∙ meant.0))
          (mono_step K table places node at first last before distance (cell_count old.store) (solutions_at old.store decision) own rest is_there cells)
      at_place decision places first last before cells (Bound bound) rest is_there meant = absurd meant
      at_place decision places first last before cells (Looped bound) rest is_there meant = absurd meant

  -- a use of what `let` or `let rec` binds
  named_poly : (distance : ℕ) (scheme : Scheme N) (originals : List ℕ) → slice_get old.environment distance ≡ Some (Poly scheme originals)
      → IsUsed N region (Poly scheme originals) node result old.store new.store old.pattern new.pattern → new.environment ≡ old.environment
      → IsExpressed N K region (core node at (Name distance)) result old new
  named_poly distance scheme originals found joint environment = record {
    goes_on = joint.goes_on;
    environment = environment;
    is_cell = joint.is_cell;
    here = λ decision of admits alive places first last meant before numbered.
        let there = meant-at K (cell_count old.store) (solutions_at old.store decision) decision old.environment places distance (Poly scheme originals) found meant in
        at_place decision of places first last before numbered.0 numbered.1 (joint.here decision of admits alive) there.0 there.1 there.2 there.3;
  }
    where
      at_place : (decision : List Side) → IsOf N old.store.space decision → (places : List Place) (first last : ℕ) → AreBefore first places → first ≤ node → node < last
          → Joins (cell_count old.store) (cell_count new.store) (solutions_at old.store decision) (solutions_at new.store decision) result (λ s type. Allows scheme decision (map s originals) type) node (fate_at new.pattern decision)
          → (place : Place) (rest : List Place) → drop distance places ≡ place ∷ rest
          → IsMeant K (cell_count old.store) (solutions_at old.store decision) decision (Poly scheme originals) place rest
          → Steps K (cell_count old.store) (cell_count new.store) (solutions_at old.store decision) (solutions_at new.store decision) result places (core node at (Name distance)) first last (fate_at new.pattern decision)
      at_place decision of places first last before from below joins (At own) rest is_there meant = absurd meant
      at_place decision of places first last before from below joins (Bound bound) rest is_there meant =
          poly_step K table places node at first last before distance (cell_count old.store) (cell_count new.store) (solutions_at old.store decision) (solutions_at new.store decision) result (Allows scheme decision) originals (Bound bound) rest (fate_at new.pattern decision)
          (joint.some decision of) is_there meant (λ cell e. cc) from below joins
      at_place decision of places first last before from below joins (Looped bound) rest is_there meant =
          poly_step K table places node at first last before distance (cell_count old.store) (cell_count new.store) (solutions_at old.store decision) (solutions_at new.store decision) result (Allows scheme decision) originals (Looped bound) rest (fate_at new.pattern decision)
          (joint.some decision of) is_there meant (λ cell e. cc) from below joins

  -- a use of a name
  pub expressed-name : (distance : ℕ) → IsHeld old.store old.environment
      → IsNamed N region old.environment distance node result old.store new.store old.pattern new.pattern → new.environment ≡ old.environment
      → IsExpressed N K region (core node at (Name distance)) result old new
  expressed-name distance held is_named environment = by is_named.entry is_named.found is_named.used
    where
      by : (entry : Entry N) → slice_get old.environment distance ≡ Some entry → IsUsed N region entry node result old.store new.store old.pattern new.pattern → IsExpressed N K region (core node at (Name distance)) result old new
      by (Mono cell) found used = named_mono distance cell found used.0 used.1 used.2 environment (held-at old.store old.environment distance (Mono cell) found held)
      by (Poly scheme originals) found used = named_poly distance scheme originals found used environment

-- The holes of such forms.

nothing : {X : Type 0} (x : X) → Contains [] x → ⊥
nothing x is = omega (arith, is.1)

alone : {X : Type 0} (y x : X) → Contains (y ∷ []) x → y ≡ x
alone y x is = by (Contains-push_cases [] y x is)
  where
    by : Contains [] x ⊎ (y ≡ x) → y ≡ x
    by (inl own) = absurd (nothing x own)
    by (inr same) = same

-- what is marked is so by the form
pub marked-as : (N : ℕ) (K : List Constant) (region : Region) (e : Core) (form : Form) (result : ℕ) (old new : Work N) (before after : HoleLog N)
    → e.form ≡ form → IsMarked N K region (core e.node e.span form) result old new before after → IsMarked N K region e result old new before after
marked-as N K region e form result old new before after is marked = subst (λ own. IsMarked N K region (core e.node e.span own) result old new before after) (sym is) marked

-- a form in which no hole is written
pub marked-none : (N : ℕ) (K : List Constant) (region : Region) (e : Core) (result : ℕ) (old new : Work N) (before : HoleLog N)
    → ((decision : List Side) (mark : ℕ) → HoldsHole mark (core_at decision e).node (core_at decision e).form → ⊥)
    → IsMarked N K region e result old new before before
marked-none N K region e result old new before none = record {
  asked = refl;
  added = [];
  met = sym (append-nil before.met);
  cells = λ hole is. absurd (nothing hole is);
  spaces = λ hole is. absurd (nothing hole is);
  inside = λ hole decision is admits. absurd (nothing hole is);
  here = λ decision of admits alive still places first last meant numbers_before numbered. record {
    wanted = λ hole is within. absurd (nothing hole is);
    reached = λ mark asked holds. absurd (none decision mark holds);
  };
}

-- a hole
pub marked-hole : (N : ℕ) (K : List Constant) (region : Region) (node : ℕ) (at : Span) (result : ℕ) (old new : Work N) (before after : HoleLog N)
    → IsNew N (λ decision s type. IsWellFormed type) result old.store new.store → IsNoted node region result before after
    → IsMarked N K region (core node at Hole) result old new before after
marked-hole N K region node at result old new before after is_new is_noted = by is_noted.noted
  where
    by : (Contains before.asked node × (after.met ≡ before.met ++ record { node = node; within = region; cell = result } ∷ []))
        ⊎ ((Contains before.asked node → ⊥) × (after.met ≡ before.met)) → IsMarked N K region (core node at Hole) result old new before after
    by (inl (asked, is)) = record {
      asked = is_noted.asked;
      added = record { node = node; within = region; cell = result } ∷ [];
      met = is;
      spaces = λ hole own. subst (λ h. h.within.space ≡ region.space) (alone _ hole own) refl;
      cells = λ hole own. subst (λ h. h.cell < cell_count new.store) (alone _ hole own) is_new.is_cell;
      inside = λ hole decision own. subst (λ h. Admits h.within decision → Admits region decision) (alone _ hole own) (λ admits. admits);
      here = λ decision of admits alive still places first last meant numbers_before numbered. record {
        wanted = λ hole own. subst (λ h. Admits h.within decision → HoldsHole h.node node Hole × AddsAt (cell_count old.store) (cell_count new.store) (solutions_at old.store decision) (solutions_at new.store decision) result h.cell (TypesAtOf K h.node places (core node at Hole))) (alone _ hole own)
            (λ within. (refl, hole_at K node places (cell_count old.store) (cell_count new.store) (solutions_at old.store decision) (solutions_at new.store decision) at result (is_new.adds decision of)));
        reached = λ mark in_asked holds. (record { node = node; within = region; cell = result }, Contains-push [] _, admits, holds);
      };
    }
    by (inr (none, is)) = record {
      asked = is_noted.asked;
      added = [];
      met = is ∙ sym (append-nil before.met);
      cells = λ hole own. absurd (nothing hole own);
      spaces = λ hole own. absurd (nothing hole own);
      inside = λ hole decision own admits. absurd (nothing hole own);
      here = λ decision of admits alive still places first last meant numbers_before numbered. record {
        wanted = λ hole own within. absurd (nothing hole own);
        reached = λ mark in_asked holds. absurd (none (subst (Contains before.asked) (sym holds) in_asked));
      };
    }
