use Rattle.std.proofs.Common.{◌≡◌, ℕ, ◌*◌, List, ◌∷◌, length, refl, ap, sym, subst, ◌∙◌}
use Rattle.vt_dec.specs.Decisions.{Region}
use Rattle.vt_syntax.specs.declared.core_expr.Core.{Core}
use Rattle.vt_syntax.specs.declared.core_expr.Form.{Form}
use Rattle.vt_syntax.specs.Scoping.{IsScoped, HasConstants, HasDims}
use Rattle.vt_type.specs.Plain.{IsWellFormed}
use Rattle.vt_type.specs.Constants.{Constant}
use Rattle.vt_infer.specs.Environments.{IsHeld, mono_cells}
use Rattle.vt_infer.specs.Inferring.{GoesOn, IsReady, IsNew, IsEquated, IsGeneralised, IsExpressed}
use Rattle.vt_infer.specs.declared.environment.Entry.{Entry}
use Rattle.vt_infer.specs.declared.environment.Entry.TheVariants.{Mono, Poly}
use Rattle.vt_infer.specs.declared.work.Work.{Work}
use Rattle.vt_infer.proofs.GoingOn.{goes_on-then, held-later, mono_cells-held}
use Rattle.vt_infer.proofs.PartsExpressed.{opened}

-- What the parts of a form need is there.

module _ (N : ℕ) (K : List Constant) (region : Region) where
  -- another form, a later state, and a context of the same space
  moved : (part : Region) (entire form : Form) (old new : Work N) → IsReady N K region entire old → part.space ≡ region.space
      → new.store.space ≡ old.store.space → new.pattern.space ≡ old.pattern.space → IsHeld new.store new.environment
      → IsScoped (length new.environment) form → HasConstants (length K) form → HasDims (64 * N) form → IsReady N K part form new
  moved part entire form old new ready same space pattern held scoped constants dims = record {
    table = ready.table;
    space = same ∙ ready.space ∙ sym space;
    pattern_space = pattern ∙ ready.pattern_space ∙ sym space;
    held = held;
    scoped = scoped;
    constants = constants;
    dims = dims;
  }

  held_after : (part : Region) (old new : Work N) → IsHeld old.store old.environment → GoesOn N part old.store new.store old.pattern new.pattern → new.environment ≡ old.environment → IsHeld new.store new.environment
  held_after part old new held goes_on environment = subst (IsHeld new.store) (sym environment) (held-later old.store new.store old.environment goes_on.space goes_on.grows held)

  -- the first part of a form, in the same state
  pub ready-first : (part : Region) (entire form : Form) (work : Work N) → IsReady N K region entire work → part.space ≡ region.space
      → IsScoped (length work.environment) form → HasConstants (length K) form → HasDims (64 * N) form → IsReady N K part form work
  ready-first part entire form work ready same scoped constants dims = moved part entire form work work ready same refl refl ready.held scoped constants dims

  -- a part after another one
  pub ready-next : (done part : Region) (e : Core) (result : ℕ) (entire form : Form) (old new : Work N) → IsReady N K region entire old → part.space ≡ region.space → IsExpressed N K done e result old new
      → IsScoped (length old.environment) form → HasConstants (length K) form → HasDims (64 * N) form → IsReady N K part form new
  ready-next done part e result entire form old new ready same expressed scoped constants dims =
      moved part entire form old new ready same expressed.goes_on.space expressed.goes_on.pattern_space (held_after done old new ready.held expressed.goes_on expressed.environment)
      (subst (λ entries. IsScoped (length entries) form) (sym expressed.environment) scoped) constants dims

  -- a later state with the same environment
  pub ready-after : (part : Region) (entire form : Form) (old new : Work N) → IsReady N K region entire old → part.space ≡ region.space
      → GoesOn N region old.store new.store old.pattern new.pattern → new.environment ≡ old.environment
      → IsScoped (length old.environment) form → HasConstants (length K) form → HasDims (64 * N) form → IsReady N K part form new
  ready-after part entire form old new ready same goes_on environment scoped constants dims =
      moved part entire form old new ready same goes_on.space goes_on.pattern_space (held_after region old new ready.held goes_on environment)
      (subst (λ entries. IsScoped (length entries) form) (sym environment) scoped) constants dims

  -- a part in which one more name has a new cell
  pub ready-mono : (entire form : Form) (parameter : ℕ) (old new : Work N) → IsReady N K region entire old
      → IsNew N (λ decision s type. IsWellFormed type) parameter old.store new.store → new.pattern ≡ old.pattern → new.environment ≡ Mono parameter ∷ old.environment
      → IsScoped (length (Mono parameter ∷ old.environment)) form → HasConstants (length K) form → HasDims (64 * N) form → IsReady N K region form new
  ready-mono entire form parameter old new ready is_new pattern environment scoped constants dims =
      moved region entire form old new ready refl is_new.space (ap (λ fates. fates.space) pattern)
      (subst (IsHeld new.store) (sym environment) (is_new.is_cell, held-later old.store new.store old.environment is_new.space is_new.grows ready.held))
      (subst (λ entries. IsScoped (length entries) form) (sym environment) scoped) constants dims

  -- a part in which one more name has a scheme; `middle` is the state from which that was taken
  pub ready-poly : (entire form : Form) (root : ℕ) (old middle new : Work N) → IsReady N K region entire old
      → GoesOn N region old.store middle.store old.pattern middle.pattern → middle.environment ≡ old.environment
      → new.store ≡ middle.store → new.pattern ≡ middle.pattern → IsGeneralised N middle.store root middle.environment new.environment
      → ((entry : Entry N) → IsScoped (length (entry ∷ old.environment)) form) → HasConstants (length K) form → HasDims (64 * N) form → IsReady N K region form new
  ready-poly entire form root old middle new ready goes_on environment store pattern general scoped constants dims =
      let held = held_after region old middle ready.held goes_on environment in
      moved region entire form old new ready refl (ap (λ own. own.space) store ∙ goes_on.space) (ap (λ fates. fates.space) pattern ∙ goes_on.pattern_space)
      (subst (λ own. IsHeld own new.environment) (sym store) (subst (IsHeld middle.store) (sym general.pushed)
      ((general.frozen.space, general.frozen.cells, sym general.frozen.count, mono_cells-held middle.store middle.environment held), held)))
      (subst (λ entries. IsScoped (length entries) form) (sym (general.pushed ∙ ap (λ rest. Poly general.scheme (mono_cells middle.environment) ∷ rest) environment)) (scoped (Poly general.scheme (mono_cells middle.environment))))
      constants dims

-- the state of a `let rec` once its cell is equal to the bound expression's
pub equal_goes_on : (N : ℕ) (K : List Constant) (region : Region) (bound : Core) (parameter own node : ℕ) (old opened_work inner equal_work : Work N)
    → IsNew N (λ decision s type. IsWellFormed type) parameter old.store opened_work.store → opened_work.pattern ≡ old.pattern
    → IsExpressed N K region bound own opened_work inner
    → IsEquated N region own parameter node inner.store equal_work.store inner.pattern equal_work.pattern
    → GoesOn N region old.store equal_work.store old.pattern equal_work.pattern
equal_goes_on N K region bound parameter own node old opened_work inner equal_work is_new pattern left equal =
    goes_on-then N region old.store inner.store equal_work.store old.pattern inner.pattern equal_work.pattern
    (goes_on-then N region old.store opened_work.store inner.store old.pattern opened_work.pattern inner.pattern (opened N region old opened_work parameter is_new pattern) left.goes_on)
    equal.goes_on
