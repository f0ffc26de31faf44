use Rattle.std.proofs.Common.{◌≡◌, ℕ, ◌≤◌, true, false, List, ◌∷◌, length, refl, sym, subst, ◌∙◌, arith}
use Rattle.vt_dec.specs.declared.side.Side.{Side}
use Rattle.vt_dec.specs.declared.fate.Fate.TheVariants.{Alive}
use Rattle.vt_dec.specs.Decisions.{Region}
use Rattle.vt_syntax.specs.declared.core_program.CoreDef.{CoreDef}
use Rattle.vt_type.specs.Plain.{IsWellFormed}
use Rattle.vt_type.specs.Constants.{Constant}
use Rattle.vt_store.specs.Patterns.{fate_at}
use Rattle.vt_store.specs.Stores.{Cells, cell_count}
use Rattle.vt_store.specs.Writes.{IsOf}
use Rattle.vt_infer.specs.declared.environment.Entry.TheVariants.{Mono}
use Rattle.vt_infer.specs.declared.work.Work.{Work}
use Rattle.vt_infer.specs.Definitions.{DefinitionSteps}
use Rattle.vt_infer.specs.Inferring.{IsReady, IsExpressed, IsNew, IsEquated, solutions_at}
use Rattle.vt_infer.specs.Parts.{IsBodyScoped, IsDefinable, IsDefined, def_at}
use Rattle.vt_infer.specs.Places.{At}
use Rattle.vt_infer.specs.Steps.{AreFormed}
use Rattle.vt_infer.proofs.DefinitionForms.{plain_definition, recursive_definition}
use Rattle.vt_infer.proofs.GoingOn.{of_same, held-later, formed_at}
use Rattle.vt_infer.proofs.KnownLemmas.{are_meant}

-- A definition, from its expression.

module _ (N : ℕ) (K : List Constant) (region : Region) (def : CoreDef) (old : Work N) (h : IsDefinable N K region def old) where
  pub plain_defined : def.recursive ≡ false → (result : ℕ) (new : Work N) → IsExpressed N K region def.body result old new → IsDefined N K region def result old new
  plain_defined is result new e = record {
    space = e.goes_on.space;
    pattern_space = e.goes_on.pattern_space;
    grows = e.goes_on.grows;
    environment = e.environment;
    is_cell = e.is_cell;
    dead = e.goes_on.dead;
    here = λ decision of admits alive places first known cells before body.
        plain_definition K h.table places (def_at decision def) first before body is (cell_count old.store) (cell_count new.store) (solutions_at old.store decision) (solutions_at new.store decision) result
        cells (formed_at old.store decision) (formed_at new.store decision) (fate_at new.pattern decision)
        (e.here decision of admits alive places first def.node (are_meant K (cell_count old.store) (solutions_at old.store decision) decision old.environment places known) before body);
  }

  -- a recursive one
  module _ (is : def.recursive ≡ true) (parameter : ℕ) (opened : Cells) (new : IsNew N (λ decision s type. IsWellFormed type) parameter old.store opened) (later : cell_count old.store ≤ parameter) where
    pub looped_ready : IsReady N K region def.body.form (record { store = opened; pattern = old.pattern; environment = Mono parameter ∷ old.environment })
    looped_ready = record {
      table = h.table;
      space = h.space ∙ sym new.space;
      pattern_space = h.pattern_space ∙ sym new.space;
      held = (new.is_cell, held-later old.store opened old.environment new.space new.grows h.held);
      scoped = subst (IsBodyScoped (length old.environment) def) is h.scoped;
      constants = h.constants;
      dims = h.dims;
    }

    pub looped_defined : (own : ℕ) (expressed last : Work N)
        → IsExpressed N K region def.body own (record { store = opened; pattern = old.pattern; environment = Mono parameter ∷ old.environment }) expressed
        → IsEquated N region own parameter def.node expressed.store last.store expressed.pattern last.pattern → last.environment ≡ old.environment
        → IsDefined N K region def parameter old last
    looped_defined own expressed last e equated environment = record {
      space = equated.goes_on.space ∙ e.goes_on.space ∙ new.space;
      pattern_space = equated.goes_on.pattern_space ∙ e.goes_on.pattern_space;
      grows = let one = new.grows in let two = e.goes_on.grows in let three = equated.goes_on.grows in omega arith;
      environment = environment;
      is_cell = let one = new.is_cell in let two = e.goes_on.grows in let three = equated.goes_on.grows in omega arith;
      dead = λ decision of dead. same_fate decision of dead (e.goes_on.dead decision (of_opened decision of) dead);
      here = λ decision of admits alive places first known cells before body.
          subst (λ m. DefinitionSteps K (cell_count old.store) m (solutions_at old.store decision) (solutions_at last.store decision) parameter places (def_at decision def) first (fate_at last.pattern decision)) (sym equated.cells)
          (recursive_definition K h.table places (def_at decision def) first before body is (cell_count old.store) (cell_count opened) (cell_count expressed.store)
          (solutions_at old.store decision) (solutions_at opened decision) (solutions_at expressed.store decision) (solutions_at last.store decision) parameter own
          cells (formed_at old.store decision) (formed_at opened decision) (formed_at expressed.store decision) (formed_last decision) (equated.some decision (of_expressed decision of)) (new.adds decision of) later
          (fate_at expressed.pattern decision) (fate_at last.pattern decision)
          (e.here decision (of_opened decision of) admits alive (At parameter ∷ places) first def.node
          ((refl, new.is_cell), are_meant K (cell_count opened) (solutions_at opened decision) decision old.environment places known) before body)
          (λ living. equated.here decision (of_expressed decision of) admits living)
          (λ dead. equated.goes_on.dead decision (of_expressed decision of) dead));
    }
      where
        of_opened : (decision : List Side) → IsOf N old.store.space decision → IsOf N opened.space decision
        of_opened decision of = of_same N region old.store opened decision new.space of

        of_expressed : (decision : List Side) → IsOf N old.store.space decision → IsOf N expressed.store.space decision
        of_expressed decision of = of_same N region opened expressed.store decision e.goes_on.space (of_opened decision of)

        formed_last : (decision : List Side) → AreFormed (cell_count expressed.store) (solutions_at last.store decision)
        formed_last decision = subst (λ n. AreFormed n (solutions_at last.store decision)) equated.cells (formed_at last.store decision)

        same_fate : (decision : List Side) → IsOf N old.store.space decision → (fate_at old.pattern decision ≡ Alive → ⊥) → fate_at expressed.pattern decision ≡ fate_at old.pattern decision
            → fate_at last.pattern decision ≡ fate_at old.pattern decision
        same_fate decision of dead same = equated.goes_on.dead decision (of_expressed decision of) (λ alive. dead (sym same ∙ alive)) ∙ same
