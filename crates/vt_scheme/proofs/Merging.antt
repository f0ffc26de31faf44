use Rattle.std.proofs.Common.{◌≡◌, ◌↔◌, ℕ, Result, Ok, Err, IfOk, ◌<◌, List, length, map, get_or, ap, sym, subst, ◌∙◌, arith}
use Rattle.std.specs.List.{All}
use Rattle.std.proofs.lemmas.List.{length-map}
use Rattle.std.proofs.lemmas.List.Elements.{All-map, All-weaker}
use Rattle.vt_dec.specs.declared.side.Side.{Side}
use Rattle.vt_type.specs.declared.plain.Plain.{Plain}
use Rattle.vt_store.specs.declared.store.Part.{Part}
use Rattle.vt_store.specs.declared.store.Shared.{Shared}
use Rattle.vt_store.specs.Narrowing.{IsNarrowed}
use Rattle.vt_store.specs.Sharing.{IsShared}
use Rattle.vt_store.specs.Solutions.{Solves}
use Rattle.vt_store.specs.Stores.{Cells, cell_count, ends_at}
use Rattle.vt_store.specs.Writes.{IsOf}
use Rattle.vt_scheme.specs.declared.scheme.Scheme.{Scheme}
use Rattle.vt_scheme.specs.Schemes.{HasTypes, IsFrozen}
use Rattle.vt_scheme.proofs.Freezing.{map_moved}

-- A scheme that was taken out of one in which equal cells were made one.

-- what is frozen from a scheme is frozen from where that one came
pub IsFrozen-both : (N : ℕ) (store : Cells) (monos : List ℕ) (root : ℕ) (scheme last : Scheme N) → IsFrozen N store monos root scheme → IsFrozen N scheme.cells scheme.monos scheme.root last → IsFrozen N store monos root last
IsFrozen-both N store monos root scheme last first second = record {
  space = second.space ∙ first.space;
  cells = second.cells;
  count = second.count ∙ first.count;
  allows = λ decision of types type.
      (let inner = second.allows decision (subst (λ space. IsOf N space decision) (sym first.space) of) types type in
      let outer = first.allows decision of types type in
      (λ has. outer.0 (inner.0 has), λ has. inner.1 (outer.1 has)));
}

-- likewise of what may not have been given
pub if_frozen : {E : Type 0} (N : ℕ) (store : Cells) (monos : List ℕ) (root : ℕ) (scheme : Scheme N) (list : List ℕ) → IsFrozen N store monos root scheme → list ≡ scheme.monos
    → (result : Result (Scheme N) E) → IfOk result (IsFrozen N scheme.cells list scheme.root) → IfOk result (IsFrozen N store monos root)
if_frozen N store monos root scheme list first same (Ok last) h = IsFrozen-both N store monos root scheme last first (subst (λ own. IsFrozen N scheme.cells own scheme.root last) same h)
if_frozen N store monos root scheme list first same (Err error) h = tt

module _ (N : ℕ) (store : Cells) (shared : Shared N) (is : IsShared N store shared) (monos : List ℕ) (root : ℕ)
    (monos_within : All (λ cell. cell < cell_count store) monos) (root_within : root < cell_count store) where
  abbrev name : ℕ → ℕ
  name cell = get_or shared.representatives cell 0

  name_within : (cell : ℕ) → cell < cell_count store → name cell < cell_count shared.store
  name_within cell within = let inside = is.cells cell 0 (omega (arith, is.sized)) in omega (arith, is.count)

  pub names_within : All (λ cell. cell < cell_count shared.store) (map name monos)
  names_within = All-map (λ cell. cell < cell_count shared.store) name monos (All-weaker (λ cell. cell < cell_count store) (λ cell. name cell < cell_count shared.store) name_within monos monos_within)

  pub root_name_within : name root < cell_count shared.store
  root_name_within = name_within root root_within

  module _ (decision : List Side) (of : IsOf N store.space decision) (types : List Plain) (type : Plain) where
    as_shared : (s : ℕ → Plain) → Solves (cell_count store) (ends_at shared.store decision) s → Solves (cell_count shared.store) (ends_at shared.store decision) s
    as_shared s solves = subst (λ count. Solves count (ends_at shared.store decision) s) (sym is.count) solves

    of_store : (s : ℕ → Plain) → Solves (cell_count shared.store) (ends_at shared.store decision) s → Solves (cell_count store) (ends_at store decision) s
    of_store s solves = (is.solutions decision of s).1 (subst (λ count. Solves count (ends_at shared.store decision) s) is.count solves)

    same_monos : (s : ℕ → Plain) → Solves (cell_count store) (ends_at store decision) s → map s (map name monos) ≡ map s monos
    same_monos s solves = map_moved s s name (cell_count store) monos (is.same decision of s solves) monos_within

    unnamed : HasTypes shared.store (map name monos) (name root) decision types type → HasTypes store monos root decision types type
    unnamed has =
        let solves = of_store has.s has.solves in
        record { s = has.s; solves = solves; cells_are = sym (same_monos has.s solves) ∙ has.cells_are; root_is = sym (is.same decision of has.s solves root root_within) ∙ has.root_is }

    named : HasTypes store monos root decision types type → HasTypes shared.store (map name monos) (name root) decision types type
    named has = record {
      s = has.s;
      solves = as_shared has.s ((is.solutions decision of has.s).0 has.solves);
      cells_are = same_monos has.s has.solves ∙ has.cells_are;
      root_is = is.same decision of has.s has.solves root root_within ∙ has.root_is;
    }

  pub IsFrozen-shared : (last : Scheme N) → last.cells ≡ shared.store → last.monos ≡ map name monos → last.root ≡ name root → IsFrozen N store monos root last
  IsFrozen-shared last cells list one = record {
    space = ap (λ (own : Cells). own.space) cells ∙ is.space;
    cells = record {
      monos = subst (λ (own : Cells). All (λ cell. cell < cell_count own) last.monos) (sym cells) (subst (All (λ cell. cell < cell_count shared.store)) (sym list) names_within);
      root = subst (λ (own : Cells). last.root < cell_count own) (sym cells) (subst (λ cell. cell < cell_count shared.store) (sym one) root_name_within);
    };
    count = ap length list ∙ length-map monos name;
    allows = λ decision of types type.
        subst (λ (own : Cells). HasTypes own last.monos last.root decision types type ↔ HasTypes store monos root decision types type) (sym cells)
        (subst (λ own. HasTypes shared.store own last.root decision types type ↔ HasTypes store monos root decision types type) (sym list)
        (subst (λ own. HasTypes shared.store (map name monos) own decision types type ↔ HasTypes store monos root decision types type) (sym one)
        (unnamed decision of types type, named decision of types type)));
  }

-- so is one that was narrowed
pub IsFrozen-narrowed : (N : ℕ) (store : Cells) (monos : List ℕ) (root : ℕ) (part : Part N) → IsNarrowed N store monos root part → IsFrozen N store monos root (record { cells = part.store; monos = part.cells; root = part.root })
IsFrozen-narrowed N store monos root part is = record {
  space = is.space;
  cells = record { monos = is.inside.cells; root = is.inside.root };
  count = is.count;
  allows = λ decision of types type. ((is.types decision of types type).0, (is.types decision of types type).1);
}
