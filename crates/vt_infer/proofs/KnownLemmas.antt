use Rattle.std.proofs.Common.{◌≡◌, ◌⊎◌, ℕ, zero, suc, ◌<◌, Bool, true, false, List, [], ◌∷◌, ◌++◌, length, map, take, drop, slice_get, Option, Some, None, All, inl, inr, refl, sym, ap, subst, ◌∙◌, arith}
use Rattle.std.proofs.lemmas.Option.{slice_get-map, same_Some, none-some, slice_get_within, get_or_from_slice_get}
use Rattle.std.proofs.Math.Seq.{take-suc, drop-cons}
use Rattle.std.specs.Option.{option_map}
use Rattle.vt_dec.specs.declared.side.Side.{Side}
use Rattle.vt_syntax.specs.declared.core_expr.Core.{Core}
use Rattle.vt_syntax.specs.declared.core_program.CoreDef.{CoreDef}
use Rattle.vt_syntax.specs.declared.core_program.CoreProgram.{CoreProgram}
use Rattle.vt_syntax.specs.CoreTrees.{core}
use Rattle.vt_syntax.specs.Programs.{nested, binding, whole}
use Rattle.vt_syntax.specs.Selection.{selected_core, selected_core_def, selected_core_program}
use Rattle.vt_type.specs.Constants.{Constant}
use Rattle.vt_scheme.specs.declared.scheme.Scheme.{Scheme}
use Rattle.vt_scheme.specs.Schemes.{Allows}
use Rattle.vt_rules.specs.Meaning.{own_expression, prefix, ending_at}
use Rattle.vt_rules.proofs.Prefixes.{prefix_selected}
use Rattle.vt_infer.specs.declared.environment.Entry.{Entry}
use Rattle.vt_infer.specs.declared.environment.Entry.TheVariants.{Mono, Poly}
use Rattle.vt_infer.specs.Definitions.{placed}
use Rattle.vt_infer.specs.Environments.{IsMeant, AreMeant}
use Rattle.vt_infer.specs.Inferred.{chosen}
use Rattle.vt_infer.specs.Parts.{defs_at, def_at, GivesAll, IsKnown, AreKnown}
use Rattle.vt_infer.specs.Places.{Place, At, Bound, Looped}
use Rattle.vt_infer.specs.Steps.{Solutions, IsPoly}

-- Lists cut at a place, what a decision selects from the parts of a program, and the names of definitions.

-- a list at a place in it
module _ {X : Type 0} (xs : List X) (i : ℕ) (x : X) (is : slice_get xs i ≡ Some x) where
  inside : i < length xs
  inside = slice_get_within xs i x is

  pub take-at : take (suc i) xs ≡ take i xs ++ x ∷ []
  take-at = subst (λ y. take (suc i) xs ≡ take i xs ++ y ∷ []) (get_or_from_slice_get xs i x x is) (take-suc xs i x inside)

  pub drop-at : drop i xs ≡ x ∷ drop (suc i) xs
  drop-at = subst (λ y. drop i xs ≡ y ∷ drop (suc i) xs) (get_or_from_slice_get xs i x x is) (drop-cons xs i x inside)

-- an item of a list with one more at its end
pub last_or_before : {X : Type 0} (xs : List X) (y : X) (i : ℕ) (x : X) → slice_get (xs ++ y ∷ []) i ≡ Some x → (slice_get xs i ≡ Some x) ⊎ ((i ≡ length xs) × (y ≡ x))
last_or_before [] y zero x is = inr (refl, same_Some y x is)
last_or_before [] y (suc i) x is = absurd (none-some x is)
last_or_before (z ∷ xs) y zero x is = inl is
last_or_before (z ∷ xs) y (suc i) x is =
    elim (last_or_before xs y i x is) [ inl before ↦ inl before | inr (same, equal) ↦ inr (ap suc same, equal) ]

-- what a decision selects from definitions and what follows them
binding_selected : (taken : ℕ → Option Side) (def : CoreDef) (rest : Core) (recursive : Bool)
    → selected_core taken (core def.node def.name_span (binding def recursive rest)) ≡ core def.node def.name_span (binding (selected_core_def taken def) recursive (selected_core taken rest))
binding_selected taken def rest false = refl
binding_selected taken def rest true = refl

pub nested_selected : (taken : ℕ → Option Side) (defs : List CoreDef) (main : Core)
    → selected_core taken (nested defs main) ≡ nested (map (selected_core_def taken) defs) (selected_core taken main)
nested_selected taken [] main = refl
nested_selected taken (def ∷ defs) main =
    binding_selected taken def (nested defs main) def.recursive
    ∙ ap (λ rest. core def.node def.name_span (binding (selected_core_def taken def) def.recursive rest)) (nested_selected taken defs main)

-- the program of a definition at a decision
pub chosen_part : (core : CoreProgram) (decision : List Side) (part : ℕ) (def : CoreDef) → slice_get core.defs part ≡ Some def
    → chosen decision (prefix core part) ≡ nested (take part (defs_at decision core.defs)) (own_expression (def_at decision def) def.recursive)
chosen_part core decision part def is =
    ap whole (prefix_selected (slice_get decision) core part)
    ∙ ap (λ found. whole (ending_at (selected_core_program (slice_get decision) core) part found))
    (slice_get-map (selected_core_def (slice_get decision)) core.defs part ∙ ap (option_map (selected_core_def (slice_get decision))) is)

-- the program of the main expression
pub chosen_main : (core : CoreProgram) (decision : List Side) (part : ℕ) → slice_get core.defs part ≡ None → chosen decision (prefix core part) ≡ chosen decision core
chosen_main core decision part is = ap (λ found. chosen decision (ending_at core part found)) is

no_cells : (n : ℕ) → All (λ cell. cell < n) []
no_cells n i d within = absurd (omega arith)

-- names that are known are meant
module _ {N : ℕ} (K : List Constant) (n : ℕ) (A : Solutions) (decision : List Side) where
  as_poly : (scheme : Scheme N) (originals : List ℕ) (place : Place) (places : List Place) → originals ≡ [] → GivesAll K decision scheme place places
      → IsPoly K n A (Allows scheme decision) originals place places
  as_poly scheme originals place places none all =
      subst (λ cells. IsPoly K n A (Allows scheme decision) cells place places) (sym none)
      (record { cells = no_cells n; exactly = λ s a type. all s type })

  known_meant : (entry : Entry N) (place : Place) (places : List Place) → IsKnown K decision entry place places → IsMeant K n A decision entry place places
  known_meant (Mono cell) place places h = absurd h
  known_meant (Poly scheme originals) (At own) places h = absurd h
  known_meant (Poly scheme originals) (Bound bound) places h = as_poly scheme originals (Bound bound) places h.0 h.1
  known_meant (Poly scheme originals) (Looped bound) places h = as_poly scheme originals (Looped bound) places h.0 h.1

  pub are_meant : (entries : List (Entry N)) (places : List Place) → AreKnown K decision entries places → AreMeant K n A decision entries places
  are_meant [] [] h = tt
  are_meant (entry ∷ entries) (place ∷ places) h = (known_meant entry place places h.0, are_meant entries places h.1)
  are_meant [] (place ∷ places) h = absurd h
  are_meant (entry ∷ entries) [] h = absurd h

-- the name of a definition is known
pub known_entry : (N : ℕ) (K : List Constant) (decision : List Side) (scheme : Scheme N) (def : CoreDef) (recursive : Bool) (places : List Place)
    → GivesAll K decision scheme (placed def recursive) places → IsKnown K decision (Poly scheme []) (placed def recursive) places
known_entry N K decision scheme def false places h = (refl, h)
known_entry N K decision scheme def true places h = (refl, h)
