use Rattle.std.proofs.Common.{◌≡◌, ◌↔◌, ◌⊎◌, ℕ, zero, suc, ◌<◌, inl, inr, List, [], ◌∷◌, ◌++◌, length, replicate, Option, Some, None, Result, Ok, Err, IfOk, refl, sym, ap, subst, ◌∙◌, arith}
use Rattle.std.specs.Option.{option_map}
use Rattle.std.proofs.lemmas.Bool.{cases_eq}
use Rattle.std.proofs.lemmas.List.{append-nil}
use Rattle.vt_dec.specs.declared.side.Side.{Side}
use Rattle.vt_dec.specs.declared.side.Space.TheVariants.{All}
use Rattle.vt_dec.specs.Decisions.{Agrees}
use Rattle.vt_dec.proofs.Admitting.{Agrees-open}
use Rattle.vt_type.specs.declared.plain.Plain.{Plain, Var}
use Rattle.vt_type.specs.declared.vtype.VType.{VType}
use Rattle.vt_type.specs.Plain.{substituted}
use Rattle.vt_type.specs.Canonical.{canonical, occurrences, first_of}
use Rattle.vt_type.specs.Laws.{RenamingsShareTheirForm, FormsAreCanonical}
use Rattle.vt_type.specs.Variational.{IsWellFormedV, nodes}
use Rattle.vt_type.specs.NormalForm.{Total, IsNormalForm, IsNormalFormOf}
use Rattle.vt_type.proofs.Substituting.{canonical-well_formed}
use Rattle.vt_store.specs.Ends.{IsAcyclic, AreArities}
use Rattle.vt_store.specs.Laws.{IsOwnSolution, HaveOwnSolution}
use Rattle.vt_store.specs.Patterns.{FateMap, fate_at, IsShown}
use Rattle.vt_store.specs.Solutions.{ReadsAs}
use Rattle.vt_store.specs.Stores.{Cells, cell_count, ends_at}
use Rattle.vt_store.specs.Writes.{IsOf}
use Rattle.vt_norm.specs.declared.front.Spot.TheVariants.{Wrong}
use Rattle.vt_norm.specs.declared.front.Front.{Front}
use Rattle.vt_norm.specs.Fronts.{spot_at, spot_type, occurring, IsSpotOf, IsTyping, Typing, Naming, outcome, map_at}
use Rattle.vt_norm.specs.ReadOut.{reads, IsShownFront}
use Rattle.vt_norm.specs.Readings.{ArePlaces, IsReading, IsOnlyForm, IsBeyond, places_of}
use Rattle.vt_norm.proofs.Congruence.{for_same_outcomes, for_same_decisions}
use Rattle.vt_norm.proofs.CanonicalReading.{reads-canonical, reads-only}
use Rattle.vt_norm.proofs.Tabulated.{IsWellOutcome, has-form}

-- The normal form of what a cell reads as.

length-open : (n : ℕ) (d : List Side) → Agrees (replicate n None) d → length d ≡ n
length-open zero [] h = refl
length-open zero (side ∷ d) h = absurd h
length-open (suc n) [] h = absurd h
length-open (suc n) (side ∷ d) h = ap suc (length-open n d h)

-- the whole part has all decisions
pub whole-has : (part : List (Option Side)) → part ≡ replicate 64 None → (d : List Side) → Total d ↔ Agrees part d
whole-has part e d = (λ total. subst (λ k. Agrees k d) (sym e) (Agrees-open 64 d total), λ a. length-open 64 d (subst (λ k. Agrees k d) e a))

pub shown-places : (store : Cells) (pattern : FateMap) (root mark : ℕ) (part : List (Option Side)) (front : Front) → IsShownFront store pattern root mark part front → ArePlaces store part front
shown-places store pattern root mark part front h d a = elim (h.spots d a) [ inl s ↦ s.1.right | inr w ↦ rw w.1 tt ]

module _ (store : Cells) (pattern : FateMap) (root mark : ℕ) (part : List (Option Side)) (front : Front)
    (law : HaveOwnSolution) (shared : RenamingsShareTheirForm) (again : FormsAreCanonical)
    (acyclic : (d : List Side) → IsOf 1 store.space d → IsAcyclic (cell_count store) (ends_at store d))
    (arities : (d : List Side) → IsOf 1 store.space d → AreArities (cell_count store) (ends_at store d))
    (space : store.space ≡ All) (within : root < cell_count store) (whole : part ≡ replicate 64 None)
    (shown : IsShownFront store pattern root mark part front) where
  of-store : (d : List Side) → Total d → IsOf 1 store.space d
  of-store d total = rw space (record { sized = total; inside = tt })

  -- types for the cells at each decision
  own : (d : List Side) → (s : ℕ → Plain) × (Total d → IsOwnSolution (cell_count store) (ends_at store d) s)
  own d = elim (cases_eq (length d) 64) [
    | inl e ↦ (let o = law (cell_count store) (ends_at store d) (acyclic d (of-store d e)) (arities d (of-store d e)) in (o.0, λ _. o.1))
    | inr ne ↦ (λ cell. Var [], λ total. absurd (ne total))
  ]

  types : Typing
  unfolding own
  types d = (own d).0

  owns : (d : List Side) → Total d → IsOwnSolution (cell_count store) (ends_at store d) (types d)
  unfolding own types
  owns d total = (own d).1 total

  abbrev names : Naming
  names d = occurrences [] (types d root)

  typing : (d : List Side) → Total d → IsTyping (cell_count store) (ends_at store d) (types d)
  typing d total = let o = owns d total in record { solves = o.solves; open_cells = o.open_cells }

  -- what comes at a decision that is shown, and at one that is not
  at-shown : (d : List Side) → Total d → IsSpotOf (cell_count store) (ends_at store d) root (spot_at d front) → outcome types names front d ≡ Some (canonical (types d root))
  at-shown d total s = ap (option_map (substituted (first_of (names d)))) (s.same (types d) (owns d total).solves)

  at-hidden : (d : List Side) → spot_at d front ≡ Wrong → outcome types names front d ≡ None
  at-hidden d e = ap (λ spot. option_map (substituted (first_of (names d))) (spot_type (types d) spot)) e

  reading : IsReading store part [] types names (places_of types front [])
  reading = record {
    typing = λ d a. typing d ((whole-has part whole d).1 a);
    begins = λ d a. (let total = (whole-has part whole d).1 a in elim (shown.spots d a) [
      | inl s ↦ ([], sym (append-nil (names d)) ∙ ap (λ own. occurring [] own ++ []) (sym (s.1.same (types d) (owns d total).solves)))
      | inr w ↦ (names d, ap (λ spot. occurring [] (spot_type (types d) spot) ++ names d) (sym w.1))
    ]);
  }

  well : (d : List Side) → Total d → IsWellOutcome (outcome types names front d)
  well d total = elim (shown.spots d ((whole-has part whole d).0 total)) [
    | inl s ↦ subst IsWellOutcome (sym (at-shown d total s.1)) (canonical-well_formed (types d root) ((owns d total).solves.well_formed root within))
    | inr w ↦ subst IsWellOutcome (sym (at-hidden d w.1)) tt
  ]

  read-at : (d : List Side) (found : Option Plain) → Total d → map_at types names front d found ↔ reads store pattern root mark d found
  read-at d found total = by found (shown.spots d ((whole-has part whole d).0 total))
    where
      by : (found : Option Plain) → ((IsShown mark (fate_at pattern d) × IsSpotOf (cell_count store) (ends_at store d) root (spot_at d front)) ⊎ ((IsShown mark (fate_at pattern d) → ⊥) × (spot_at d front ≡ Wrong)))
          → map_at types names front d found ↔ reads store pattern root mark d found
      by (Some type) (inl s) =
          let here = at-shown d total s.1 in (
            λ h. (s.0, subst (ReadsAs (cell_count store) (ends_at store d) root) (let e : canonical (types d root) ≡ type = cc in e) (reads-canonical shared again (cell_count store) (ends_at store d) (types d) (owns d total) root within)),
            λ r. here ∙ ap Some (sym (reads-only shared again (cell_count store) (ends_at store d) (types d) (owns d total) root within type r.1)),
          )
      by (Some type) (inr w) = let here = at-hidden d w.1 in (λ h. absurd (cc), λ r. absurd (w.0 r.0))
      by None (inl s) = let here = at-shown d total s.1 in (λ h. absurd (cc), λ r. absurd (r s.0))
      by None (inr w) = (λ h. w.0, λ r. at-hidden d w.1)

  form : (v : VType) × IsNormalForm v (map_at types names front) Total × IsWellFormedV v
  form = has-form (outcome types names front) well

  -- the one normal form
  pub the-form : (v : VType) × IsNormalFormOf v (reads store pattern root mark) × IsWellFormedV v × ((one : VType) → IsOnlyForm store part front [] [] one → one ≡ v) × ((room : ℕ) → IsBeyond store part front [] [] room → room < nodes v)
  the-form =
      let f = form in
      let here = for_same_decisions f.0 (map_at types names front) Total (Agrees part) (whole-has part whole) f.1 in (
        f.0,
        for_same_outcomes f.0 (map_at types names front) (reads store pattern root mark) Total read-at f.1,
        f.2,
        λ one only. only types names f.0 reading here,
        λ room beyond. beyond types names f.0 reading here,
      )
