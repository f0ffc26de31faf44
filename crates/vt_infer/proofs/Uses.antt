use Rattle.std.proofs.Common.{◌≡◌, ◌↔◌, ℕ, zero, suc, ◌+◌, ◌<◌, List, [], ◌∷◌, Some, map, take, slice_get, refl, ap, sym, subst, ◌∙◌, arith}
use Rattle.std.specs.List.{All}
use Rattle.std.proofs.lemmas.Option.{same_Some}
use Rattle.vt_dec.specs.declared.side.Side.{Side}
use Rattle.vt_dec.specs.declared.fate.Fate.{Fate}
use Rattle.vt_dec.specs.declared.fate.Fate.TheVariants.{Alive, Dead}
use Rattle.vt_dec.specs.Decisions.{Region}
use Rattle.vt_type.specs.declared.plain.Plain.{Plain}
use Rattle.vt_store.specs.Patterns.{FateMap, fate_at}
use Rattle.vt_store.specs.Stores.{Cells, cell_count}
use Rattle.vt_store.specs.Writes.{IsOf}
use Rattle.vt_scheme.specs.Schemes.{Allows, IsInstanceOf}
use Rattle.vt_scheme.specs.declared.scheme.Scheme.{Scheme}
use Rattle.vt_scheme.specs.declared.scheme.Copied.{Copied}
use Rattle.vt_unify.specs.Unified.{IsUnified, IsEither}
use Rattle.vt_store.proofs.Solutions.{HaveSolutions}
use Rattle.vt_infer.specs.Steps.{Keeps, Joins}
use Rattle.vt_infer.specs.Inferring.{solutions_at, GoesOn, IsJoint}
use Rattle.vt_infer.specs.Equating.{EquatesAll, AreEquated}
use Rattle.vt_infer.proofs.Extending.{map-agrees}
use Rattle.vt_infer.proofs.GoingOn.{goes_on-itself, goes_on-then, of_same}
use Rattle.vt_infer.proofs.Joints.{goes_on-unified}

-- Uses of names that stand for schemes.

head_same : (x y : Plain) (xs ys : List Plain) → x ∷ xs ≡ y ∷ ys → x ≡ y
head_same x y xs ys same = cc

tail_same : (x y : Plain) (xs ys : List Plain) → x ∷ xs ≡ y ∷ ys → xs ≡ ys
tail_same x y xs ys same = cc

cons_same : (x y : Plain) (xs ys : List Plain) → x ≡ y → xs ≡ ys → x ∷ xs ≡ y ∷ ys
cons_same x y xs ys one other = λ i. one i ∷ other i

-- one more of two lists has the same types where so many have and the next two have
same_next : (s : ℕ → Plain) (i : ℕ) (cs os : List ℕ) (c o : ℕ) → slice_get cs i ≡ Some c → slice_get os i ≡ Some o
    → (map s (take (suc i) cs) ≡ map s (take (suc i) os)) ↔ ((map s (take i cs) ≡ map s (take i os)) × (s c ≡ s o))
same_next s i [] os c o at_c at_o = cc
same_next s i (x ∷ cs) [] c o at_c at_o = cc
same_next s zero (x ∷ cs) (y ∷ os) c o at_c at_o =
    let is_c : x ≡ c = same_Some x c at_c in
    let is_o : y ≡ o = same_Some y o at_o in (
      λ same. (refl, sym (ap s is_c) ∙ head_same (s x) (s y) [] [] same ∙ ap s is_o),
      λ both. cons_same (s x) (s y) [] [] (ap s is_c ∙ both.1 ∙ sym (ap s is_o)) refl,
    )
same_next s (suc i) (x ∷ cs) (y ∷ os) c o at_c at_o =
    let deeper = same_next s i cs os c o at_c at_o in (
      λ same.
          let both = deeper.0 (tail_same (s x) (s y) (map s (take (suc i) cs)) (map s (take (suc i) os)) same) in
          (cons_same (s x) (s y) (map s (take i cs)) (map s (take i os)) (head_same (s x) (s y) (map s (take (suc i) cs)) (map s (take (suc i) os)) same) both.0, both.1),
      λ both.
          cons_same (s x) (s y) (map s (take (suc i) cs)) (map s (take (suc i) os)) (head_same (s x) (s y) (map s (take i cs)) (map s (take i os)) both.0)
          (deeper.1 (tail_same (s x) (s y) (map s (take i cs)) (map s (take i os)) both.0, both.1)),
    )

-- what is left of a decision that was alive, after one more of the two lists
next_equates : (N : ℕ) (decision : List Side) (old middle new : Cells) (i c o node : ℕ) (cs os : List ℕ) (between after : Fate)
    → slice_get cs i ≡ Some c → slice_get os i ≡ Some o
    → EquatesAll (solutions_at old decision) (solutions_at middle decision) (take i cs) (take i os) node between
    → (between ≡ Alive → IsEither c o node decision middle new after) → ((between ≡ Alive → ⊥) → after ≡ between)
    → EquatesAll (solutions_at old decision) (solutions_at new decision) (take (suc i) cs) (take (suc i) os) node after
next_equates N decision old middle new i c o node cs os (Dead own) after at_c at_o so_far either stays =
    let still : after ≡ Dead own = stays (λ same. cc) in
    subst (EquatesAll (solutions_at old decision) (solutions_at new decision) (take (suc i) cs) (take (suc i) os) node) (sym still)
    (so_far.0, λ s a same. so_far.1 s a ((same_next s i cs os c o at_c at_o).0 same).0)
next_equates N decision old middle new i c o node cs os Alive Alive at_c at_o so_far either stays =
    λ s. (
      λ solves.
          let here = (either refl s).0 solves in
          let before = (so_far s).0 here.0 in
          (before.0, (same_next s i cs os c o at_c at_o).1 (before.1, here.1)),
      λ both.
          let parts = (same_next s i cs os c o at_c at_o).0 both.1 in
          (either refl s).1 ((so_far s).1 (both.0, parts.0), parts.1),
    )
next_equates N decision old middle new i c o node cs os Alive (Dead own) at_c at_o so_far either stays =
    let here = either refl in (
      here.0,
      λ s a same.
          let parts = (same_next s i cs os c o at_c at_o).0 same in
          here.1 s ((so_far s).1 (a, parts.0)) parts.1,
    )

module _ (N : ℕ) (region : Region) where
  none_equated : (decision : List Side) (store : Cells) (node : ℕ) (fate : Fate) → fate ≡ Alive → EquatesAll (solutions_at store decision) (solutions_at store decision) [] [] node fate
  none_equated decision store node fate alive =
      subst (EquatesAll (solutions_at store decision) (solutions_at store decision) [] [] node) (sym alive) (λ s. (λ solves. (solves, refl), λ both. both.0))

  pub equated-none : (store : Cells) (fates : FateMap) (copies originals : List ℕ) (node : ℕ) → AreEquated N region (take 0 copies) (take 0 originals) node store store fates fates
  equated-none store fates copies originals node = record {
    goes_on = goes_on-itself N region store fates;
    cells = refl;
    here = λ decision of admits alive. none_equated decision store node (fate_at fates decision) alive;
  }

  next_equated : (old middle new : Cells) (before between after : FateMap) (i c o node : ℕ) (cs os : List ℕ)
      → slice_get cs i ≡ Some c → slice_get os i ≡ Some o
      → AreEquated N region (take i cs) (take i os) node old middle before between → IsUnified N region c o node middle new between after
      → AreEquated N region (take (suc i) cs) (take (suc i) os) node old new before after
  next_equated old middle new before between after i c o node cs os at_c at_o so_far unified = record {
    goes_on = goes_on-then N region old middle new before between after so_far.goes_on (goes_on-unified N region c o node middle new between after unified);
    cells = unified.cells ∙ so_far.cells;
    here = λ decision of admits alive.
        next_equates N decision old middle new i c o node cs os (fate_at between decision) (fate_at after decision) at_c at_o (so_far.here decision of admits alive)
        (unified.either decision admits) (λ died. (unified.dead decision admits died).0);
  }

  pub equated-next : (old middle new : Cells) (before between after : FateMap) (i c o node : ℕ) (cs os : List ℕ)
      → slice_get cs i ≡ Some c → slice_get os i ≡ Some o
      → AreEquated N region (take i cs) (take i os) node old middle before between → IsUnified N region c o node middle new between after
      → AreEquated N region (take (i + 1) cs) (take (i + 1) os) node old new before after
  equated-next old middle new before between after i c o node cs os at_c at_o so_far unified =
      let next : suc i ≡ i + 1 = omega arith in
      subst (λ n. AreEquated N region (take n cs) (take n os) node old new before after) next (next_equated old middle new before between after i c o node cs os at_c at_o so_far unified)

  joins_used : (scheme : Scheme N) (copied : Copied) (old copy new : Cells) (decision : List Side) (originals : List ℕ) (node : ℕ) (fate : Fate)
      → All (λ cell. cell < cell_count old) originals → IsOf N old.space decision → IsInstanceOf scheme copied old copy
      → EquatesAll (solutions_at copy decision) (solutions_at new decision) copied.monos originals node fate
      → Joins (cell_count old) (cell_count copy) (solutions_at old decision) (solutions_at new decision) copied.root (λ s type. Allows scheme decision (map s originals) type) node fate
  joins_used scheme copied old copy new decision originals node Alive inside of is_copy equal = record {
    grows = is_copy.grows;
    is_cell = is_copy.root;
    old = λ s solves. is_copy.kept decision of s ((equal s).0 solves).0;
    related = λ s solves.
        let both = (equal s).0 solves in
        subst (λ types. Allows scheme decision types (s copied.root)) both.1 (is_copy.takes decision of s both.0);
    taken = λ s type solves allowed.
        let more = is_copy.gives decision of s solves (map s originals) type allowed in
        (more.other, (equal more.other).1 (more.solves, more.monos_are ∙ sym (map-agrees (cell_count old) s more.other originals inside more.agrees)), more.agrees, more.root_is);
  }
  joins_used scheme copied old copy new decision originals node (Dead own) inside of is_copy equal = (
    equal.0,
    λ s type solves allowed.
        let more = is_copy.gives decision of s solves (map s originals) type allowed in
        equal.1 more.other more.solves (more.monos_are ∙ sym (map-agrees (cell_count old) s more.other originals inside more.agrees)),
  )

  module _ (scheme : Scheme N) (copied : Copied) (old copy : Cells) (own : HaveSolutions N scheme.cells) (space : scheme.cells.space ≡ old.space) (is_copy : IsInstanceOf scheme copied old copy) where
    copy_keeps : (decision : List Side) → IsOf N old.space decision → Keeps (cell_count old) (cell_count copy) (solutions_at old decision) (solutions_at copy decision)
    copy_keeps decision of = record {
      grows = is_copy.grows;
      old = is_copy.kept decision of;
      again = λ s solves.
          let some = own decision (of_same N region old scheme.cells decision space of) in
          let more = is_copy.gives decision of s solves (map some.0 scheme.monos) (some.0 scheme.root) (record { s = some.0; solves = some.1; cells_are = refl; root_is = refl }) in
          (more.other, more.solves, more.agrees);
    }

    goes_on-copy : (fates : FateMap) → GoesOn N region old copy fates fates
    goes_on-copy fates = record {
      space = is_copy.space;
      pattern_space = refl;
      grows = is_copy.grows;
      dead = λ decision of died. refl;
      fates = λ decision of outside. refl;
      elsewhere = λ decision of outside. copy_keeps decision of;
    }

    pub joint-used : (new : Cells) (before after : FateMap) (originals : List ℕ) (node : ℕ) → HaveSolutions N old → All (λ cell. cell < cell_count old) originals
        → AreEquated N region copied.monos originals node copy new before after
        → IsJoint N region (λ decision s type. Allows scheme decision (map s originals) type) node copied.root old new before after
    joint-used new before after originals node some inside equal = record {
      goes_on = goes_on-then N region old copy new before before after (goes_on-copy before) equal.goes_on;
      is_cell = omega (arith, is_copy.root, equal.cells);
      some = some;
      here = λ decision of admits alive.
          subst (λ count. Joins (cell_count old) count (solutions_at old decision) (solutions_at new decision) copied.root (λ s type. Allows scheme decision (map s originals) type) node (fate_at after decision)) (sym equal.cells)
          (joins_used scheme copied old copy new decision originals node (fate_at after decision) inside of is_copy (equal.here decision (of_same N region old copy decision is_copy.space of) admits alive));
    }
