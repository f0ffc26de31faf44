use Rattle.std.proofs.Common.{◌≡◌, ◌⊎◌, inl, inr, ℕ, ◌<◌, List, refl, ap, sym, subst, ◌∙◌, arith}
use Rattle.vt_dec.specs.declared.side.Side.{Side}
use Rattle.vt_dec.specs.declared.fate.Fate.{Fate}
use Rattle.vt_dec.specs.declared.fate.Fate.TheVariants.{Alive, Dead}
use Rattle.vt_dec.specs.Decisions.{Region, Admits}
use Rattle.vt_dec.proofs.Admitting.{Admits-or}
use Rattle.vt_type.specs.Plain.{IsWellFormed}
use Rattle.vt_type.specs.Constants.{◌⇒◌, int}
use Rattle.vt_store.specs.Patterns.{FateMap, fate_at}
use Rattle.vt_store.specs.Stores.{Cells, cell_count}
use Rattle.vt_store.specs.Writes.{IsOf}
use Rattle.vt_unify.specs.Unified.{IsUnified, IsEither}
use Rattle.vt_store.proofs.Solutions.{HaveSolutions}
use Rattle.vt_infer.specs.Steps.{Solutions, AreFormed, Agree, Adds, Joins, Equates}
use Rattle.vt_infer.specs.Inferring.{solutions_at, GoesOn, IsNew, IsJoint, IsEquated}
use Rattle.vt_infer.proofs.Combining.{agree-then}
use Rattle.vt_infer.proofs.GoingOn.{goes_on-then, goes_on-new, of_same, formed_at}

-- Cells made one.

module _ (N : ℕ) (region : Region) (one other node : ℕ) (old new : Cells) (before after : FateMap)
    (unified : IsUnified N region one other node old new before after) where
  pub goes_on-unified : GoesOn N region old new before after
  goes_on-unified = record {
    space = unified.space;
    pattern_space = unified.pattern_space;
    grows = omega (arith, unified.cells);
    dead = λ decision of died. dead decision of died (Admits-or region decision);
    fates = λ decision of outside. (unified.others decision of outside).0;
    elsewhere = λ decision of outside. record {
      grows = omega (arith, unified.cells);
      old = λ s b. ((unified.others decision of outside).1 s).0 b;
      again = λ s a. (s, ((unified.others decision of outside).1 s).1 a, λ cell within. refl);
    };
  }
    where
      dead : (decision : List Side) → IsOf N old.space decision → (fate_at before decision ≡ Alive → ⊥)
          → Admits region decision ⊎ (Admits region decision → ⊥) → fate_at after decision ≡ fate_at before decision
      dead decision of died (inl admits) = (unified.dead decision admits died).0
      dead decision of died (inr outside) = (unified.others decision of outside).0

  equates_either : (decision : List Side) (fate : Fate) → IsEither one other node decision old new fate
      → Equates (solutions_at old decision) (solutions_at new decision) one other node fate
  equates_either decision Alive either = either
  equates_either decision (Dead own) either = either

  pub equated-unified : HaveSolutions N old → IsEquated N region one other node old new before after
  equated-unified some = record {
    goes_on = goes_on-unified;
    cells = unified.cells;
    some = some;
    here = λ decision of admits alive. equates_either decision (fate_at after decision) (unified.either decision admits alive);
  }

-- one after the other: a new open cell, the function from a cell to it, and that made one with a cell
joins_applied : (n m l : ℕ) (A B C D : Solutions) (function argument result arrow node : ℕ) (fate : Fate)
    → function < n → argument < n → AreFormed n A
    → Adds n m A B result (λ s type. IsWellFormed type) → Adds m l B C arrow (λ s type. type ≡ (s argument ⇒ s result)) → Equates C D function arrow node fate
    → Joins n l A D result (λ s type. s function ≡ (s argument ⇒ type)) node fate
joins_applied n m l A B C D function argument result arrow node Alive function_is argument_is formed fresh made equal = record {
  grows = omega (arith, fresh.grows, made.grows);
  is_cell = omega (arith, fresh.is_cell, made.grows);
  old = λ s d. fresh.old s (made.old s ((equal s).0 d).0);
  related = λ s d. let both = (equal s).0 d in both.1 ∙ made.related s both.0;
  taken = λ s type a has.
      let well_formed : IsWellFormed type = (subst IsWellFormed has (formed s a function function_is)).1.1.0 in
      let (first, b, f, is_type) = fresh.taken s type a well_formed in
      let (second, c, g, is_arrow) = made.taken first (first argument ⇒ first result) b refl in
      let m_result : second result ≡ type = g result fresh.is_cell ∙ is_type in
      let both : Agree n s second = agree-then n m s first second fresh.grows f g in
      let same : second function ≡ second arrow = both function function_is ∙ has ∙ ap (λ own. own ⇒ type) (sym (f argument argument_is)) ∙ ap (λ own. first argument ⇒ own) (sym is_type) ∙ sym is_arrow in
      (second, (equal second).1 (c, same), both, m_result);
}
joins_applied n m l A B C D function argument result arrow node (Dead own) function_is argument_is formed fresh made equal = (
  equal.0,
  λ s type a has.
      let well_formed : IsWellFormed type = (subst IsWellFormed has (formed s a function function_is)).1.1.0 in
      let (first, b, f, is_type) = fresh.taken s type a well_formed in
      let (second, c, g, is_arrow) = made.taken first (first argument ⇒ first result) b refl in
      let both : Agree n s second = agree-then n m s first second fresh.grows f g in
      let same : second function ≡ second arrow = both function function_is ∙ has ∙ ap (λ own. own ⇒ type) (sym (f argument argument_is)) ∙ ap (λ own. first argument ⇒ own) (sym is_type) ∙ sym is_arrow in
      equal.1 second c same,
)

pub joint-applied : (N : ℕ) (region : Region) (function argument result arrow node : ℕ) (old opened made new : Cells) (before after : FateMap)
    → function < cell_count old → argument < cell_count old → HaveSolutions N old
    → IsNew N (λ decision s type. IsWellFormed type) result old opened
    → IsNew N (λ decision s type. type ≡ (s argument ⇒ s result)) arrow opened made
    → IsEquated N region function arrow node made new before after
    → IsJoint N region (λ decision s type. s function ≡ (s argument ⇒ type)) node result old new before after
joint-applied N region function argument result arrow node old opened made new before after function_is argument_is some is_open is_made equal = record {
  goes_on = goes_on-then N region old made new before before after
      (goes_on-then N region old opened made before before before
      (goes_on-new N region (λ decision s type. IsWellFormed type) result old opened before (λ decision s of solves. (int, (refl, tt))) is_open)
      (goes_on-new N region (λ decision s type. type ≡ (s argument ⇒ s result)) arrow opened made before (λ decision s of solves. (s argument ⇒ s result, refl)) is_made))
      equal.goes_on;
  is_cell = omega (arith, is_open.is_cell, is_made.grows, equal.cells);
  some = some;
  here = λ decision of admits alive.
      let of_opened = of_same N region old opened decision is_open.space of in
      let of_made = of_same N region opened made decision is_made.space of_opened in
      subst (λ count. Joins (cell_count old) count (solutions_at old decision) (solutions_at new decision) result (λ s type. s function ≡ (s argument ⇒ type)) node (fate_at after decision)) (sym equal.cells)
      (joins_applied (cell_count old) (cell_count opened) (cell_count made) (solutions_at old decision) (solutions_at opened decision) (solutions_at made decision) (solutions_at new decision)
      function argument result arrow node (fate_at after decision) function_is argument_is (formed_at old decision) (is_open.adds decision of) (is_made.adds decision of_opened) (equal.here decision of_made admits alive));
}
