use Rattle.std.proofs.Common.{◌≡◌, ◌⊎◌, ℕ, ◌+◌, ◌<◌, List, length, set, get_or, ap, sym, subst, ◌∙◌, inl, inr, arith, length-set}
use Rattle.std.specs.List.{All}
use Rattle.std.proofs.lemmas.Bool.{cases_eq}
use Rattle.std.proofs.lemmas.List.{get_or-set_same, get_or-set_other}
use Rattle.vt_store.specs.declared.diagram.Diagram.{Diagram}
use Rattle.vt_store.specs.Sharing.{AreRepresentatives}
use Rattle.vt_store.specs.Narrowing.{IsPairedAt}

-- Cells of the two sides of a dimension, in pairs.

-- the names once the pairs below a place were seen
pub record ArePairedBelow (count : ℕ) (ones others : List ℕ) (place : ℕ) (names : List ℕ) : Type 0 where
  pub sized : length names ≡ count
  pub each : (cell : ℕ) → cell < count → (get_or names cell 0 ≡ cell) ⊎ IsPairedAt ones others cell (get_or names cell 0)

pub ArePairedBelow-none : (diagrams : List Diagram) (ones others names : List ℕ) → AreRepresentatives diagrams (length diagrams) names → ArePairedBelow (length diagrams) ones others 0 names
ArePairedBelow-none diagrams ones others names are = record { sized = are.sized; each = λ cell within. inl (are.before cell within within) }

pub ArePairedBelow-more : (count : ℕ) (ones others names : List ℕ) (place one other : ℕ) → ArePairedBelow count ones others place names → All (λ cell. cell < count) others
    → (place < length ones) × (one ≡ get_or ones place 0) → (place < length others) × (other ≡ get_or others place 0) → ArePairedBelow count ones others (place + 1) (set names other one)
ArePairedBelow-more count ones others names place one other before within first second = record {
  sized = length-set names other one ∙ before.sized;
  each = λ cell inside. by cell inside (cases_eq cell other);
}
  where
    by : (cell : ℕ) → cell < count → (cell ≡ other) ⊎ (cell ≡ other → ⊥) → (get_or (set names other one) cell 0 ≡ cell) ⊎ IsPairedAt ones others cell (get_or (set names other one) cell 0)
    by cell inside (inl same) =
        let name : get_or (set names other one) cell 0 ≡ one = ap (λ own. get_or (set names other one) own 0) same ∙ get_or-set_same names other one 0 (omega (arith, before.sized, same, inside)) in
        inr (record { place = place; in_ones = first.0; in_others = second.0; one = name ∙ first.1; other = same ∙ second.1 })
    by cell inside (inr differ) = subst (λ name. (name ≡ cell) ⊎ IsPairedAt ones others cell name) (sym (get_or-set_other names other cell one 0 differ)) (before.each cell inside)
