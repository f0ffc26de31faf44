use Rattle.std.proofs.Common.{◌≡◌, ◌⊎◌, ℕ, ◌*◌, ◌<◌, List, Some, get_or, length, refl, ap, sym, subst, inl, inr}
use Rattle.std.specs.BTreeMap.{BTreeMap, IsEmpty, Updates, is_at}
use Rattle.std.specs.List.{All}
use Rattle.std.specs.Map.{lookup}
use Rattle.std.specs.Option.{unwrap_or}
use Rattle.std.specs.Ordering.{nat_cmp}
use Rattle.std.proofs.lemmas.Bool.{cases_eq}
use Rattle.std.proofs.lemmas.List.Elements.{All-contains, Contains-get_or}
use Rattle.vt_dec.specs.declared.side.Side.{Side}
use Rattle.vt_dec.specs.Decisions.{Region}
use Rattle.vt_store.specs.Ends.{NamesCell, IsAcyclic}
use Rattle.vt_store.specs.Stores.{Cells, ends_at, cell_count}
use Rattle.vt_store.specs.Views.{Follows, arrived, onward}
use Rattle.vt_store.specs.Writes.{IsOf}
use Rattle.vt_unify.specs.Soles.{ahead_in, AreSoles, IsAgreed}
use Rattle.vt_unify.specs.Walks.{LeadsTo, AreLinked}
use Rattle.vt_unify.proofs.WalkReaches.{named-within}
use Rattle.vt_unify.proofs.Admitted.{IsOf-in}
use Rattle.vt_unify.proofs.WalkSets.{apart}

-- Each entry of the table is true alone.

module _ (store : Cells) (region : Region) where
  pub AreSoles-empty : (known : BTreeMap ℕ ℕ) → IsEmpty known → AreSoles store region known
  AreSoles-empty known none cell d h = subst (Follows (ends_at store d) cell) (sym (ap (λ entries. unwrap_or (lookup (is_at (nat_cmp cell)) entries) cell) none)) (arrived cell)

  pub AreSoles-know : (old new : BTreeMap ℕ ℕ) (cell last : ℕ) → AreSoles store region old → LeadsTo store region cell last → Updates nat_cmp old new cell (Some last) → AreSoles store region new
  AreSoles-know old new cell last known leads updates own = by (cases_eq cell own)
    where
      by : (cell ≡ own) ⊎ (cell ≡ own → ⊥) → LeadsTo store region own (ahead_in new own)
      by (inl same) = subst (λ c. LeadsTo store region c (ahead_in new c)) same (subst (LeadsTo store region cell) (sym (ap (λ o. unwrap_or o cell) updates.1)) leads)
      by (inr differ) = subst (LeadsTo store region own) (sym (ap (λ o. unwrap_or o own) (updates.2 own (apart cell own differ)))) (known own)

  -- where all the next cells lead, the cell leads
  pub LeadsTo-agreed : (known : BTreeMap ℕ ℕ) (cell last : ℕ) (next : List ℕ) → AreSoles store region known → AreLinked store region cell next → IsAgreed known cell next last → LeadsTo store region cell last
  LeadsTo-agreed known cell last next soles linked (inl same) d h = subst (Follows (ends_at store d) cell) (sym same) (arrived cell)
  LeadsTo-agreed known cell last next soles linked (inr all) d h =
      let link = linked.every d h in
      onward cell link.0 last link.2 (subst (Follows (ends_at store d) link.0) (All-contains (λ own. ahead_in known own ≡ last) next link.0 all link.1) (soles link.0 d h))

-- what a cell is linked to is a cell
pub All-linked : (N : ℕ) (store : Cells) (region : Region) → length region.sides ≡ 64 * N → region.space ≡ store.space → ((d : List Side) → IsOf N store.space d → IsAcyclic (cell_count store) (ends_at store d))
    → (cell : ℕ) (next : List ℕ) → cell < cell_count store → AreLinked store region cell next → All (λ own. own < cell_count store) next
All-linked N store region sized space acyclic cell next within linked k d low =
    let own = get_or next k d in
    let link = linked.only own (Contains-get_or next k d low) in
    let admitted = IsOf-in N store.space region link.0 sized space link.1 in
    named-within (cell_count store) (ends_at store link.0) (cell_count store) cell own (acyclic link.0 admitted cell within) (subst (λ end. NamesCell end own) (sym link.2) refl)
