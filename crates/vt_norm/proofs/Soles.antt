use Rattle.std.proofs.Common.{◌≡◌, ◌≢◌, ◌⊎◌, ℕ, ◌<◌, ◌++◌, List, [], ◌∷◌, false, Option, Some, None, slice_get, slice_set, refl, ap, sym, subst, ◌∙◌, inl, inr, arith}
use Rattle.std.specs.BTreeMap.{BTreeMap, IsEmpty, Updates, is_at}
use Rattle.std.specs.List.{Contains}
use Rattle.std.specs.Map.{lookup}
use Rattle.std.specs.Option.{unwrap_or}
use Rattle.std.specs.Ordering.{nat_cmp}
use Rattle.std.proofs.lemmas.Bool.{cases_eq}
use Rattle.std.proofs.lemmas.Bool.Decides.{nat_tests}
use Rattle.std.proofs.lemmas.List.Elements.{All-append, All-contains, All-nil, All-cons, Contains-append_left, Contains-append_right, Contains-push}
use Rattle.vt_dec.specs.declared.side.Side.{Side}
use Rattle.vt_dec.specs.declared.side.Side.TheVariants.{Left, Right}
use Rattle.vt_dec.specs.declared.side.Space.TheVariants as space
use Rattle.vt_dec.specs.Decisions.{Agrees}
use Rattle.vt_store.specs.Ends.{Same, IsAcyclic}
use Rattle.vt_store.specs.Solutions.{Fits}
use Rattle.vt_store.specs.Stores.{Cells, ends_at, cell_count, IsOneEnd}
use Rattle.vt_norm.specs.Soles.{IsAhead, ahead_in, AreSoles, IsAgreed, AreLinked}
use Rattle.vt_norm.proofs.Following.{one-end, next-within}
use Rattle.vt_norm.proofs.Naming.{either_side}

-- Each entry of the table is right alone.

module _ (store : Cells) (part : List (Option Side)) where
  pub itself : (cell : ℕ) → cell < cell_count store → IsAhead store part cell cell
  itself cell within = (within, λ d a s solves. refl)

  pub soles-empty : (known : BTreeMap ℕ ℕ) → IsEmpty known → AreSoles store part known
  soles-empty known none cell within = subst (IsAhead store part cell) (sym (ap (λ entries. unwrap_or (lookup (is_at (nat_cmp cell)) entries) cell) none)) (itself cell within)

  pub soles-know : (old new : BTreeMap ℕ ℕ) (cell last : ℕ) → AreSoles store part old → IsAhead store part cell last → Updates nat_cmp old new cell (Some last) → AreSoles store part new
  soles-know old new cell last known leads updates own within = by (cases_eq cell own)
    where
      by : (cell ≡ own) ⊎ (cell ≡ own → ⊥) → IsAhead store part own (ahead_in new own)
      by (inl same) = subst (λ c. IsAhead store part c (ahead_in new c)) same (subst (IsAhead store part cell) (sym (ap (λ o. unwrap_or o cell) updates.1)) leads)
      by (inr differ) = subst (IsAhead store part own) (sym (ap (λ o. unwrap_or o own) (updates.2 own (let other : cell ≢ own = differ in grind (arith, nat_tests))))) (known own within)

  -- where all the next cells lead, the cell leads
  pub leads-agreed : (least : List Side) → Agrees part least → (known : BTreeMap ℕ ℕ) (cell last : ℕ) (cells : List ℕ) → cell < cell_count store → AreSoles store part known → AreLinked store part cell cells → IsAgreed known cell cells last → IsAhead store part cell last
  leads-agreed least here known cell last cells within soles linked (inl same) = subst (IsAhead store part cell) (sym same) (itself cell within)
  leads-agreed least here known cell last cells within soles linked (inr all) = (
    (let link = linked.every least here in subst (λ own. own < cell_count store) (All-contains (λ own. ahead_in known own ≡ last) cells link.0 all link.1) (soles link.0 (All-contains (λ own. own < cell_count store) cells link.0 linked.within link.1)).0),
    λ d a s solves. (let link = linked.every d a in
        subst (Fits s (s cell)) link.2 (solves.fits cell within)
        ∙ (soles link.0 (All-contains (λ own. own < cell_count store) cells link.0 linked.within link.1)).1 d a s solves
        ∙ ap s (All-contains (λ own. ahead_in known own ≡ last) cells link.0 all link.1)),
  )

-- a cell that is one link at all decisions of the part
pub linked-one : (store : Cells) (part : List (Option Side)) (cell next : ℕ) (least : List Side) (cells : List ℕ) → IsAcyclic (cell_count store) (ends_at store least) → cell < cell_count store → IsOneEnd store cell (record { sides = part; space = space.All }) → Agrees part least → Same next ≡ ends_at store least cell → cells ≡ next ∷ [] → AreLinked store part cell cells
linked-one store part cell next least cells acyclic within one a e is =
    rw is (record {
      within = All-cons (λ own. own < cell_count store) next [] (next-within store least cell next acyclic within e) (All-nil (λ own. own < cell_count store));
      every = λ d b. (next, contains-first, one-end store part cell least d (Same next) one a e b);
    })
  where
    contains-first : Contains (next ∷ []) next
    contains-first = Contains-push [] next

pub linked-both : (store : Cells) (part on_left on_right : List (Option Side)) (cell dim : ℕ) (lefts rights cells : List ℕ) → slice_get part dim ≡ Some None
    → on_left ≡ slice_set part dim (Some Left) → on_right ≡ slice_set part dim (Some Right)
    → AreLinked store on_left cell lefts → AreLinked store on_right cell rights → cells ≡ lefts ++ rights → AreLinked store part cell cells
linked-both store part on_left on_right cell dim lefts rights cells opened l r h k is =
    let h = rw l at h in
    let k = rw r at k in
    rw is (record {
      within = All-append (λ own. own < cell_count store) lefts rights h.within k.within;
      every = λ d a. (let side = either_side part dim d a opened in by h k d side.0 side.2);
    })
  where
    by : AreLinked store (slice_set part dim (Some Left)) cell lefts → AreLinked store (slice_set part dim (Some Right)) cell rights → (d : List Side) (side : Side) → Agrees (slice_set part dim (Some side)) d → (next : ℕ) × Contains (lefts ++ rights) next × (ends_at store d cell ≡ Same next)
    by h k d Left a = let link = h.every d a in (link.0, Contains-append_left lefts rights link.0 link.1, link.2)
    by h k d Right a = let link = k.every d a in (link.0, Contains-append_right lefts rights link.0 link.1, link.2)
