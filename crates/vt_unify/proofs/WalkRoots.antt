use Rattle.std.proofs.Common.{◌≡◌, ℕ, zero, suc, ◌*◌, ◌<◌, ◌≤◌, List, length, refl, ap, sym, subst, ◌∙◌, arith}
use Rattle.vt_dec.specs.declared.side.Side.{Side}
use Rattle.vt_dec.specs.Decisions.{Region, IsLeast}
use Rattle.vt_store.specs.Ends.{CellEnd, Same, IsAcyclic}
use Rattle.vt_store.specs.Stores.{Cells, ends_at, cell_count, IsOneEnd}
use Rattle.vt_store.specs.Writes.{IsOf}
use Rattle.vt_store.specs.Views.{Follows, arrived, onward}
use Rattle.vt_store.proofs.Links.{links, fewer_links, Follows-then}
use Rattle.vt_unify.specs.Walks.{LeadsTo}
use Rattle.vt_unify.proofs.Admitted.{IsOf-in}

-- Links lead down: there are fewer from where they lead.

module _ (n : ℕ) (e : ℕ → CellEnd) (acyclic : IsAcyclic n e) where
  pub no_more_links : (cell last : ℕ) → cell < n → Follows e cell last → (last < n) × (links e n last ≤ links e n cell)
  no_more_links cell last within (arrived own) = (within, omega arith)
  no_more_links cell last within (onward own next end is rest) =
      let step = fewer_links n e cell next acyclic within is in
      let others = no_more_links next last step.0 rest in
      (others.0, omega (arith, step.1, others.1))

  -- the same of any number of links that lead elsewhere
  pub fewer_by_links : (cell last : ℕ) → cell < n → (last ≡ cell → ⊥) → Follows e cell last → links e n last < links e n cell
  fewer_by_links cell last within differ (arrived own) = absurd (differ refl)
  fewer_by_links cell last within differ (onward own next end is rest) =
      let step = fewer_links n e cell next acyclic within is in
      let others = no_more_links next last step.0 rest in
      omega (arith, step.1, others.1)

pub LeadsTo-then : (store : Cells) (region : Region) (cell mid last : ℕ) → LeadsTo store region cell mid → LeadsTo store region mid last → LeadsTo store region cell last
LeadsTo-then store region cell mid last first second d h = Follows-then (ends_at store d) cell mid last (first d h) (second d h)

-- A step of the walk, at whose start links lead to one of the cells. The least decision shows that it goes down.
module _ (N : ℕ) (store : Cells) (region : Region) (sized : length region.sides ≡ 64 * N) (space : region.space ≡ store.space)
    (acyclic : (d : List Side) → IsOf N store.space d → IsAcyclic (cell_count store) (ends_at store d)) (least : List Side) (is_least : IsLeast region least)
    (cell last : ℕ) (within : last < cell_count store) (leads : LeadsTo store region cell last) where
  pub IsOf-least : IsOf N store.space least
  IsOf-least = IsOf-in N store.space region least sized space is_least.admitted

  abbrev Steps : ℕ → Type 0
  Steps next = record {
    low : next < cell_count store;
    leads : LeadsTo store region cell next;
    fewer : links (ends_at store least) (cell_count store) next < links (ends_at store least) (cell_count store) last;
  }

  -- by links of which it is known where they lead
  pub Steps-sole : (next : ℕ) → (next ≡ last → ⊥) → LeadsTo store region last next → Steps next
  Steps-sole next differ onward_to =
      let down = acyclic least IsOf-least in
      let way = onward_to least is_least.admitted in
      record {
        low = (no_more_links (cell_count store) (ends_at store least) down last next within way).0;
        leads = LeadsTo-then store region cell last next leads onward_to;
        fewer = fewer_by_links (cell_count store) (ends_at store least) down last next within differ way;
      }

  -- by the link that is the cell's one end
  pub Steps-link : (next : ℕ) → Same next ≡ ends_at store least last → IsOneEnd store last region → Steps next
  Steps-link next is one =
      let step = fewer_links (cell_count store) (ends_at store least) last next (acyclic least IsOf-least) within (sym is) in
      record {
        low = step.0;
        leads = LeadsTo-then store region cell last next leads (λ d h. onward last next next (one d least h is_least.admitted ∙ sym is) (arrived next));
        fewer = step.1;
      }
