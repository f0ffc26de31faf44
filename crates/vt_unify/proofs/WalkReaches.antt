use Rattle.std.proofs.Common.{◌≡◌, ◌⊎◌, ℕ, zero, suc, ◌+◌, ◌-◌, ◌*◌, ◌<◌, List, [], ◌∷◌, ◌++◌, Option, Some, None, length, refl, ap, sym, subst, ◌∙◌, inl, inr, arith, length-append}
use Rattle.std.specs.List.{Contains}
use Rattle.std.specs.Option.{IfSome, option_or}
use Rattle.std.proofs.lemmas.List.Elements.{All-contains, Contains-get_or, Contains-push, Contains-push_cases, Contains-append_left}
use Rattle.vt_dec.specs.declared.side.Side.{Side}
use Rattle.vt_dec.specs.Decisions.{Region, Admits}
use Rattle.vt_store.specs.Ends.{CellEnd, Free, Same, Made, EachCell, EndsWithin, IsAcyclic, NamesCell, Reaches, itself, through}
use Rattle.vt_store.specs.Stores.{Cells, ends_at, cell_count, IsOneEnd}
use Rattle.vt_store.specs.Writes.{IsOf}
use Rattle.vt_store.proofs.Cells.{EachCell-at, EndsWithin-named}
use Rattle.vt_unify.specs.CellSets.{IsFew}
use Rattle.vt_unify.specs.Searches.{Grows, visit}
use Rattle.vt_unify.specs.Walks.{CanSplit, AreNamed, IsReachOf, reach_by}
use Rattle.vt_unify.specs.declared.search.Search.{Search}
use Rattle.vt_unify.specs.declared.search.Visit.{Visit}
use Rattle.vt_unify.proofs.Admitted.{IsOf-in}

-- The search from one cell down to another.

-- what a cell names is a cell
pub named-within : (n : ℕ) (e : ℕ → CellEnd) (most cell next : ℕ) → EndsWithin n e most cell → NamesCell (e cell) next → next < n
named-within n e most cell next h names = EachCell-at (λ own. own < n) (e cell) next (EndsWithin-named n e most cell h) names

pub Reaches-more : (e : ℕ → CellEnd) (outer cell next : ℕ) → Reaches e outer cell → NamesCell (e cell) next → Reaches e outer next
Reaches-more e outer cell next (itself own) names = through outer next next names (itself next)
Reaches-more e outer cell next (through own mid last step way) names = through outer mid next step (Reaches-more e mid cell next way names)

-- a way from the outer cell: at every decision of the context, or it differs by a dimension
abbrev pub IsWay : ℕ → Cells → Region → ℕ → ℕ → Option ℕ → Type 0
IsWay N store region outer cell None = (d : List Side) → Admits region d → Reaches (ends_at store d) outer cell
IsWay N store region outer cell (Some dim) = CanSplit N region dim

-- the cell is not the sought one, and what it names is seen
pub record IsDone (store : Cells) (region : Region) (inner : ℕ) (seen : List ℕ) (cell : ℕ) : Type 0 where
  pub other : cell ≡ inner → ⊥
  pub below : (d : List Side) (next : ℕ) → Admits region d → NamesCell (ends_at store d cell) next → Contains seen next

pub record Searching (N : ℕ) (store : Cells) (region : Region) (outer inner : ℕ) (pending : List Visit) (seen : List ℕ) : Type 0 where
  pub visits : (own : Visit) → Contains pending own → (own.cell < cell_count store) × IsWay N store region outer own.cell own.split
  pub inside : (cell : ℕ) → Contains seen cell → cell < cell_count store
  pub closed : (cell : ℕ) → Contains seen cell → ((own : Visit) × Contains pending own × (own.cell ≡ cell)) ⊎ IsDone store region inner seen cell
  pub first : Contains seen outer
  pub few : IsFew seen

none_in : {X : Type 0} (xs : List X) (x : X) → xs ≡ [] → Contains xs x → ⊥
none_in xs x none h = omega (arith, h.1, ap length none)

only_one : (cell own : ℕ) → Contains (cell ∷ []) own → cell ≡ own
only_one cell own h = elim (Contains-push_cases [] cell own h) [ inl none ↦ absurd (omega (arith, none.1)) | inr same ↦ same ]

module _ (N : ℕ) (store : Cells) (region : Region) (outer inner : ℕ) where
  pub Searching-first : (old now : Search) → outer < cell_count store → old.pending.items ≡ [] → old.seen ≡ [] → Grows (outer ∷ []) None old now → Searching N store region outer inner now.pending.items now.seen
  Searching-first old now within no_pending no_seen grows = record {
    visits = λ own h. by own (grows.only own h);
    inside = λ cell h. inside cell ((grows.seen cell).0 h);
    closed = λ cell h. elim (grows.fresh cell h) [ inl was ↦ absurd (none_in old.seen cell no_seen was) | inr new ↦ inl (visit cell None, new, refl) ];
    first = (grows.seen outer).1 (inr (Contains-push [] outer));
    few = grows.few (λ count h. omega (arith, ap length no_seen));
  }
    where
      inside : (own : ℕ) → Contains old.seen own ⊎ Contains (outer ∷ []) own → own < cell_count store
      inside own (inl was) = absurd (none_in old.seen own no_seen was)
      inside own (inr new) = subst (λ c. c < cell_count store) (only_one outer own new) within

      way : (own : Visit) → own.split ≡ None → outer ≡ own.cell → IsWay N store region outer own.cell own.split
      way own split same = subst (IsWay N store region outer own.cell) (sym split) (λ d h. subst (Reaches (ends_at store d) outer) same (itself outer))

      by : (own : Visit) → Contains old.pending.items own ⊎ ((own.split ≡ None) × Contains (outer ∷ []) own.cell) → (own.cell < cell_count store) × IsWay N store region outer own.cell own.split
      by own (inl was) = absurd (none_in old.pending.items own no_pending was)
      by own (inr new) = (inside own.cell (inr new.1), way own new.0 (only_one outer own.cell new.1))

  -- nothing is left to look at
  pub Searching-never : (pending : List Visit) (seen : List ℕ) → pending ≡ [] → Searching N store region outer inner pending seen → (d : List Side) → Admits region d → Reaches (ends_at store d) outer inner → ⊥
  Searching-never pending seen none h d admits way = below outer inner way refl h.first
    where
      done : (cell : ℕ) → Contains seen cell → IsDone store region inner seen cell
      done cell g = elim (h.closed cell g) [ inl left ↦ absurd (none_in pending left.0 none left.1) | inr over ↦ over ]

      below : (from last : ℕ) → Reaches (ends_at store d) from last → last ≡ inner → Contains seen from → ⊥
      below from last (itself own) same g = absurd ((done from g).other same)
      below from last (through own next end names rest) same g = below next last rest same ((done from g).below d next admits names)

  module _ (before rest : List Visit) (seen : List ℕ) (cell : ℕ) (split : Option ℕ) (is : before ≡ rest ++ visit cell split ∷ []) (h : Searching N store region outer inner before seen) where
    pub here : (cell < cell_count store) × IsWay N store region outer cell split
    here = h.visits (visit cell split) (subst (λ all. Contains all (visit cell split)) (sym is) (Contains-push rest (visit cell split)))

    -- the cell is the sought one
    pub reached-way : cell ≡ inner → IsReachOf N store region outer inner (reach_by split)
    reached-way same = by split (subst (λ c. IsWay N store region outer c split) same here.1)
      where
        by : (own : Option ℕ) → IsWay N store region outer inner own → IsReachOf N store region outer inner (reach_by own)
        by None way = way
        by (Some dim) way = way

    module _ (sized : length region.sides ≡ 64 * N) (space : region.space ≡ store.space) (acyclic : (d : List Side) → IsOf N store.space d → IsAcyclic (cell_count store) (ends_at store d))
        (named : List ℕ) (are_named : AreNamed store region cell named) (found : Option ℕ) (both : IfSome found (CanSplit N region)) (alike : found ≡ None → IsOneEnd store cell region)
        (old now : Search) (rest_is : old.pending.items ≡ rest) (seen_is : old.seen ≡ seen) (other : cell ≡ inner → ⊥) (next_split : Option ℕ) (next_is : next_split ≡ option_or split found) (grows : Grows named next_split old now) where
      next-within : (next : ℕ) → Contains named next → next < cell_count store
      next-within next among =
          let origin = (are_named next).0 among in
          named-within (cell_count store) (ends_at store origin.0) (cell_count store) cell next (acyclic origin.0 (IsOf-in N store.space region origin.0 sized space origin.1) cell here.0) origin.2

      next-way : (next : ℕ) → Contains named next → IsWay N store region outer next next_split
      next-way next among = subst (IsWay N store region outer next) (sym next_is) (by split found here.1 both alike)
        where
          by : (own from : Option ℕ) → IsWay N store region outer cell own → IfSome from (CanSplit N region) → (from ≡ None → IsOneEnd store cell region) → IsWay N store region outer next (option_or own from)
          by (Some dim) from way can one = way
          by None (Some dim) way can one = can
          by None None way can one = λ d admits.
              let origin = (are_named next).0 among in
              Reaches-more (ends_at store d) outer cell next (way d admits) (subst (λ end. NamesCell end next) (one refl origin.0 d origin.1 admits) origin.2)

      was_seen : (own : ℕ) → Contains seen own → Contains now.seen own
      was_seen own g = (grows.seen own).1 (inl (subst (λ all. Contains all own) (sym seen_is) g))

      pub Searching-more : Searching N store region outer inner now.pending.items now.seen
      Searching-more = record {
        visits = λ own g. visits own (grows.only own g);
        inside = λ own g. inside own ((grows.seen own).0 g);
        closed = λ own g. closed own (grows.fresh own g);
        first = was_seen outer h.first;
        few = grows.few (subst IsFew (sym seen_is) h.few);
      }
        where
          visits : (own : Visit) → Contains old.pending.items own ⊎ ((own.split ≡ next_split) × Contains named own.cell) → (own.cell < cell_count store) × IsWay N store region outer own.cell own.split
          visits own (inl was) = h.visits own (subst (λ all. Contains all own) (sym is) (Contains-append_left rest (visit cell split ∷ []) own (subst (λ all. Contains all own) rest_is was)))
          visits own (inr new) = (next-within own.cell new.1, subst (IsWay N store region outer own.cell) (sym new.0) (next-way own.cell new.1))

          inside : (own : ℕ) → Contains old.seen own ⊎ Contains named own → own < cell_count store
          inside own (inl was) = h.inside own (subst (λ all. Contains all own) seen_is was)
          inside own (inr new) = next-within own new

          done : (own : ℕ) → IsDone store region inner seen own → IsDone store region inner now.seen own
          done own g = record { other = g.other; below = λ d next admits names. was_seen next (g.below d next admits names) }

          cell_done : IsDone store region inner now.seen cell
          cell_done = record { other = other; below = λ d next admits names. (grows.seen next).1 (inr ((are_named next).1 (d, admits, names))) }

          pended : (own : ℕ) (at : Visit) → at.cell ≡ own → Contains before at → ((at : Visit) × Contains now.pending.items at × (at.cell ≡ own)) ⊎ IsDone store region inner now.seen own
          pended own at same among = elim (Contains-push_cases rest (visit cell split) at (subst (λ all. Contains all at) is among)) [
            | inl left ↦ inl (at, grows.kept at (subst (λ all. Contains all at) (sym rest_is) left), same)
            | inr this ↦ inr (subst (IsDone store region inner now.seen) (ap (λ v. v.cell) this ∙ same) cell_done)
          ]

          closed : (own : ℕ) → Contains old.seen own ⊎ Contains now.pending.items (visit own next_split) → ((at : Visit) × Contains now.pending.items at × (at.cell ≡ own)) ⊎ IsDone store region inner now.seen own
          closed own (inl was) = elim (h.closed own (subst (λ all. Contains all own) seen_is was)) [ inl left ↦ pended own left.0 left.2 left.1 | inr over ↦ inr (done own over) ]
          closed own (inr new) = inl (visit own next_split, new, refl)

      -- one cell fewer is to be looked at
      pub Searching-fewer : cell_count store + length now.pending.items - length now.seen < cell_count store + length before - length seen
      Searching-fewer =
          let small = Searching-more.few (cell_count store) (λ k d low. Searching-more.inside _ (Contains-get_or now.seen k d low)) in
          omega (arith, small, grows.balance, ap length rest_is, ap length seen_is, ap length is, length-append rest (visit cell split ∷ []))
