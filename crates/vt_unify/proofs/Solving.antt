use Rattle.std.proofs.Common.{◌≡◌, ◌⊎◌, ◌↔◌, ℕ, zero, suc, ◌+◌, ◌<◌, ◌≤◌, List, [], ◌∷◌, map, refl, ap, sym, subst, ◌∙◌, inl, inr, arith}
use Rattle.std.specs.List.{All}
use Rattle.std.proofs.lemmas.Bool.{cases_eq}
use Rattle.std.proofs.lemmas.List.Elements.{All-nil, All-cons, All-weaker, All-contains}
use Rattle.vt_type.specs.declared.head.Head.{Head}
use Rattle.vt_type.specs.declared.head.Head.TheVariants.{Int}
use Rattle.vt_type.specs.declared.plain.Plain.{Plain, Var, Con}
use Rattle.vt_type.specs.declared.plain.PlainKids.{PlainKids, Nil}
use Rattle.vt_type.specs.Plain.{kids_of, plain_nodes, kids_nodes}
use Rattle.vt_store.specs.Ends.{CellEnd, Free, Same, Made, EachCell, EndsWithin, IsAcyclic, NamesCell, Reaches, itself, through}
use Rattle.vt_store.specs.Solutions.{plain_kids, Fits, Solves}
use Rattle.vt_store.specs.Views.{Follows, arrived, onward}
use Rattle.vt_store.proofs.Cells.{EachCell-each, EachCell-at, EndsWithin-within, IsAcyclic-named}
use Rattle.vt_unify.specs.Walks.{IsNoLink}
use Rattle.vt_unify.specs.Comparisons.{IsMadeOf, IsSameMade}

-- ---- what stands in a type

abbrev top_of : Plain → Head
top_of (Var name) = Int
top_of (Con head kids) = head

abbrev under : Plain → PlainKids
under (Var name) = Nil
under (Con head kids) = kids

abbrev listed : PlainKids → List Plain
listed Nil = []
listed (kids_of kid kids) = kid ∷ listed kids

listed-plain_kids : (types : List Plain) → listed (plain_kids types) ≡ types
listed-plain_kids [] = refl
listed-plain_kids (type ∷ types) = ap (λ rest. type ∷ rest) (listed-plain_kids types)

-- two heads over types are equal only where all is equal
pub same_kids : (one other : Head) (lefts rights : List Plain) → Con one (plain_kids lefts) ≡ Con other (plain_kids rights) → lefts ≡ rights
same_kids one other lefts rights same = sym (listed-plain_kids lefts) ∙ ap (λ type. listed (under type)) same ∙ listed-plain_kids rights

pub same_head : (one other : Head) (lefts rights : PlainKids) → Con one lefts ≡ Con other rights → one ≡ other
same_head one other lefts rights same = ap top_of same

-- a child is smaller
kid-nodes : (s : ℕ → Plain) (kids : List ℕ) → All (λ kid. plain_nodes (s kid) ≤ kids_nodes (plain_kids (map s kids))) kids
kid-nodes s [] = All-nil (λ kid. plain_nodes (s kid) ≤ 0)
kid-nodes s (kid ∷ kids) =
    All-cons (λ own. plain_nodes (s own) ≤ plain_nodes (s kid) + kids_nodes (plain_kids (map s kids))) kid kids (omega arith)
    (All-weaker (λ own. plain_nodes (s own) ≤ kids_nodes (plain_kids (map s kids))) (λ own. plain_nodes (s own) ≤ plain_nodes (s kid) + kids_nodes (plain_kids (map s kids))) (λ own le. omega arith) kids (kid-nodes s kids))

-- ---- one of the cells that are named

module _ (n : ℕ) (e : ℕ → CellEnd) (acyclic : IsAcyclic n e) where
  -- an end of a cell names cells
  pub named_inside : (cell : ℕ) → cell < n → EachCell (λ next. next < n) (e cell)
  named_inside = IsAcyclic-named n e acyclic

  pub named_within : (cell next : ℕ) → cell < n → NamesCell (e cell) next → next < n
  named_within cell next within names = EachCell-at (λ own. own < n) (e cell) next (named_inside cell within) names

  pub linked_within : (cell next : ℕ) → cell < n → e cell ≡ Same next → next < n
  linked_within cell next within is = named_within cell next within (subst (λ end. NamesCell end next) (sym is) refl)

  pub Follows-within : (cell last : ℕ) → cell < n → Follows e cell last → last < n
  Follows-within cell last within (arrived own) = within
  Follows-within cell last within (onward own next end is rest) = Follows-within next last (linked_within cell next within is) rest

  -- ---- what a solution gives to the cells

  module _ (s : ℕ → Plain) (solves : Solves n e s) where
    pub fits_at : (cell : ℕ) (end : CellEnd) → cell < n → e cell ≡ end → Fits s (s cell) end
    fits_at cell end within is = subst (Fits s (s cell)) is (solves.fits cell within)

    pub Follows-same : (cell last : ℕ) → cell < n → Follows e cell last → s cell ≡ s last
    Follows-same cell last within (arrived own) = refl
    Follows-same cell last within (onward own next end is rest) =
        fits_at cell (Same next) within is ∙ Follows-same next last (linked_within cell next within is) rest

    named-nodes : (cell next : ℕ) (end : CellEnd) → cell < n → e cell ≡ end → NamesCell end next → plain_nodes (s next) ≤ plain_nodes (s cell)
    named-nodes cell next Free within is names = absurd names
    named-nodes cell next (Same own) within is names =
        let same : s cell ≡ s next = fits_at cell (Same own) within is ∙ ap s names in
        omega (arith, ap plain_nodes same)
    named-nodes cell next (Made head kids) within is names =
        let below = All-contains (λ kid. plain_nodes (s kid) ≤ kids_nodes (plain_kids (map s kids))) kids next (kid-nodes s kids) names in
        omega (arith, below, ap plain_nodes (fits_at cell (Made head kids) within is))

    Reaches-nodes : (outer inner : ℕ) → outer < n → Reaches e outer inner → plain_nodes (s inner) ≤ plain_nodes (s outer)
    Reaches-nodes outer inner within (itself own) = omega arith
    Reaches-nodes outer inner within (through own next last names rest) =
        let here = named-nodes outer next (e outer) within refl names in
        let below = Reaches-nodes next inner (named_within outer next within names) rest in
        omega (arith, here, below)

    below-nodes : (outer next : ℕ) (end : CellEnd) → outer < n → e outer ≡ end → IsNoLink end → NamesCell end next → plain_nodes (s next) < plain_nodes (s outer)
    below-nodes outer next Free within is no_link names = absurd names
    below-nodes outer next (Same own) within is no_link names = absurd no_link
    below-nodes outer next (Made head kids) within is no_link names =
        let below = All-contains (λ kid. plain_nodes (s kid) ≤ kids_nodes (plain_kids (map s kids))) kids next (kid-nodes s kids) names in
        omega (arith, below, ap plain_nodes (fits_at outer (Made head kids) within is))

    -- a cell that contains another one is never equal to it
    pub inside_differs : (outer inner : ℕ) → outer < n → IsNoLink (e outer) → Reaches e outer inner → (outer ≡ inner → ⊥) → s outer ≡ s inner → ⊥
    inside_differs outer inner within no_link (itself own) differ same = differ refl
    inside_differs outer inner within no_link (through own next last names rest) differ same =
        let here = below-nodes outer next (e outer) within refl no_link names in
        let below = Reaches-nodes next inner (named_within outer next within names) rest in
        omega (arith, here, below, ap plain_nodes same)

    -- what a cell is made of, through links
    pub made_at : (cell : ℕ) (head : Head) (kids : List ℕ) → cell < n → IsMadeOf e cell head kids → s cell ≡ Con head (plain_kids (map s kids))
    made_at cell head kids within made =
        Follows-same cell made.0 within made.1 ∙ fits_at made.0 (Made head kids) (Follows-within cell made.0 within made.1) made.2

    pub same_made : (left right : ℕ) (lefts rights : List ℕ) → left < n → right < n → IsSameMade e left right lefts rights → (s left ≡ s right) ↔ (map s lefts ≡ map s rights)
    same_made left right lefts rights inside within made =
        let one = made_at left made.0 lefts inside made.1 in
        let other = made_at right made.0 rights within made.2 in (
          (λ same. same_kids made.0 made.0 (map s lefts) (map s rights) (sym one ∙ same ∙ other)),
          (λ same. one ∙ ap (λ types. Con made.0 (plain_kids types)) same ∙ sym other),
        )

-- ---- an open cell that is bound

module _ (n : ℕ) (e later : ℕ → CellEnd) (cell to : ℕ) (within : cell < n)
    (free : e cell ≡ Free) (binds : later cell ≡ Same to) (elsewhere : (other : ℕ) → (other ≡ cell → ⊥) → later other ≡ e other) (s : ℕ → Plain) where
  bound_equal : Solves n later s → s cell ≡ s to
  bound_equal solves = subst (Fits s (s cell)) binds (solves.fits cell within)

  bound_before : Solves n later s → Solves n e s
  bound_before solves = record { well_formed = solves.well_formed; fits = λ other inside. by other inside (cases_eq other cell) }
    where
      by : (other : ℕ) → other < n → (other ≡ cell) ⊎ (other ≡ cell → ⊥) → Fits s (s other) (e other)
      by other inside (inl same) = subst (Fits s (s other)) (sym (ap e same ∙ free)) tt
      by other inside (inr differ) = subst (Fits s (s other)) (elsewhere other differ) (solves.fits other inside)

  bound_after : Solves n e s → s cell ≡ s to → Solves n later s
  bound_after solves equal = record { well_formed = solves.well_formed; fits = λ other inside. by other inside (cases_eq other cell) }
    where
      by : (other : ℕ) → other < n → (other ≡ cell) ⊎ (other ≡ cell → ⊥) → Fits s (s other) (later other)
      by other inside (inl same) = subst (Fits s (s other)) (sym (ap later same ∙ binds)) (ap s same ∙ equal)
      by other inside (inr differ) = subst (Fits s (s other)) (sym (elsewhere other differ)) (solves.fits other inside)

  -- the solutions afterwards are those in which the two are equal
  pub bound_solves : Solves n later s ↔ (Solves n e s × (s cell ≡ s to))
  bound_solves = ((λ solves. (bound_before solves, bound_equal solves)), (λ both. bound_after both.0 both.1))
