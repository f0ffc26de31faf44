use Rattle.std.proofs.Common.{◌≡◌, ℕ, zero, suc, ◌<◌, refl, ap, subst, ◌∙◌, arith}
use Rattle.vt_store.specs.Ends.{CellEnd, Free, Same, Made, EachCell, EndsWithin, IsAcyclic}
use Rattle.vt_store.specs.Views.{Follows, arrived, onward}
use Rattle.vt_store.proofs.Cells.{EndsWithin-within}

-- how many links there are from a cell on, as far down as so many cells
abbrev links_of : (ℕ → ℕ) → CellEnd → ℕ
links_of rest Free = 0
links_of rest (Same cell) = suc (rest cell)
links_of rest (Made head kids) = 0

abbrev pub links : (ℕ → CellEnd) → ℕ → ℕ → ℕ
links e zero cell = 0
links e (suc most) cell = links_of (links e most) (e cell)

links-any : (n : ℕ) (e : ℕ → CellEnd) (one other cell : ℕ) → EndsWithin n e one cell → EndsWithin n e other cell → links e one cell ≡ links e other cell
links-any n e zero other cell h g = absurd h
links-any n e (suc one) zero cell h g = absurd g
links-any n e (suc one) (suc other) cell h g = by (e cell) h.1 g.1 (links-any n e one other)
  where
    by : (end : CellEnd) → EachCell (EndsWithin n e one) end → EachCell (EndsWithin n e other) end
        → ((below : ℕ) → EndsWithin n e one below → EndsWithin n e other below → links e one below ≡ links e other below) → links_of (links e one) end ≡ links_of (links e other) end
    by Free h g same = refl
    by (Same cell) h g same = ap suc (same cell h g)
    by (Made head kids) h g same = refl

fewer_in : (n : ℕ) (e : ℕ → CellEnd) (most cell next : ℕ) → IsAcyclic n e → EndsWithin n e most cell → e cell ≡ Same next → (next < n) × (links e most cell ≡ suc (links e n next))
fewer_in n e zero cell next acyclic h is = absurd h
fewer_in n e (suc most) cell next acyclic h is =
    let below : EndsWithin n e most next = subst (EachCell (EndsWithin n e most)) is h.1 in
    let inside = EndsWithin-within n e most next below in
    (inside, ap (links_of (links e most)) is ∙ ap suc (links-any n e most n next below (acyclic next inside)))

-- a link leads to one of the cells, from which there are fewer links
pub fewer_links : (n : ℕ) (e : ℕ → CellEnd) (cell next : ℕ) → IsAcyclic n e → cell < n → e cell ≡ Same next → (next < n) × (links e n next < links e n cell)
fewer_links n e cell next acyclic within is =
    let found = fewer_in n e n cell next acyclic (acyclic cell within) is in
    (found.0, omega (arith, found.1))

pub Follows-more : (e : ℕ → CellEnd) (first cell next : ℕ) → Follows e first cell → e cell ≡ Same next → Follows e first next
Follows-more e first cell next (arrived own) is = onward first next next is (arrived next)
Follows-more e first cell next (onward own other last step rest) is = onward first other next step (Follows-more e other cell next rest is)

pub Follows-then : (e : ℕ → CellEnd) (first cell last : ℕ) → Follows e first cell → Follows e cell last → Follows e first last
Follows-then e first cell last (arrived own) way = way
Follows-then e first cell last (onward own next end is rest) way = onward first next last is (Follows-then e next cell last rest way)
