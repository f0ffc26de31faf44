use Rattle.std.proofs.Common.{◌≡◌, ◌⊎◌, ℕ, zero, suc, ◌+◌, ◌<◌, ◌≤◌, List, [], ◌∷◌, refl, ap, sym, subst, ◌∙◌, inl, inr, arith}
use Rattle.std.specs.List.{All}
use Rattle.std.proofs.lemmas.Bool.{cases_eq}
use Rattle.std.proofs.lemmas.List.{get_or_default}
use Rattle.std.proofs.lemmas.List.Elements.{All-nil, All-cons}
use Rattle.vt_store.specs.Ends.{CellEnd, Free, Same, Made, EachCell, EndsWithin, IsAcyclic, NamesCell, Reaches, itself, through}
use Rattle.vt_store.proofs.Cells.{All-head, All-tail, EachCell-each, EndsWithin-more, EndsWithin-within}

-- a property that holds or not of each number below n: how many there are
abbrev Decided : (ℕ → Type 0) → Type 0
Decided P = (k : ℕ) → P k ⊎ (P k → ⊥)

abbrev one_if : {P : Type 0} → P ⊎ (P → ⊥) → ℕ
one_if (inl p) = 1
one_if (inr p) = 0

abbrev count : (P : ℕ → Type 0) → Decided P → ℕ → ℕ
count P decide zero = 0
count P decide (suc n) = one_if (decide n) + count P decide n

count-at-most : (P : ℕ → Type 0) (decide : Decided P) (n : ℕ) → count P decide n ≤ n
count-at-most P decide zero = omega arith
count-at-most P decide (suc n) = by (decide n) (count-at-most P decide n)
  where
    by : (d : P n ⊎ (P n → ⊥)) → count P decide n ≤ n → one_if d + count P decide n ≤ suc n
    by (inl p) h = omega arith
    by (inr p) h = omega arith

-- where as many as there are numbers have it, each has it
count-all : (P : ℕ → Type 0) (decide : Decided P) (n : ℕ) → n ≤ count P decide n → (k : ℕ) → k < n → P k
count-all P decide zero all k within = absurd (omega arith)
count-all P decide (suc n) all k within = by (decide n) all (cases_eq k n) (count-all P decide n)
  where
    by : (d : P n ⊎ (P n → ⊥)) → suc n ≤ one_if d + count P decide n → (k ≡ n) ⊎ (k ≡ n → ⊥) → (n ≤ count P decide n → (j : ℕ) → j < n → P j) → P k
    by (inr p) all same rest = let most = count-at-most P decide n in absurd (omega arith)
    by (inl p) all (inl same) rest = subst P (sym same) p
    by (inl p) all (inr other) rest = rest (omega arith) k (omega arith)

-- of a property and a wider one, either they agree or more have the wider one
module _ (P Q : ℕ → Type 0) (few : Decided P) (many : Decided Q) (wider : (k : ℕ) → P k → Q k) where
  agree_or_more : (n : ℕ) → (((k : ℕ) → k < n → Q k → P k) × (count P few n ≤ count Q many n)) ⊎ (count P few n < count Q many n)
  agree_or_more zero = inl ((λ k within q. absurd (omega arith)), omega arith)
  agree_or_more (suc n) = by (few n) (many n) (agree_or_more n)
    where
      by : (p : P n ⊎ (P n → ⊥)) (q : Q n ⊎ (Q n → ⊥)) → (((k : ℕ) → k < n → Q k → P k) × (count P few n ≤ count Q many n)) ⊎ (count P few n < count Q many n)
          → (((k : ℕ) → k < suc n → Q k → P k) × (one_if p + count P few n ≤ one_if q + count Q many n)) ⊎ (one_if p + count P few n < one_if q + count Q many n)
      by (inl p) (inl q) (inl same) = inl ((λ k within has. elim (cases_eq k n) [ inl e ↦ subst P (sym e) p | inr e ↦ same.0 k (omega arith) has ]), omega (arith, same.1))
      by (inl p) (inl q) (inr more) = inr (omega arith)
      by (inl p) (inr q) rest = absurd (q (wider n p))
      by (inr p) (inl q) (inl same) = inr (omega (arith, same.1))
      by (inr p) (inl q) (inr more) = inr (omega arith)
      by (inr p) (inr q) (inl same) = inl ((λ k within has. elim (cases_eq k n) [ inl e ↦ absurd (q (subst Q e has)) | inr e ↦ same.0 k (omega arith) has ]), omega (arith, same.1))
      by (inr p) (inr q) (inr more) = inr (omega arith)

module _ (n : ℕ) (e : ℕ → CellEnd) where
  All-decided : (P : ℕ → Type 0) → Decided P → (kids : List ℕ) → All P kids ⊎ (All P kids → ⊥)
  All-decided P decide [] = inl (All-nil P)
  All-decided P decide (kid ∷ kids) = by (decide kid) (All-decided P decide kids)
    where
      by : P kid ⊎ (P kid → ⊥) → All P kids ⊎ (All P kids → ⊥) → All P (kid ∷ kids) ⊎ (All P (kid ∷ kids) → ⊥)
      by (inl p) (inl ps) = inl (All-cons P kid kids p ps)
      by (inl p) (inr no_kids) = inr (λ h. no_kids (All-tail P kid kids h))
      by (inr no_kid) ps = inr (λ h. no_kid (All-head P kid kids h))

  EachCell-decided : (P : ℕ → Type 0) → Decided P → (end : CellEnd) → EachCell P end ⊎ (EachCell P end → ⊥)
  EachCell-decided P decide Free = inl tt
  EachCell-decided P decide (Same cell) = decide cell
  EachCell-decided P decide (Made head kids) = All-decided P decide kids

  EndsWithin-decided : (most : ℕ) → Decided (EndsWithin n e most)
  EndsWithin-decided zero cell = inr (λ h. h)
  EndsWithin-decided (suc most) cell = by (cases_lt cell n) (EachCell-decided (EndsWithin n e most) (EndsWithin-decided most) (e cell))
    where
      cases_lt : (a b : ℕ) → (a < b) ⊎ (a < b → ⊥)
      cases_lt zero zero = inr (λ h. omega arith)
      cases_lt zero (suc b) = inl (omega arith)
      cases_lt (suc a) zero = inr (λ h. omega arith)
      cases_lt (suc a) (suc b) = elim (cases_lt a b) [ inl h ↦ inl (omega arith) | inr h ↦ inr (λ g. h (omega arith)) ]

      by : (cell < n) ⊎ (cell < n → ⊥) → EachCell (EndsWithin n e most) (e cell) ⊎ (EachCell (EndsWithin n e most) (e cell) → ⊥)
          → EndsWithin n e (suc most) cell ⊎ (EndsWithin n e (suc most) cell → ⊥)
      by (inl within) (inl below) = inl (within, below)
      by (inl within) (inr no_below) = inr (λ h. no_below h.1)
      by (inr outside) below = inr (λ h. outside h.0)

  -- how many cells have ways down that are so short
  abbrev many : ℕ → ℕ
  many most = count (EndsWithin n e most) (EndsWithin-decided most) n

  -- no cell needs a longer way down than so many cells
  abbrev IsEnough : ℕ → Type 0
  IsEnough most = (cell : ℕ) → EndsWithin n e (suc most) cell → EndsWithin n e most cell

  IsEnough-further : (most further cell : ℕ) → IsEnough most → EndsWithin n e further cell → EndsWithin n e most cell
  IsEnough-further most zero cell enough h = absurd h
  IsEnough-further most (suc further) cell enough h =
      enough cell (h.0, EachCell-each (EndsWithin n e further) (EndsWithin n e most) (e cell) (λ below. IsEnough-further most further below enough) h.1)

  enough_or_count : (most : ℕ) → ((few : ℕ) × (few ≤ most) × IsEnough few) ⊎ (most ≤ count (EndsWithin n e most) (EndsWithin-decided most) n)
  enough_or_count zero = inr (omega arith)
  enough_or_count (suc most) =
      by (enough_or_count most) (agree_or_more (EndsWithin n e most) (EndsWithin n e (suc most)) (EndsWithin-decided most) (EndsWithin-decided (suc most)) (λ cell. EndsWithin-more n e most (suc most) cell (omega arith)) n)
    where
      by : ((few : ℕ) × (few ≤ most) × IsEnough few) ⊎ (most ≤ many most)
          → (((cell : ℕ) → cell < n → EndsWithin n e (suc most) cell → EndsWithin n e most cell) × (many most ≤ many (suc most))) ⊎ (many most < many (suc most))
          → ((few : ℕ) × (few ≤ suc most) × IsEnough few) ⊎ (suc most ≤ many (suc most))
      by (inl found) step = inl (found.0, omega (arith, found.1), found.2)
      by (inr counted) (inl same) = inl (most, omega arith, λ cell h. same.0 cell h.0 h)
      by (inr counted) (inr more) = inr (omega arith)

  -- whatever bound there is, there are at most as many cells on the way as there are cells
  pub EndsWithin-tight : (most cell : ℕ) → EndsWithin n e most cell → EndsWithin n e n cell
  EndsWithin-tight most cell h = by (enough_or_count n)
    where
      by : ((few : ℕ) × (few ≤ n) × IsEnough few) ⊎ (n ≤ count (EndsWithin n e n) (EndsWithin-decided n) n) → EndsWithin n e n cell
      by (inl found) = EndsWithin-more n e found.0 n cell found.1 (IsEnough-further found.0 most cell found.2 h)
      by (inr counted) = count-all (EndsWithin n e n) (EndsWithin-decided n) n counted cell (EndsWithin-within n e most cell h)

-- what follows from each cell that is named
EachCell-named : (P Q : ℕ → Type 0) (end : CellEnd) → ((cell : ℕ) → NamesCell end cell → P cell → Q cell) → EachCell P end → EachCell Q end
EachCell-named P Q Free step h = tt
EachCell-named P Q (Same cell) step h = step cell refl h
EachCell-named P Q (Made head kids) step h = λ k d within. step _ (k, within, get_or_default kids k _ d within) (h k d within)

-- An open cell that is bound to one that does not contain it.
module _ (n : ℕ) (e later : ℕ → CellEnd) (bound to : ℕ)
    (free : e bound ≡ Free) (binds : later bound ≡ Same to) (others : (cell : ℕ) → cell < n → (cell ≡ bound → ⊥) → later cell ≡ e cell)
    (within : to < n) (apart : Reaches e to bound → ⊥) where
  elsewhere : (most cell : ℕ) → EndsWithin n e most cell → (Reaches e cell bound → ⊥) → EndsWithin n later most cell
  elsewhere zero cell h no_way = absurd h
  elsewhere (suc most) cell h no_way = (
    h.0,
    subst (EachCell (EndsWithin n later most)) (sym (others cell h.0 (λ same. no_way (subst (λ c. Reaches e cell c) same (itself cell)))))
        (EachCell-named (EndsWithin n e most) (EndsWithin n later most) (e cell) (λ below names g. elsewhere most below g (λ way. no_way (through cell below bound names way))) h.1),
  )

  bound_below : IsAcyclic n e → (most all cell : ℕ) → most + n ≤ all → EndsWithin n e most cell → EndsWithin n later all cell
  bound_below acyclic zero all cell le h = absurd h
  bound_below acyclic (suc most) zero cell le h = absurd (omega arith)
  bound_below acyclic (suc most) (suc all) cell le h = by (cases_eq cell bound) (λ below. bound_below acyclic most all below (omega arith))
    where
      by : (cell ≡ bound) ⊎ (cell ≡ bound → ⊥) → ((below : ℕ) → EndsWithin n e most below → EndsWithin n later all below) → EndsWithin n later (suc all) cell
      by (inl same) step = (
        h.0,
        subst (EachCell (EndsWithin n later all)) (sym (ap later same ∙ binds))
            (EndsWithin-more n later n all to (omega arith) (elsewhere n to (acyclic to within) apart)),
      )
      by (inr other) step = (
        h.0,
        subst (EachCell (EndsWithin n later all)) (sym (others cell h.0 other))
            (EachCell-each (EndsWithin n e most) (EndsWithin n later all) (e cell) step h.1),
      )

  pub IsAcyclic-bound : IsAcyclic n e → IsAcyclic n later
  IsAcyclic-bound acyclic cell inside = EndsWithin-tight n later (n + n) cell (bound_below acyclic n (n + n) cell (omega arith) (acyclic cell inside))

-- the ends are the same
pub IsAcyclic-same : (n : ℕ) (e later : ℕ → CellEnd) → ((cell : ℕ) → cell < n → later cell ≡ e cell) → (most cell : ℕ) → EndsWithin n e most cell → EndsWithin n later most cell
IsAcyclic-same n e later same zero cell h = absurd h
IsAcyclic-same n e later same (suc most) cell h =
    (h.0, subst (EachCell (EndsWithin n later most)) (sym (same cell h.0)) (EachCell-each (EndsWithin n e most) (EndsWithin n later most) (e cell) (IsAcyclic-same n e later same most) h.1))

-- more cells, which the old ones do not name
pub EndsWithin-grown : (n more : ℕ) (e later : ℕ → CellEnd) → n ≤ more → ((cell : ℕ) → cell < n → later cell ≡ e cell) → (most cell : ℕ) → EndsWithin n e most cell → EndsWithin more later most cell
EndsWithin-grown n more e later le same zero cell h = absurd h
EndsWithin-grown n more e later le same (suc most) cell h =
    (omega (arith, h.0), subst (EachCell (EndsWithin more later most)) (sym (same cell h.0)) (EachCell-each (EndsWithin n e most) (EndsWithin more later most) (e cell) (EndsWithin-grown n more e later le same most) h.1))

-- one more cell, which names old ones
pub IsAcyclic-push : (n : ℕ) (e later : ℕ → CellEnd) → IsAcyclic n e → ((cell : ℕ) → cell < n → later cell ≡ e cell) → EachCell (λ cell. cell < n) (later n) → IsAcyclic (suc n) later
IsAcyclic-push n e later acyclic same below cell within = by (cases_eq cell n)
  where
    grown : (old : ℕ) → old < n → EndsWithin (suc n) later n old
    grown old inside = EndsWithin-grown n (suc n) e later (omega arith) same n old (acyclic old inside)

    by : (cell ≡ n) ⊎ (cell ≡ n → ⊥) → EndsWithin (suc n) later (suc n) cell
    by (inl last) = subst (EndsWithin (suc n) later (suc n)) (sym last) (omega arith, EachCell-each (λ old. old < n) (EndsWithin (suc n) later n) (later n) grown below)
    by (inr old) = EndsWithin-more (suc n) later n (suc n) cell (omega arith) (grown cell (omega arith))
