use Rattle.std.proofs.Common.{◌≡◌, ◌⊎◌, ℕ, zero, suc, ◌+◌, ◌<◌, ◌≤◌, List, [], ◌∷◌, map, refl, ap, sym, subst, ◌∙◌, inl, inr, arith}
use Rattle.std.specs.List.{All}
use Rattle.std.proofs.lemmas.List.Elements.{All-nil, All-cons}
use Rattle.vt_type.specs.declared.plain.Plain.{Plain, Con}
use Rattle.vt_store.specs.Ends.{CellEnd, Free, Same, Made, EachCell, EndsWithin, IsAcyclic, mapped_end}
use Rattle.vt_store.specs.Solutions.{plain_kids, Fits, Solves}
use Rattle.vt_store.specs.Sharing.{MayStandAt, IsSharedAt}
use Rattle.vt_store.proofs.Cells.{All-head, All-tail, EachCell-each, EndsWithin-more, EndsWithin-within}

-- At one decision: that some cells stand for others changes no solution.

-- what both ends say of their cells follows for the cells at each place
map-alike : (name : ℕ → ℕ) (s : ℕ → Plain) (P Q : ℕ → Type 0) (ones others : List ℕ) → ((one other : ℕ) → P one → Q other → name one ≡ name other → s one ≡ s other)
    → All P ones → All Q others → map name ones ≡ map name others → map s ones ≡ map s others
map-alike name s P Q [] [] step p q same = refl
map-alike name s P Q [] (other ∷ others) step p q same = cc
map-alike name s P Q (one ∷ ones) [] step p q same = cc
map-alike name s P Q (one ∷ ones) (other ∷ others) step p q same =
    let first : name one ≡ name other = cc in
    let behind : map name ones ≡ map name others = cc in
    let here = step one other (All-head P one ones p) (All-head Q other others q) first in
    let rest = map-alike name s P Q ones others step (All-tail P one ones p) (All-tail Q other others q) behind in
    λ i. here i ∷ rest i

-- types that fit ends which are one but for names
fits-alike : (name : ℕ → ℕ) (s : ℕ → Plain) (P Q : ℕ → Type 0) (x y : Plain) (one other : CellEnd) → ((a b : ℕ) → P a → Q b → name a ≡ name b → s a ≡ s b)
    → EachCell P one → EachCell Q other → mapped_end name one ≡ mapped_end name other → Fits s x one → Fits s y other → (x ≡ y) ⊎ ((one ≡ Free) × (other ≡ Free))
fits-alike name s P Q x y Free Free step p q same f g = inr (refl, refl)
fits-alike name s P Q x y Free (Same b) step p q same f g = absurd cc
fits-alike name s P Q x y Free (Made head kids) step p q same f g = absurd cc
fits-alike name s P Q x y (Same a) Free step p q same f g = absurd cc
fits-alike name s P Q x y (Same a) (Same b) step p q same f g = let names : name a ≡ name b = cc in inl (f ∙ step a b p q names ∙ sym g)
fits-alike name s P Q x y (Same a) (Made head kids) step p q same f g = absurd cc
fits-alike name s P Q x y (Made head kids) Free step p q same f g = absurd cc
fits-alike name s P Q x y (Made head kids) (Same b) step p q same f g = absurd cc
fits-alike name s P Q x y (Made head kids) (Made own others) step p q same f g =
    let heads : head ≡ own = cc in
    let names : map name kids ≡ map name others = cc in
    let types = map-alike name s P Q kids others step p q names in
    inl (f ∙ (λ i. Con (heads i) (plain_kids (types i))) ∙ sym g)

-- types that fit an end that is not open
fits-one : (s : ℕ → Plain) (x y : Plain) (end : CellEnd) → (end ≡ Free → ⊥) → Fits s x end → Fits s y end → x ≡ y
fits-one s x y Free bound f g = absurd (bound refl)
fits-one s x y (Same cell) bound f g = f ∙ sym g
fits-one s x y (Made head kids) bound f g = f ∙ sym g

mapped-bound : (name : ℕ → ℕ) (end : CellEnd) → (end ≡ Free → ⊥) → mapped_end name end ≡ Free → ⊥
mapped-bound name Free bound is = bound refl
mapped-bound name (Same cell) bound is = cc
mapped-bound name (Made head kids) bound is = cc

map-named : (name : ℕ → ℕ) (s : ℕ → Plain) (kids : List ℕ) → All (λ cell. s (name cell) ≡ s cell) kids → map s (map name kids) ≡ map s kids
map-named name s [] same = refl
map-named name s (kid ∷ kids) same =
    let here = All-head (λ cell. s (name cell) ≡ s cell) kid kids same in
    let rest = map-named name s kids (All-tail (λ cell. s (name cell) ≡ s cell) kid kids same) in
    λ i. here i ∷ rest i

-- a type fits an end whose cells have the types of their representatives
pub fits-named : (name : ℕ → ℕ) (s : ℕ → Plain) (x : Plain) (end : CellEnd) → EachCell (λ cell. s (name cell) ≡ s cell) end → Fits s x end → Fits s x (mapped_end name end)
fits-named name s x Free same f = tt
fits-named name s x (Same cell) same f = f ∙ sym same
fits-named name s x (Made head kids) same f = f ∙ ap (λ types. Con head (plain_kids types)) (sym (map-named name s kids same))

pub fits-unnamed : (name : ℕ → ℕ) (s : ℕ → Plain) (x : Plain) (end : CellEnd) → EachCell (λ cell. s (name cell) ≡ s cell) end → Fits s x (mapped_end name end) → Fits s x end
fits-unnamed name s x Free same f = tt
fits-unnamed name s x (Same cell) same f = f ∙ same
fits-unnamed name s x (Made head kids) same f = f ∙ ap (λ types. Con head (plain_kids types)) (map-named name s kids same)

map-each_cell : (P Q : ℕ → Type 0) (name : ℕ → ℕ) (kids : List ℕ) → ((cell : ℕ) → P cell → Q (name cell)) → All P kids → All Q (map name kids)
map-each_cell P Q name [] step h = All-nil Q
map-each_cell P Q name (kid ∷ kids) step h = All-cons Q (name kid) (map name kids) (step kid (All-head P kid kids h)) (map-each_cell P Q name kids step (All-tail P kid kids h))

pub each-named : (P Q : ℕ → Type 0) (name : ℕ → ℕ) (end : CellEnd) → ((cell : ℕ) → P cell → Q (name cell)) → EachCell P end → EachCell Q (mapped_end name end)
each-named P Q name Free step h = tt
each-named P Q name (Same cell) step h = step cell h
each-named P Q name (Made head kids) step h = map-each_cell P Q name kids step h

module _ (n : ℕ) (e shared : ℕ → CellEnd) (name : ℕ → ℕ) (is : IsSharedAt n e shared name) where
  -- ---- no cell contains itself

  EndsWithin-name : (most cell : ℕ) → EndsWithin n shared most cell → EndsWithin n shared most (name cell)
  EndsWithin-name zero cell h = absurd h
  EndsWithin-name (suc most) cell h = by (is.stand cell h.0)
    where
      by : MayStandAt e name cell → EndsWithin n shared (suc most) (name cell)
      by (inl (next, link, same)) =
          let here : shared cell ≡ Same (name cell) = is.ends cell h.0 ∙ ap (mapped_end name) link ∙ ap Same same in
          EndsWithin-more n shared most (suc most) (name cell) (omega arith) (subst (EachCell (EndsWithin n shared most)) here h.1)
      by (inr (bound, same)) =
          let here : shared cell ≡ shared (name cell) = is.ends cell h.0 ∙ sym same ∙ sym (is.ends (name cell) (is.within cell h.0)) in
          (is.within cell h.0, subst (EachCell (EndsWithin n shared most)) here h.1)

  EndsWithin-shared : (most cell : ℕ) → EndsWithin n e most cell → EndsWithin n shared most cell
  EndsWithin-shared zero cell h = absurd h
  EndsWithin-shared (suc most) cell h = (
    h.0,
    subst (EachCell (EndsWithin n shared most)) (sym (is.ends cell h.0))
        (each-named (EndsWithin n e most) (EndsWithin n shared most) name (e cell) (λ below g. EndsWithin-name most below (EndsWithin-shared most below g)) h.1),
  )

  pub IsAcyclic-shared : IsAcyclic n e → IsAcyclic n shared
  IsAcyclic-shared acyclic cell within = EndsWithin-shared n cell (acyclic cell within)

  -- ---- a solution gives cells with one representative one type

  module _ (s : ℕ → Plain) (solves : Solves n e s) where
    -- so far as two ways down have together so many cells
    abbrev AreOneType : ℕ → Type 0
    AreOneType both = (most many cell other : ℕ) → most + many ≤ both → EndsWithin n e most cell → EndsWithin n e many other → name cell ≡ name other → s cell ≡ s other

    linked : (own next : ℕ) → own < n → e own ≡ Same next → s own ≡ s next
    linked own next within link = subst (Fits s (s own)) link (solves.fits own within)

    itself : (own : ℕ) → (name own ≡ own) ⊎ (e own ≡ Free → ⊥) → e own ≡ Free → name own ≡ own
    itself own (inl same) free = same
    itself own (inr bound) free = absurd (bound free)

    one_more : (both most many cell other : ℕ) → AreOneType both → most + many ≤ suc both → EndsWithin n e (suc most) cell → EndsWithin n e (suc many) other → suc most + suc many ≤ suc both → name cell ≡ name other
        → MayStandAt e name cell → MayStandAt e name other → s cell ≡ s other
    one_more both most many cell other step less h g le same (inl (next, link, own)) right =
        linked cell next h.0 link ∙ step most (suc many) next other (omega arith) (subst (EachCell (EndsWithin n e most)) link h.1) g (own ∙ same)
    one_more both most many cell other step less h g le same (inr left) (inl (next, link, own)) =
        step (suc most) many cell next (omega arith) h (subst (EachCell (EndsWithin n e many)) link g.1) (same ∙ sym own) ∙ sym (linked other next g.0 link)
    one_more both most many cell other step less h g le same (inr left) (inr right) =
        of (fits-alike name s (EndsWithin n e most) (EndsWithin n e many) (s cell) (s other) (e cell) (e other) (λ a b p q. step most many a b (omega arith) p q) h.1 g.1
        (sym left.1 ∙ ap (λ own. mapped_end name (e own)) same ∙ right.1) (solves.fits cell h.0) (solves.fits other g.0))
      where
        of : (s cell ≡ s other) ⊎ ((e cell ≡ Free) × (e other ≡ Free)) → s cell ≡ s other
        of (inl types) = types
        of (inr (one, two)) = ap s (sym (itself cell left.0 one) ∙ same ∙ itself other right.0 two)

    one_type : (both : ℕ) → AreOneType both
    one_type both zero many cell other le h g same = absurd h
    one_type both (suc most) zero cell other le h g same = absurd g
    one_type zero (suc most) (suc many) cell other le h g same = absurd (omega arith)
    one_type (suc both) (suc most) (suc many) cell other le h g same = one_more both most many cell other (one_type both) (omega arith) h g le same (is.stand cell h.0) (is.stand other g.0)

    module _ (acyclic : IsAcyclic n e) where
      of_name : (most cell : ℕ) → ((below : ℕ) → EndsWithin n e most below → s (name below) ≡ s below) → EndsWithin n e (suc most) cell → MayStandAt e name cell → s (name cell) ≡ s cell
      of_name most cell step h (inl (next, link, own)) = ap s (sym own) ∙ step next (subst (EachCell (EndsWithin n e most)) link h.1) ∙ sym (linked cell next h.0 link)
      of_name most cell step h (inr (bound, same)) = of (ends n (acyclic (name cell) (is.within cell h.0))) bound
        where
          ends : (many : ℕ) → EndsWithin n e many (name cell) → (s (name cell) ≡ s cell) ⊎ ((e (name cell) ≡ Free) × (e cell ≡ Free))
          ends zero g = absurd g
          ends (suc many) g =
              fits-alike name s (EndsWithin n e many) (EndsWithin n e most) (s (name cell)) (s cell) (e (name cell)) (e cell) (λ a b p q. one_type (many + most) many most a b (omega arith) p q) g.1 h.1 same
              (solves.fits (name cell) g.0) (solves.fits cell h.0)

          of : (s (name cell) ≡ s cell) ⊎ ((e (name cell) ≡ Free) × (e cell ≡ Free)) → (name cell ≡ cell) ⊎ (e cell ≡ Free → ⊥) → s (name cell) ≡ s cell
          of (inl types) own = types
          of (inr (one, two)) (inl alone) = ap s alone
          of (inr (one, two)) (inr never) = absurd (never two)

      type_of_name : (most cell : ℕ) → EndsWithin n e most cell → s (name cell) ≡ s cell
      type_of_name zero cell h = absurd h
      type_of_name (suc most) cell h = of_name most cell (type_of_name most) h (is.stand cell h.0)

      pub type_kept : (cell : ℕ) → cell < n → s (name cell) ≡ s cell
      type_kept cell within = type_of_name n cell (acyclic cell within)

      below_kept : (cell : ℕ) → cell < n → EachCell (λ own. s (name own) ≡ s own) (e cell)
      below_kept cell within = by n (acyclic cell within)
        where
          by : (most : ℕ) → EndsWithin n e most cell → EachCell (λ own. s (name own) ≡ s own) (e cell)
          by zero h = absurd h
          by (suc most) h = EachCell-each (EndsWithin n e most) (λ own. s (name own) ≡ s own) (e cell) (type_of_name most) h.1

      pub Solves-shared : Solves n shared s
      Solves-shared = record {
        well_formed = solves.well_formed;
        fits = λ cell within. subst (Fits s (s cell)) (sym (is.ends cell within)) (fits-named name s (s cell) (e cell) (below_kept cell within) (solves.fits cell within));
      }

  -- ---- and back

  module _ (s : ℕ → Plain) (solves : Solves n shared s) (acyclic : IsAcyclic n e) where
    type_shared : (cell : ℕ) → cell < n → s (name cell) ≡ s cell
    type_shared cell within = by (is.stand cell within)
      where
        here : Fits s (s cell) (mapped_end name (e cell))
        here = subst (Fits s (s cell)) (is.ends cell within) (solves.fits cell within)

        there : Fits s (s (name cell)) (mapped_end name (e (name cell)))
        there = subst (Fits s (s (name cell))) (is.ends (name cell) (is.within cell within)) (solves.fits (name cell) (is.within cell within))

        by : MayStandAt e name cell → s (name cell) ≡ s cell
        by (inl (next, link, own)) = let type = subst (λ end. Fits s (s cell) (mapped_end name end)) link here in ap s (sym own) ∙ sym type
        by (inr (inl itself, same)) = ap s itself
        by (inr (inr bound, same)) = fits-one s (s (name cell)) (s cell) (mapped_end name (e cell)) (mapped-bound name (e cell) bound) (subst (Fits s (s (name cell))) same there) here

    pub Solves-unshared : Solves n e s
    Solves-unshared = record {
      well_formed = solves.well_formed;
      fits = λ cell within.
          fits-unnamed name s (s cell) (e cell) (below cell within n (acyclic cell within)) (subst (Fits s (s cell)) (is.ends cell within) (solves.fits cell within));
    }
      where
        below : (cell : ℕ) → cell < n → (most : ℕ) → EndsWithin n e most cell → EachCell (λ own. s (name own) ≡ s own) (e cell)
        below cell within zero h = absurd h
        below cell within (suc most) h = EachCell-each (EndsWithin n e most) (λ own. s (name own) ≡ s own) (e cell) (λ own g. type_shared own (EndsWithin-within n e most own g)) h.1
