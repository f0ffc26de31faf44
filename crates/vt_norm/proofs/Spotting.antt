use Rattle.std.proofs.Common.{◌≡◌, ℕ, zero, suc, ◌+◌, ◌<◌, ◌≤◌, List, [], ◌∷◌, ◌++◌, map, drop, length, get_or, Bool, true, false, cond, Some, refl, ap, ◌∙◌, arith}
use Rattle.std.specs.Map.{lookup}
use Rattle.std.specs.Option.{option_map, unwrap_or}
use Rattle.std.specs.Str.{bytes_eq}
use Rattle.std.proofs.lemmas.List.{drop_more}
use Rattle.std.proofs.lemmas.Slice.Eq.{bytes_eq-Decides}
use Rattle.vt_dec.specs.declared.side.Side.{Side}
use Rattle.vt_dec.specs.declared.side.Side.TheVariants.{Left, Right}
use Rattle.vt_type.specs.declared.head.Head.{Head}
use Rattle.vt_type.specs.declared.plain.Plain.{Plain}
use Rattle.vt_type.specs.Plain.{kid_count, substituted, kids_substituted}
use Rattle.vt_type.specs.Canonical.{occurrences, kids_occurrences, first_of}
use Rattle.vt_type.specs.NormalForm.{Root, root, kid_at}
use Rattle.vt_type.specs.NormalForm as form
use Rattle.vt_type.specs.Variational.{by_side}
use Rattle.vt_store.specs.Ends.{CellEnd}
use Rattle.vt_store.specs.Solutions.{plain_kids}
use Rattle.vt_norm.specs.declared.front.Spot.{Spot}
use Rattle.vt_norm.specs.declared.front.Spot.TheVariants.{Made, Open, Wrong}
use Rattle.vt_norm.specs.declared.front.Front.{Front, Leaf}
use Rattle.vt_norm.specs.declared.root.Top.TheVariants as top
use Rattle.vt_norm.specs.Diagrams.{shown}
use Rattle.vt_norm.specs.Fronts.{node, spot_at, by_sides, HasCells, HaveCells, IsSpot, IsTyping, spot_type, spot_kids, occurring}
use Rattle.vt_norm.specs.Names.{top_of, noted}

-- What stands at a place at one decision: its root, its variables and its children.

cells-sides : (count : ℕ) (front : Front) (sides : ℕ → Side) → HaveCells count front → HasCells count (by_sides sides front)
cells-sides count (Leaf spot) sides h = h
cells-sides count (node dim left right) sides h = by (sides dim) (cells-sides count left sides h.0) (cells-sides count right sides h.1)
  where
    by : (side : Side) → HasCells count (by_sides sides left) → HasCells count (by_sides sides right) → HasCells count (by_side (Some side) (by_sides sides left) (by_sides sides right))
    by Left l r = l
    by Right l r = r

pub cells-at : (count : ℕ) (front : Front) (d : List Side) → HaveCells count front → HasCells count (spot_at d front)
cells-at count front d h = cells-sides count front _ h

count-substituted : (images : List ℕ → Plain) (s : ℕ → Plain) (cells : List ℕ) → kid_count (kids_substituted images (plain_kids (map s cells))) ≡ length cells
count-substituted images s [] = refl
count-substituted images s (cell ∷ cells) = omega (arith, count-substituted images s cells)

-- a variable that goes on after some places is named by them, or by its own place
pub named-by : (test : List ℕ → Bool) (own : List ℕ) (way : List ℕ) (name : List ℕ) (one later : List (List ℕ × List ℕ)) → test own ≡ true → unwrap_or (lookup test (one ++ ((own, way) ∷ [] ++ later))) name ≡ unwrap_or (lookup test one) way
named-by test own way name [] later e = rw e refl
named-by test own way name (place ∷ one) later e = by (test place.0) (named-by test own way name one later e)
  where
    by : (b : Bool) → unwrap_or (lookup test (one ++ ((own, way) ∷ [] ++ later))) name ≡ unwrap_or (lookup test one) way
        → unwrap_or (cond b (Some place.1) (lookup test (one ++ ((own, way) ∷ [] ++ later)))) name ≡ unwrap_or (cond b (Some place.1) (lookup test one)) way
    by true h = refl
    by false h = h

-- the root is what it is by the names so far
pub root-by-names : (n : ℕ) (e : ℕ → CellEnd) (s : ℕ → Plain) → IsTyping n e s → (spot : Spot) → HasCells n spot → IsSpot e spot → (names met later : List (List ℕ × List ℕ)) (way : List ℕ) → names ≡ met ++ (occurring way (spot_type s spot) ++ later)
    → root (option_map (substituted (first_of names)) (spot_type s spot)) ≡ shown (top_of (λ cell. unwrap_or (lookup (bytes_eq (cell ∷ [])) met) way) spot)
root-by-names n e s typing (Made head cells) h right names met later way begins =
    ap (form.Made head) (count-substituted (first_of names) s cells ∙ right)
root-by-names n e s typing (Open cell) h right names met later way begins =
    let own = typing.open_cells cell h right in
    let begins = rw own at begins in
    rw (own, begins) (ap form.Named (named-by (bytes_eq (cell ∷ [])) (cell ∷ []) way (cell ∷ []) met later ((bytes_eq-Decides (cell ∷ []) (cell ∷ [])).1 refl)))
root-by-names n e s typing Wrong h right names met later way begins = refl

-- ---- the spot by its root

pub made-of-top : (name : ℕ → List ℕ) (spot : Spot) (head : Head) → top_of name spot ≡ top.Made head → (cells : List ℕ) × (spot ≡ Made head cells)
made-of-top name (Made own cells) head e = (cells, let f : own ≡ head = cc in ap (λ h. Made h cells) f)
made-of-top name (Open cell) head e = absurd (cc)
made-of-top name Wrong head e = absurd (cc)

-- what is noted of an open cell are the variables of its type
pub noted-named : (n : ℕ) (e : ℕ → CellEnd) (s : ℕ → Plain) → IsTyping n e s → (name : ℕ → List ℕ) (spot : Spot) (path way : List ℕ) → HasCells n spot → IsSpot e spot → top_of name spot ≡ top.Named path → noted way spot ≡ occurring way (spot_type s spot)
noted-named n e s typing name (Made own cells) path way h right is = absurd (cc)
noted-named n e s typing name (Open cell) path way h right is = rw (typing.open_cells cell h right) refl
noted-named n e s typing name Wrong path way h right is = absurd (cc)

pub none-of-wrong : (s : ℕ → Plain) (name : ℕ → List ℕ) (spot : Spot) (way : List ℕ) → top_of name spot ≡ top.Wrong → occurring way (spot_type s spot) ≡ []
none-of-wrong s name (Made own cells) way is = absurd (cc)
none-of-wrong s name (Open cell) way is = absurd (cc)
none-of-wrong s name Wrong way is = refl

-- ---- children

-- the variables of all children are those of the type
pub places-of-kids : (s : ℕ → Plain) (spot : Spot) (head : Head) (cells way : List ℕ) (number : ℕ) → number ≡ 0 → spot ≡ Made head cells → occurring way (spot_type s spot) ≡ kids_occurrences way number (spot_kids number s spot)
places-of-kids s spot head cells way number zeroth is = rw (is, zeroth) refl

-- the variables of a child come before those of the children after it
pub places-of-kid : (s : ℕ → Plain) (spot : Spot) (head : Head) (cells way : List ℕ) (number : ℕ) → number < length cells → spot ≡ Made head cells
    → kids_occurrences way number (spot_kids number s spot) ≡ occurrences (way ++ number ∷ []) (s (get_or cells number 0)) ++ kids_occurrences way (number + 1) (spot_kids (number + 1) s spot)
places-of-kid s spot head cells way number below is =
    rw is (ap (λ left. kids_occurrences way number (plain_kids (map s left))) (drop_more cells number 0 below))

pub kid-at-number : (images : List ℕ → Plain) (s : ℕ → Plain) (cells : List ℕ) (number : ℕ) → number < length cells → kid_at (kids_substituted images (plain_kids (map s cells))) number ≡ Some (substituted images (s (get_or cells number 0)))
kid-at-number images s [] number below = absurd (omega arith)
kid-at-number images s (cell ∷ cells) zero below = refl
kid-at-number images s (cell ∷ cells) (suc number) below = kid-at-number images s cells number (omega arith)
