use Rattle.std.proofs.Common.{◌≡◌, ◌⊎◌, ℕ, zero, suc, ◌+◌, ◌-◌, ◌*◌, ◌<◌, ◌≤◌, true, false, List, [], ◌∷◌, ◌++◌, length, get_or, refl, ap, sym, subst, ◌∙◌, inl, inr, arith, length-append, Contains, Some, nat_eq}
use Rattle.std.specs.List.{All}
use Rattle.std.proofs.lemmas.List.{get_or_read}
use Rattle.std.proofs.lemmas.List.Elements.{All-nil, All-cons, All-push, All-pop, All-append, Contains-append_left, Contains-append_right, Contains-append_cases, All-contains_itself}
use Rattle.vt_dec.specs.declared.side.Side.{Side}
use Rattle.vt_store.specs.declared.diagram.Diagram.{Diagram, Open, Link, Con}
use Rattle.vt_store.specs.Diagrams.{choice, HasCells}
use Rattle.vt_store.specs.Parts.{AreFew}
use Rattle.vt_store.specs.Sharing.{diagram_of}
use Rattle.vt_store.specs.Narrowing.{named_on, of_side, IsAdded, IsReached}
use Rattle.vt_store.proofs.Cells.{All-each}
use Rattle.vt_store.proofs.SideLemmas.{at_side, at_cond}

-- A walk over the cells to which some lead on one side of a dimension.

-- a cell was found, or is still ahead
abbrev pub Among : List ℕ → List ℕ → ℕ → Type 0
Among found ahead cell = Contains found cell ⊎ Contains ahead cell

-- what holds on the way
pub record IsWalked (diagrams : List Diagram) (dim : ℕ) (side : Side) (kept : List ℕ) (last : ℕ) (found ahead : List ℕ) : Type 0 where
  pub found_within : All (λ cell. cell < length diagrams) found
  pub ahead_within : All (λ cell. cell < length diagrams) ahead
  pub cells : All (Among found ahead) kept
  pub root : Among found ahead last
  pub closed : (cell : ℕ) → Contains found cell → All (Among found ahead) (named_on dim side (diagram_of diagrams cell))

-- how many cells all diagrams name there
abbrev pub all_named : ℕ → Side → List Diagram → ℕ
all_named dim side [] = 0
all_named dim side (diagram ∷ diagrams) = length (named_on dim side diagram) + all_named dim side diagrams

-- what a walk has still to do at most
abbrev pub ahead_of : ℕ → Side → List Diagram → List ℕ → List ℕ → ℕ
ahead_of dim side diagrams found ahead = (length diagrams - length found) * (1 + all_named dim side diagrams) + length ahead

named_on-within : (count dim : ℕ) (side : Side) (diagram : Diagram) → HasCells count diagram → All (λ cell. cell < count) (named_on dim side diagram)
named_on-within count dim side Open h = All-nil (λ cell. cell < count)
named_on-within count dim side (Link cell) h = All-cons (λ own. own < count) cell [] h (All-nil (λ own. own < count))
named_on-within count dim side (Con head kids) h = h.1
named_on-within count dim side (choice own left right) h =
    let l = named_on-within count dim side left h.0 in
    let r = named_on-within count dim side right h.1 in
    at_cond (All (λ cell. cell < count)) (nat_eq own dim) (of_side side (named_on dim side left) (named_on dim side right)) (named_on dim side left ++ named_on dim side right)
    (at_side (All (λ cell. cell < count)) side (named_on dim side left) (named_on dim side right) l r) (All-append (λ cell. cell < count) (named_on dim side left) (named_on dim side right) l r)

named-bound : (dim : ℕ) (side : Side) (diagrams : List Diagram) (cell : ℕ) → cell < length diagrams → length (named_on dim side (diagram_of diagrams cell)) ≤ all_named dim side diagrams
named-bound dim side [] cell within = absurd (omega (arith, within))
named-bound dim side (diagram ∷ diagrams) zero within = omega arith
named-bound dim side (diagram ∷ diagrams) (suc cell) within = omega (arith, named-bound dim side diagrams cell (omega (arith, within)))

-- one cell fewer to find is worth more than all that it names
fewer : (less more all named rest ahead further : ℕ) → more ≡ suc less → named ≤ all → further ≡ rest + named → ahead ≡ rest + 1 → less * (1 + all) + further < more * (1 + all) + ahead
fewer less more all named rest ahead further is bound grows shrinks =
    subst (λ own. less * (1 + all) + further < own * (1 + all) + ahead) (sym is) (omega (arith, bound, grows, shrinks))

-- ---- what two lists contain together

Contains-last : (ones : List ℕ) (cell : ℕ) → Contains (ones ++ cell ∷ []) cell
Contains-last ones cell = Contains-append_right ones (cell ∷ []) cell (0, omega arith, refl)

Contains-one : (one cell k : ℕ) → k < 1 → get_or (one ∷ []) k cell ≡ cell → cell ≡ one
Contains-one one cell zero within is = sym is
Contains-one one cell (suc k) within is = absurd (omega (arith, within))

Contains-of_last : (ones : List ℕ) (one cell : ℕ) → Contains (ones ++ one ∷ []) cell → Contains ones cell ⊎ (cell ≡ one)
Contains-of_last ones one cell has = by (Contains-append_cases ones (one ∷ []) cell has)
  where
    by : Contains ones cell ⊎ Contains (one ∷ []) cell → Contains ones cell ⊎ (cell ≡ one)
    by (inl earlier) = inl earlier
    by (inr last) = inr (Contains-one one cell last.0 last.1 last.2)

-- ---- the walk begins

pub IsWalked-start : (diagrams : List Diagram) (dim : ℕ) (side : Side) (kept : List ℕ) (last : ℕ) (found ahead : List ℕ) → found ≡ [] → ahead ≡ kept ++ last ∷ []
    → All (λ cell. cell < length diagrams) kept → last < length diagrams → IsWalked diagrams dim side kept last found ahead
IsWalked-start diagrams dim side kept last found ahead none all within inside = record {
  found_within = subst (All (λ cell. cell < length diagrams)) (sym none) (All-nil (λ cell. cell < length diagrams));
  ahead_within = subst (All (λ cell. cell < length diagrams)) (sym all) (All-push (λ cell. cell < length diagrams) kept last within inside);
  cells = All-each (Contains kept) (Among found ahead) kept (λ cell has. inr (subst (λ cells. Contains cells cell) (sym all) (Contains-append_left kept (last ∷ []) cell has))) (All-contains_itself kept);
  root = inr (subst (λ cells. Contains cells last) (sym all) (Contains-last kept last));
  closed = λ cell has. absurd (empty cell (subst (λ cells. Contains cells cell) none has));
}
  where
    empty : (cell : ℕ) → Contains [] cell → ⊥
    empty cell has = omega (arith, has.1)

-- ---- one cell is looked at

module _ (diagrams : List Diagram) (dim : ℕ) (side : Side) (kept : List ℕ) (last : ℕ) (found ahead rest later : List ℕ) (cell : ℕ)
    (before : IsWalked diagrams dim side kept last found ahead) (popped : ahead ≡ rest ++ cell ∷ []) where
  rest_within : All (λ own. own < length diagrams) rest × (cell < length diagrams)
  rest_within = All-pop (λ own. own < length diagrams) ahead rest (Some cell) popped before.ahead_within

  -- it was found before
  pub IsWalked-again : IsAdded found later cell false → IsWalked diagrams dim side kept last later rest
  IsWalked-again (same, has) = record {
    found_within = subst (All (λ own. own < length diagrams)) (sym same) before.found_within;
    ahead_within = rest_within.0;
    cells = All-each (Among found ahead) (Among later rest) kept still before.cells;
    root = still last before.root;
    closed = λ own in_later. All-each (Among found ahead) (Among later rest) (named_on dim side (diagram_of diagrams own)) still (before.closed own (subst (λ cells. Contains cells own) same in_later));
  }
    where
      of_ahead : (own : ℕ) → Contains rest own ⊎ (own ≡ cell) → Among later rest own
      of_ahead own (inl in_rest) = inr in_rest
      of_ahead own (inr is) = inl (subst (λ cells. Contains cells own) (sym same) (subst (Contains found) (sym is) has))

      still : (own : ℕ) → Among found ahead own → Among later rest own
      still own (inl in_found) = inl (subst (λ cells. Contains cells own) (sym same) in_found)
      still own (inr in_ahead) = of_ahead own (Contains-of_last rest cell own (subst (λ cells. Contains cells own) popped in_ahead))

  module _ (further : List ℕ) (diagram : Diagram) (read : diagram ≡ get_or diagrams cell diagram) (added : IsAdded found later cell true) (pushed : further ≡ rest ++ named_on dim side diagram) where
    abbrev named : List ℕ
    named = named_on dim side (diagram_of diagrams cell)

    same_diagram : diagram_of diagrams cell ≡ diagram
    same_diagram = sym (get_or_read diagrams cell diagram rest_within.1 read Open)

    onward : further ≡ rest ++ named
    onward = pushed ∙ ap (λ own. rest ++ named_on dim side own) (sym same_diagram)

    still : (own : ℕ) → Among found ahead own → Among later further own
    still own (inl in_found) = inl (subst (λ cells. Contains cells own) (sym added) (Contains-append_left found (cell ∷ []) own in_found))
    still own (inr in_ahead) = by (Contains-of_last rest cell own (subst (λ cells. Contains cells own) popped in_ahead))
      where
        by : Contains rest own ⊎ (own ≡ cell) → Among later further own
        by (inl in_rest) = inr (subst (λ cells. Contains cells own) (sym onward) (Contains-append_left rest named own in_rest))
        by (inr is) = inl (subst (λ cells. Contains cells own) (sym added) (subst (Contains (found ++ cell ∷ [])) (sym is) (Contains-last found cell)))

    new_ones : All (Among later further) named
    new_ones = All-each (Contains named) (Among later further) named (λ own has. inr (subst (λ cells. Contains cells own) (sym onward) (Contains-append_right rest named own has))) (All-contains_itself named)

    -- it is new
    pub IsWalked-onward : All (HasCells (length diagrams)) diagrams → IsWalked diagrams dim side kept last later further
    IsWalked-onward good = record {
      found_within = subst (All (λ own. own < length diagrams)) (sym added) (All-push (λ own. own < length diagrams) found cell before.found_within rest_within.1);
      ahead_within =
          subst (All (λ own. own < length diagrams)) (sym onward)
          (All-append (λ own. own < length diagrams) rest named rest_within.0 (named_on-within (length diagrams) dim side (diagram_of diagrams cell) (good cell Open rest_within.1)));
      cells = All-each (Among found ahead) (Among later further) kept still before.cells;
      root = still last before.root;
      closed = λ own in_later. by own (Contains-of_last found cell own (subst (λ cells. Contains cells own) added in_later));
    }
      where
        by : (own : ℕ) → Contains found own ⊎ (own ≡ cell) → All (Among later further) (named_on dim side (diagram_of diagrams own))
        by own (inl in_found) = All-each (Among found ahead) (Among later further) (named_on dim side (diagram_of diagrams own)) still (before.closed own in_found)
        by own (inr is) = subst (λ place. All (Among later further) (named_on dim side (diagram_of diagrams place))) (sym is) new_ones

    pub ahead_of-onward : AreFew later → ahead_of dim side diagrams later further < ahead_of dim side diagrams found ahead
    ahead_of-onward few =
        let most : length later ≤ length diagrams = few (length diagrams) (subst (All (λ own. own < length diagrams)) (sym added) (All-push (λ own. own < length diagrams) found cell before.found_within rest_within.1)) in
        let more : length later ≡ length found + 1 = ap length added ∙ length-append found (cell ∷ []) in
        let grows : length further ≡ length rest + length named = ap length onward ∙ length-append rest named in
        let shrinks : length ahead ≡ length rest + 1 = ap length popped ∙ length-append rest (cell ∷ []) in
        let bound = named-bound dim side diagrams cell rest_within.1 in
        fewer (length diagrams - length later) (length diagrams - length found) (all_named dim side diagrams) (length named) (length rest) (length ahead) (length further)
        (omega (arith, most, more)) bound grows shrinks

  pub ahead_of-again : later ≡ found → ahead_of dim side diagrams later rest < ahead_of dim side diagrams found ahead
  ahead_of-again same =
      let shrinks : length ahead ≡ length rest + 1 = ap length popped ∙ length-append rest (cell ∷ []) in
      subst (λ own. ahead_of dim side diagrams own rest < ahead_of dim side diagrams found ahead) (sym same) (omega (arith, shrinks))

-- ---- the walk ends

pub IsReached-end : (diagrams : List Diagram) (dim : ℕ) (side : Side) (kept : List ℕ) (last : ℕ) (found ahead : List ℕ) → IsWalked diagrams dim side kept last found ahead → length ahead ≡ 0 → IsReached diagrams dim side kept last found
IsReached-end diagrams dim side kept last found ahead walked none = record {
  within = walked.found_within;
  cells = All-each (Among found ahead) (Contains found) kept only walked.cells;
  root = only last walked.root;
  closed = λ cell has. All-each (Among found ahead) (Contains found) (named_on dim side (diagram_of diagrams cell)) only (walked.closed cell has);
}
  where
    only : (cell : ℕ) → Among found ahead cell → Contains found cell
    only cell (inl has) = has
    only cell (inr has) = absurd (omega (arith, has.1, none))
