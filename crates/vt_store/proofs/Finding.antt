use Rattle.std.proofs.Common.{◌≡◌, ◌≢◌, ◌⊎◌, ℕ, ◌<◌, ◌≤◌, List, [], ◌∷◌, ◌++◌, length, map, get_or, Some, slice_get, refl, ap, sym, subst, ◌∙◌, inl, inr, arith, true≢false, nat_eq, Bool, true, false, not, if◌then◌else◌}
use Rattle.std.specs.List.{All, IsDistinct, list_any}
use Rattle.std.proofs.lemmas.Bool.{cases_eq, eqb-true, eq-eqb}
use Rattle.std.proofs.lemmas.List.{map-append, length-map, length_push, get_or_append_left, get_or_read}
use Rattle.std.proofs.lemmas.Option.{slice_get_within, get_or_from_slice_get}
use Rattle.std.proofs.lemmas.List.Elements.{All-nil, All-push, All-contains, All-pop}
use Rattle.std.proofs.lemmas.Map.Keys.{apart_from_distinct}
use Rattle.std.proofs.lemmas.Map.Steps.{length-le_from_distinct_below}
use Rattle.std.specs.Cmp.{nat_eq_equiv}
use Rattle.std.proofs.lemmas.Map.Views.{list_any-from_Contains}
use Rattle.indexmap.specs.IndexSet.{insert_key}
use Rattle.indexmap.proofs.CallerLemmas.{Contains-list_any}
use Rattle.vt_type.specs.declared.head.Head.{Head}
use Rattle.vt_store.specs.declared.diagram.Diagram.{Diagram, Open, Link, Con, Choice}
use Rattle.vt_store.specs.Diagrams.{choice, HasCells, mapped}
use Rattle.vt_store.specs.Parts.{AreDistinct, AreFew, IsLater, IsFound, AreMoved, IsMoved, AreCopied}
use Rattle.vt_store.specs.Narrowing.{IsWhether, IsAdded}
use Rattle.vt_store.proofs.Cells.{All-head, All-tail, All-each}
use Rattle.vt_store.proofs.Writing.{le_or_lt}
use Rattle.vt_store.proofs.StoreSteps.{HasCells-more}
use Rattle.vt_store.proofs.DiagramShapes.{diagram_here, cells_parts}

-- Cells by their places among those that were found.

-- ---- no cell stands at two places

pub AreDistinct-keys : (found : List ℕ) → IsDistinct nat_eq found → AreDistinct found
AreDistinct-keys found distinct one other within below same = by (cases_eq one other) (le_or_lt one other)
  where
    apart : (i j : ℕ) → i < j → j < length found → get_or found i 0 ≡ get_or found j 0 → ⊥
    apart i j lt inside e = true≢false (sym (eq-eqb _ _ e) ∙ apart_from_distinct nat_eq found i j 0 distinct lt inside)

    by : (one ≡ other) ⊎ (one ≡ other → ⊥) → (one ≤ other) ⊎ (other < one) → one ≡ other
    by (inl e) order = e
    by (inr differ) (inl le) = let apart_both : one ≢ other = differ in absurd (apart one other (omega arith) below same)
    by (inr differ) (inr lt) = absurd (apart other one lt within (sym same))

pub AreFew-keys : (found : List ℕ) → IsDistinct nat_eq found → AreFew found
AreFew-keys found distinct count below =
    length-le_from_distinct_below found count distinct
    (λ cell among. All-contains (λ own. own < count) found cell below (Contains-list_any nat_eq eqb-true found cell among))

-- ---- whether a cell was found

pub IsWhether-any : (found : List ℕ) (cell : ℕ) → IsWhether found cell (list_any (nat_eq cell) found)
IsWhether-any found cell = by (list_any (nat_eq cell) found) refl
  where
    by : (is : Bool) → list_any (nat_eq cell) found ≡ is → IsWhether found cell is
    by true e = Contains-list_any nat_eq eqb-true found cell e
    by false e = λ has. true≢false (sym (list_any-from_Contains nat_eq_equiv cell found has) ∙ e)

pub IsAdded-key : (found : List ℕ) (cell : ℕ) → IsAdded found (insert_key nat_eq found cell) cell (not (list_any (nat_eq cell) found))
IsAdded-key found cell = by (list_any (nat_eq cell) found) (IsWhether-any found cell)
  where
    by : (is : Bool) → IsWhether found cell is → IsAdded found (if is then found else found ++ cell ∷ []) cell (not is)
    by true has = (refl, has)
    by false has = refl

-- ---- more cells are found

pub IsLater-both : (old mid new : List ℕ) → IsLater old mid → IsLater mid new → IsLater old new
IsLater-both old mid new first second = record {
  longer = omega (arith, first.longer, second.longer);
  kept = λ place within. second.kept place (omega (arith, first.longer)) ∙ first.kept place within;
}

-- what was placed stays where it is
pub map-kept : (old new places : List ℕ) → IsLater old new → All (λ place. place < length old) places → map (λ place. get_or new place 0) places ≡ map (λ place. get_or old place 0) places
map-kept old new [] later h = refl
map-kept old new (place ∷ places) later h =
    let here = later.kept place (All-head (λ own. own < length old) place places h) in
    let rest = map-kept old new places later (All-tail (λ own. own < length old) place places h) in
    λ i. here i ∷ rest i

mapped-kept : (old new : List ℕ) (diagram : Diagram) → IsLater old new → HasCells (length old) diagram → mapped (λ place. get_or new place 0) diagram ≡ mapped (λ place. get_or old place 0) diagram
mapped-kept old new Open later h = refl
mapped-kept old new (Link cell) later h = ap Link (later.kept cell h)
mapped-kept old new (Con head kids) later h = ap (Con head) (map-kept old new kids later h.1)
mapped-kept old new (choice dim left right) later h =
    let l = mapped-kept old new left later h.0 in
    let r = mapped-kept old new right later h.1 in
    λ i. choice dim (l i) (r i)

pub AreMoved-one : (old mid new cells places : List ℕ) (cell place : ℕ) → AreMoved old mid cells places → IsFound mid new cell place → AreMoved old new (cells ++ cell ∷ []) (places ++ place ∷ [])
AreMoved-one old mid new cells places cell place before found = record {
  later = IsLater-both old mid new before.later found.later;
  same =
      map-append (λ own. get_or new own 0) places (place ∷ [])
      ∙ (let earlier = map-kept mid new places found.later before.placed ∙ before.same in λ i. earlier i ++ (found.same i ∷ []));
  placed =
      All-push (λ own. own < length new) places place
      (All-each (λ own. own < length mid) (λ own. own < length new) places (λ own lt. omega (arith, found.later.longer)) before.placed) found.placed;
  within = λ count all h.
      (let parts = All-pop (λ own. own < count) (cells ++ cell ∷ []) cells (Some cell) refl all in
      found.within count parts.1 (before.within count parts.0 h));
}

-- ---- a diagram is moved

pub IsMoved-choice : (count : ℕ) (old mid new : List ℕ) (dim : ℕ) (diagram left right lefts rights made : Diagram)
    → diagram ≡ Choice dim left right → made ≡ choice dim lefts rights → HasCells count diagram
    → (HasCells count left → IsMoved count old mid left lefts) → (HasCells count right → IsMoved count mid new right rights) → IsMoved count old new diagram made
IsMoved-choice count old mid new dim diagram left right lefts rights made is e cells first second =
    let parts = cells_parts count dim diagram left right is cells in
    let l = first parts.0 in
    let r = second parts.1 in
    record {
      later = IsLater-both old mid new l.later r.later;
      same =
          ap (mapped (λ place. get_or new place 0)) e
          ∙ (let earlier = mapped-kept mid new lefts r.later l.placed ∙ l.same in λ i. choice dim (earlier i) (r.same i))
          ∙ sym (is ∙ diagram_here dim left right);
      placed = subst (HasCells (length new)) (sym e) (HasCells-more (length mid) (length new) lefts r.later.longer l.placed, r.placed);
      within = λ h. r.within (l.within h);
    }

-- ---- the diagrams of what was found

pub get_or-push : (copies : List Diagram) (copy d : Diagram) → get_or (copies ++ copy ∷ []) (length copies) d ≡ copy
get_or-push [] copy d = refl
get_or-push (first ∷ copies) copy d = get_or-push copies copy d

pub AreCopied-one : (diagrams : List Diagram) (mid new : List ℕ) (copies : List Diagram) (from copy : Diagram)
    → length copies < length mid → from ≡ get_or diagrams (get_or mid (length copies) 0) Open
    → AreCopied diagrams mid copies → IsMoved (length diagrams) mid new from copy → AreCopied diagrams new (copies ++ copy ∷ [])
AreCopied-one diagrams mid new copies from copy room read before moved = record {
  few = omega (arith, length_push copies copy, moved.later.longer);
  within = moved.within before.within;
  same = λ place h. by place (le_or_lt (length copies) place) (omega (arith, length_push copies copy));
  placed =
      All-push (HasCells (length new)) copies copy
      (All-each (HasCells (length mid)) (HasCells (length new)) copies (λ own. HasCells-more (length mid) (length new) own moved.later.longer) before.placed) moved.placed;
}
  where
    by : (place : ℕ) → (length copies ≤ place) ⊎ (place < length copies) → place ≤ length copies
        → mapped (λ own. get_or new own 0) (get_or (copies ++ copy ∷ []) place Open) ≡ get_or diagrams (get_or new place 0) Open
    by place (inr lt) le =
        ap (mapped (λ own. get_or new own 0)) (get_or_append_left copies (copy ∷ []) Open place lt)
        ∙ mapped-kept mid new (get_or copies place Open) moved.later (before.placed place Open lt)
        ∙ before.same place lt
        ∙ ap (λ own. get_or diagrams own Open) (sym (moved.later.kept place (omega (arith, before.few))))
    by place (inl ge) le =
        let last : place ≡ length copies = omega arith in
        ap (mapped (λ own. get_or new own 0)) (ap (λ own. get_or (copies ++ copy ∷ []) own Open) last ∙ get_or-push copies copy Open)
        ∙ moved.same ∙ read
        ∙ ap (λ own. get_or diagrams own Open) (sym (ap (λ own. get_or new own 0) last ∙ moved.later.kept (length copies) room))

-- the next cell that was found has its diagram moved
pub AreCopied-next : (diagrams : List Diagram) (mid new : List ℕ) (copies later : List Diagram) (from copy : Diagram) (cell place : ℕ)
    → place ≡ length copies → place < length mid → cell ≡ get_or mid place 0 → from ≡ get_or diagrams cell from → later ≡ copies ++ copy ∷ []
    → All (HasCells (length diagrams)) diagrams → AreCopied diagrams mid copies → ((count : ℕ) → HasCells count from → IsMoved count mid new from copy)
    → IsLater mid new × AreCopied diagrams new later
AreCopied-next diagrams mid new copies later from copy cell place last room at read pushed cells before moves =
    let within : cell < length diagrams = subst (λ own. own < length diagrams) (sym at) (before.within place 0 room) in
    let here = get_or_read diagrams cell from within read Open in
    let moved = moves (length diagrams) (subst (HasCells (length diagrams)) (sym here) (cells cell Open within)) in (
      moved.later,
      subst (AreCopied diagrams new) (sym pushed)
          (AreCopied-one diagrams mid new copies from copy (subst (λ own. own < length mid) last room) (here ∙ ap (λ own. get_or diagrams own Open) (at ∙ ap (λ own. get_or mid own 0) last)) before moved),
    )

-- what a set answers for a place
pub found_at : (keys : List ℕ) (place cell : ℕ) → Some cell ≡ slice_get keys place → (place < length keys) × (cell ≡ get_or keys place 0)
found_at keys place cell e = (slice_get_within keys place cell (sym e), sym (get_or_from_slice_get keys place cell 0 (sym e)))

-- what holds of all that were found and of one more
pub All-added : (P : ℕ → Type 0) (old new : List ℕ) (cell : ℕ) (is : Bool) → IsAdded old new cell is → All P old → P cell → All P new
All-added P old new cell true added h one = subst (All P) (sym added) (All-push P old cell h one)
All-added P old new cell false added h one = subst (All P) (sym added.0) h
