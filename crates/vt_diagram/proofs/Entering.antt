use Rattle.std.proofs.Common.{◌≡◌, ◌⊎◌, ℕ, zero, suc, ◌+◌, ◌<◌, ◌≤◌, List, [], ◌∷◌, ◌++◌, length, slice_get, Option, Some, None, refl, ap, sym, subst, ◌∙◌, inl, inr, arith}
use Rattle.std.specs.BTreeMap.{BTreeMap, get, is_at, Updates}
use Rattle.std.specs.Map.{lookup}
use Rattle.std.proofs.lemmas.Bool.{cases_lt}
use Rattle.std.proofs.lemmas.List.{length_push}
use Rattle.std.proofs.lemmas.Option.{slice_get_within, same_Some}
use Rattle.vt_diagram.specs.declared.entry.Entry.{Entry}
use Rattle.vt_diagram.specs.declared.entry.Entry.TheVariants.{Leaf, Choice}
use Rattle.vt_diagram.specs.Rights.{fewest_in}
use Rattle.vt_diagram.specs.Tables.{entry_cmp, tree_of, tree_at, IsEntry, IsTable, IsTop, AreFewest, AreEntries, Grows, StandsFor}
use Rattle.vt_diagram.specs.Trees.{Tip, Fork, IsOrdered}
use Rattle.vt_diagram.proofs.Growth.{IsLater, AreLater, tree_at-is, tree_at-kept}
use Rattle.vt_diagram.proofs.Keys.{exact_entry}
use Rattle.vt_diagram.proofs.Maps.{new_or_old, old_stays, none_some}
use Rattle.vt_diagram.proofs.Slices.{slice_get-before, slice_get-last, before_or_last}

-- ---- a table as it stands

IsLater-entry : (bound : ℕ) (entries : List Entry) (id : ℕ) (entry : Entry) → IsEntry bound entries id entry → IsLater id entry
IsLater-entry bound entries id (Leaf value) fits = tt
IsLater-entry bound entries id (Choice dim left right) fits = (fits.left_in, fits.right_in)

module _ (bound : ℕ) (entries : List Entry) (numbers : BTreeMap Entry ℕ) (table : IsTable bound entries numbers) where
  pub later : AreLater entries
  later id entry is = IsLater-entry bound entries id entry (table.sound id entry is)

  pub stands_for : (id : ℕ) (entry : Entry) → slice_get entries id ≡ Some entry → StandsFor entries id entry
  stands_for id entry is = record { within = slice_get_within entries id entry is; is = tree_at-is entries later id ∙ ap (tree_of (tree_at entries)) is }

  pub first_number : 0 < length entries
  first_number = slice_get_within entries 0 (Leaf 0) table.first

  pub first_tree : tree_at entries 0 ≡ Tip 0
  first_tree = (stands_for 0 (Leaf 0) table.first).is

  -- what stands under a number is the top of its diagram
  pub top : (id : ℕ) (entry : Entry) → slice_get entries id ≡ Some entry → IsTop bound entries id entry
  top id entry found = by entry (table.sound id entry found) (stands_for id entry found)
    where
      by : (own : Entry) → IsEntry bound entries id own → StandsFor entries id own → IsTop bound entries id own
      by (Leaf value) fits stands = stands.is
      by (Choice dim left right) fits stands = record {
        is = stands.is;
        left_in = fits.left_in;
        right_in = fits.right_in;
        below = fits.below;
        left_ordered = fits.left_ordered;
        right_ordered = fits.right_ordered;
      }

-- the map with the same keys and values does as well
pub same_map : (bound : ℕ) (entries : List Entry) (numbers after : BTreeMap Entry ℕ) → after.entries ≡ numbers.entries → IsTable bound entries numbers → IsTable bound entries after
same_map bound entries numbers after same table = record {
  first = table.first;
  sound = table.sound;
  known = λ id entry found. table.known id entry (sym (looked entry) ∙ found);
  every = λ id entry is. looked entry ∙ table.every id entry is;
}
  where
    looked : (entry : Entry) → get entry_cmp after entry ≡ get entry_cmp numbers entry
    looked entry = ap (lookup (is_at (entry_cmp entry))) same

-- ---- one entry more

IsEntry-grown : (bound : ℕ) (old new : List Entry) (id : ℕ) (entry : Entry) → Grows old new → id ≤ length old → IsEntry bound old id entry → IsEntry bound new id entry
IsEntry-grown bound old new id (Leaf value) grows le fits = fits
IsEntry-grown bound old new id (Choice dim left right) grows le fits = record {
  left_in = fits.left_in;
  right_in = fits.right_in;
  differ = fits.differ;
  below = fits.below;
  left_ordered = subst (IsOrdered bound (dim + 1)) (sym (grows.kept left (omega (arith, fits.left_in)))) fits.left_ordered;
  right_ordered = subst (IsOrdered bound (dim + 1)) (sym (grows.kept right (omega (arith, fits.right_in)))) fits.right_ordered;
}

module _ (bound : ℕ) (entries : List Entry) (numbers after : BTreeMap Entry ℕ) (entry : Entry) (table : IsTable bound entries numbers) (absent : get entry_cmp numbers entry ≡ None)
    (fits : IsEntry bound entries (length entries) entry) (updates : Updates entry_cmp numbers after entry (Some (length entries))) where
  abbrev longer : List Entry
  longer = entries ++ entry ∷ []

  pub grown : Grows entries longer
  grown = record { more = omega (arith, length_push entries entry); kept = tree_at-kept entries longer (later bound entries numbers table) (slice_get-before entries entry) }

  sound : (id : ℕ) (own : Entry) → slice_get longer id ≡ Some own → IsEntry bound longer id own
  sound id own is = by (before_or_last entries entry id own is)
    where
      by : (slice_get entries id ≡ Some own) ⊎ ((id ≡ length entries) × (entry ≡ own)) → IsEntry bound longer id own
      by (inl before) = IsEntry-grown bound entries longer id own grown (omega (arith, slice_get_within entries id own before)) (table.sound id own before)
      by (inr last) = IsEntry-grown bound entries longer id own grown (omega (arith, last.0))
          (subst (λ place. IsEntry bound entries place own) (sym last.0) (subst (IsEntry bound entries (length entries)) last.1 fits))

  known : (id : ℕ) (own : Entry) → get entry_cmp after own ≡ Some id → slice_get longer id ≡ Some own
  known id own found = by (new_or_old entry_cmp exact_entry numbers after entry (length entries) updates own id found)
    where
      by : ((entry ≡ own) × (length entries ≡ id)) ⊎ (get entry_cmp numbers own ≡ Some id) → slice_get longer id ≡ Some own
      by (inl new) = subst (λ place. slice_get longer place ≡ Some own) new.1 (slice_get-last entries entry ∙ ap Some new.0)
      by (inr old) = let is = table.known id own old in slice_get-before entries entry id (slice_get_within entries id own is) ∙ is

  every : (id : ℕ) (own : Entry) → slice_get longer (suc id) ≡ Some own → get entry_cmp after own ≡ Some (suc id)
  every id own is = by (before_or_last entries entry (suc id) own is)
    where
      by : (slice_get entries (suc id) ≡ Some own) ⊎ ((suc id ≡ length entries) × (entry ≡ own)) → get entry_cmp after own ≡ Some (suc id)
      by (inl before) = old_stays entry_cmp exact_entry numbers after entry (length entries) updates own (suc id) absent (table.every id own before)
      by (inr last) = ap (get entry_cmp after) (sym last.1) ∙ (updates.1 ∙ ap Some (sym last.0))

  pub table_after : IsTable bound longer after
  table_after = record { first = slice_get-before entries entry 0 (first_number bound entries numbers table) ∙ table.first; sound = sound; known = known; every = every }

-- what adding an entry gives
pub record IsEntered (bound : ℕ) (old new : List Entry) (numbers : BTreeMap Entry ℕ) (id : ℕ) (entry : Entry) : Type 0 where
  pub table : IsTable bound new numbers
  pub grows : Grows old new
  pub stands : StandsFor new id entry

pub entered : (bound : ℕ) (entries new : List Entry) (numbers after : BTreeMap Entry ℕ) (id : ℕ) (entry : Entry) → IsTable bound entries numbers → get entry_cmp numbers entry ≡ None
    → IsEntry bound entries (length entries) entry → id ≡ length entries → new ≡ entries ++ entry ∷ [] → Updates entry_cmp numbers after entry (Some id) → IsEntered bound entries new after id entry
entered bound entries new numbers after id entry table absent fits at is updates =
    let now : Updates entry_cmp numbers after entry (Some (length entries)) = subst (λ place. Updates entry_cmp numbers after entry (Some place)) at updates in
    let whole = table_after bound entries numbers after entry table absent fits now in
    let here = stands_for bound (entries ++ entry ∷ []) after whole (length entries) entry (slice_get-last entries entry) in
    subst (λ list. IsEntered bound entries list after id entry) (sym is)
    (subst (λ place. IsEntered bound entries (entries ++ entry ∷ []) after place entry) (sym at)
    record { table = whole; grows = grown bound entries numbers after entry table absent fits now; stands = here })

-- ---- the fewest Rights

tree_of-grown : (bound : ℕ) (old new : List Entry) (entry : Entry) → Grows old new → IsEntry bound old (length old) entry → tree_of (tree_at new) (Some entry) ≡ tree_of (tree_at old) (Some entry)
tree_of-grown bound old new (Leaf value) grows fits = refl
tree_of-grown bound old new (Choice dim left right) grows fits = λ i. Fork dim (grows.kept left fits.left_in i) (grows.kept right fits.right_in i)

pub counted : (bound : ℕ) (old new : List Entry) (numbers : BTreeMap Entry ℕ) (id : ℕ) (entry : Entry) (counts longer : List (Option ℕ)) (count : Option ℕ) → IsEntered bound old new numbers id entry
    → IsEntry bound old (length old) entry → AreFewest old counts → length new ≡ length old + 1 → id ≡ length old → longer ≡ counts ++ count ∷ [] → count ≡ fewest_in (tree_of (tree_at old) (Some entry))
    → AreEntries bound new numbers longer
counted bound old new numbers id entry counts longer count entered fits fewest more at is counted_is = record {
  table = entered.table;
  fewest = subst (AreFewest new) (sym is) (record { long = omega (arith, length_push counts count, fewest.long); each = each });
}
  where
    each : (own : ℕ) → own < length new → slice_get (counts ++ count ∷ []) own ≡ Some (fewest_in (tree_at new own))
    each own within = by (cases_lt own (length old))
      where
        by : (own < length old) ⊎ (length old ≤ own) → slice_get (counts ++ count ∷ []) own ≡ Some (fewest_in (tree_at new own))
        by (inl before) = slice_get-before counts count own (omega (arith, fewest.long)) ∙ fewest.each own before ∙ ap (λ tree. Some (fewest_in tree)) (sym (entered.grows.kept own before))
        by (inr behind) =
            let last : own ≡ length counts = omega (arith, fewest.long) in
            let here : id ≡ own = omega arith in
            ap (slice_get (counts ++ count ∷ [])) last ∙ slice_get-last counts count
            ∙ ap Some (counted_is ∙ ap fewest_in (sym (tree_of-grown bound old new entry entered.grows fits) ∙ sym entered.stands.is ∙ ap (tree_at new) here))

pub fewest_at : (bound : ℕ) (entries : List Entry) (numbers : BTreeMap Entry ℕ) (counts : List (Option ℕ)) → AreEntries bound entries numbers counts → (id : ℕ) (found : Option ℕ) → id < length entries
    → slice_get counts id ≡ Some found → found ≡ fewest_in (tree_at entries id)
fewest_at bound entries numbers counts held id found within is = same_Some found (fewest_in (tree_at entries id)) (sym is ∙ held.fewest.each id within)

-- ---- the table that has the value 0 alone

module _ (bound : ℕ) (numbers : BTreeMap Entry ℕ) (empty : numbers.entries ≡ []) where
  new_table : IsTable bound (Leaf 0 ∷ []) numbers
  new_table = record { first = refl; sound = sound; known = known; every = λ id entry is. absurd (none_some entry is) }
    where
      sound : (id : ℕ) (entry : Entry) → slice_get (Leaf 0 ∷ []) id ≡ Some entry → IsEntry bound (Leaf 0 ∷ []) id entry
      sound zero entry is = subst (IsEntry bound (Leaf 0 ∷ []) 0) (same_Some (Leaf 0) entry is) (λ zero. refl)
      sound (suc id) entry is = absurd (none_some entry is)

      known : (id : ℕ) (entry : Entry) → get entry_cmp numbers entry ≡ Some id → slice_get (Leaf 0 ∷ []) id ≡ Some entry
      known id entry found = absurd (none_some id (sym (ap (lookup (is_at (entry_cmp entry))) empty) ∙ found))

  new_entries : AreEntries bound (Leaf 0 ∷ []) numbers (None ∷ [])
  new_entries = record { table = new_table; fewest = record { long = refl; each = each } }
    where
      each : (id : ℕ) → id < 1 → slice_get (None ∷ []) id ≡ Some (fewest_in (tree_at (Leaf 0 ∷ []) id))
      each zero within = ap (λ tree. Some (fewest_in tree)) (sym (first_tree bound (Leaf 0 ∷ []) numbers new_table))
      each (suc id) within = absurd (omega arith)

  pub new_is : (items : List Entry) (counts : List (Option ℕ)) → items ≡ [] → counts ≡ [] → AreEntries bound (Leaf 0 ∷ items) numbers (None ∷ counts)
  new_is items counts e f = rw (e, f) new_entries
