use Rattle.std.proofs.Common.{◌≡◌, ℕ, zero, suc, ◌+◌, ◌<◌, Bool, true, false, not, ◌&&◌, ◌||◌, List, [], ◌∷◌, ◌++◌, map, length, take, get_or, slice_get, Option, Some, None, refl, sym, ap, subst, ◌∙◌, true≢false, ◌≤◌, lit≤, rules, arith}
use Rattle.std.proofs.Math.Bool.{or-true}
use Rattle.std.proofs.lemmas.Slice.Eq.{bytes_eq-Decides}
use Rattle.std.proofs.lemmas.List.{map-append, take_more}
use Rattle.std.specs.Str.{bytes_eq}
use Rattle.vt_type.specs.declared.plain.Plain.{Plain}
use Rattle.std.proofs.lemmas.Option.{slice_get-map, slice_get_read, slice_get_within, get_or_from_slice_get, same_Some, none-some}
use Rattle.std.specs.Option.{option_map}
use Rattle.vt_type.specs.declared.constants.Entry.{Entry}
use Rattle.vt_type.specs.Plain.{IsWellFormed}
use Rattle.vt_type.specs.Canonical.{IsCanonical}
use Rattle.vt_type.specs.Constants.{Constant, IsTable, core_constants}
use Rattle.vt_type.specs.Entries.{constant_of}

module _ (entries : List Entry) (id : ℕ) (entry : Entry) (within : id < length entries) (is : entry ≡ get_or entries id entry) where
  -- the constant at the number of an entry
  constant_at : slice_get (map constant_of entries) id ≡ Some (constant_of entry)
  constant_at = slice_get-map constant_of entries id ∙ ap (option_map constant_of) (slice_get_read entries (length entries) id entry refl within is)

  -- what is seen of it
  pub seen_at : {B : Type 0} (seen : Constant → B) → slice_get (map seen (map constant_of entries)) id ≡ Some (seen (constant_of entry))
  seen_at seen = slice_get-map seen (map constant_of entries) id ∙ ap (option_map seen) constant_at

  -- its type
  pub typed_at : IsTable (map constant_of entries) → IsWellFormed entry.closed × IsCanonical entry.closed
  typed_at table =
      subst (λ c. IsWellFormed c.closed × IsCanonical c.closed) (get_or_from_slice_get (map constant_of entries) id (constant_of entry) (constant_of entry) constant_at)
      (table.types id (constant_of entry) (slice_get_within (map constant_of entries) id (constant_of entry) constant_at))

-- a constant by its two parts
pub both_seen : (table : List Constant) (id : ℕ) (name : Option (List ℕ)) (closed : Plain) → slice_get (map (λ c. c.name) table) id ≡ Some name → slice_get (map (λ c. c.closed) table) id ≡ Some closed
    → slice_get table id ≡ Some (record { name = name; closed = closed })
both_seen table id name closed e f = by (slice_get table id) (sym (slice_get-map (λ c. c.name) table id) ∙ e) (sym (slice_get-map (λ c. c.closed) table id) ∙ f)
  where
    by : (found : Option Constant) → option_map (λ c. c.name) found ≡ Some name → option_map (λ c. c.closed) found ≡ Some closed → found ≡ Some (record { name = name; closed = closed })
    by (Some c) e f = let g = same_Some _ _ e in let h = same_Some _ _ f in λ j. Some (record { name = g j; closed = h j })
    by None e f = absurd (none-some name e)

-- one more entry
pub one_more : (table : List Constant) (entries : List Entry) (entry : Entry) (id : ℕ) → map constant_of entries ≡ take id table → slice_get table id ≡ Some (constant_of entry) → map constant_of (entries ++ entry ∷ []) ≡ take (id + 1) table
one_more table entries entry id so_far next =
    map-append constant_of entries (entry ∷ []) ∙ (λ j. so_far j ++ sym (get_or_from_slice_get table id (constant_of entry) (constant_of entry) next) j ∷ [])
    ∙ sym (take_more table id (constant_of entry) (slice_get_within table id (constant_of entry) next))

-- the names of a table, each written once
abbrev written : List ℕ → List (Option (List ℕ)) → Bool
written name [] = false
written name (None ∷ names) = written name names
written name (Some own ∷ names) = bytes_eq name own || written name names

abbrev each_once : List (Option (List ℕ)) → Bool
each_once [] = true
each_once (None ∷ names) = each_once names
each_once (Some name ∷ names) = not (written name names) && each_once names

written_at : (names : List (Option (List ℕ))) (id : ℕ) (name : List ℕ) → slice_get names id ≡ Some (Some name) → written name names ≡ true
written_at [] id name e = absurd (none-some (Some name) e)
written_at (None ∷ names) zero name e = absurd (none-some name (same_Some None (Some name) e))
written_at (None ∷ names) (suc id) name e = written_at names id name e
written_at (Some own ∷ names) zero name e =
    ap (λ b. b || written name names) ((bytes_eq-Decides name own).1 (sym (same_Some own name (same_Some (Some own) (Some name) e))))
written_at (Some own ∷ names) (suc id) name e = ap (λ b. bytes_eq name own || b) (written_at names id name e) ∙ or-true (bytes_eq name own)

first_once : (own : List ℕ) (names : List (Option (List ℕ))) → each_once (Some own ∷ names) ≡ true → (written own names ≡ true → ⊥) × (each_once names ≡ true)
first_once own names h = by (written own names) h
  where
    by : (b : Bool) → (not b && each_once names) ≡ true → (b ≡ true → ⊥) × (each_once names ≡ true)
    by true h = absurd (true≢false (sym h))
    by false h = (λ e. true≢false (sym e), h)

once_at : (names : List (Option (List ℕ))) → each_once names ≡ true → (one other : ℕ) (name : List ℕ) → slice_get names one ≡ Some (Some name) → slice_get names other ≡ Some (Some name) → one ≡ other
once_at [] h one other name e f = absurd (none-some (Some name) e)
once_at (None ∷ names) h zero other name e f = absurd (none-some name (same_Some None (Some name) e))
once_at (None ∷ names) h (suc one) zero name e f = absurd (none-some name (same_Some None (Some name) f))
once_at (None ∷ names) h (suc one) (suc other) name e f = ap suc (once_at names h one other name e f)
once_at (Some own ∷ names) h zero zero name e f = refl
once_at (Some own ∷ names) h zero (suc other) name e f =
    absurd ((first_once own names h).0 (written_at names other own (f ∙ sym e)))
once_at (Some own ∷ names) h (suc one) zero name e f =
    absurd ((first_once own names h).0 (written_at names one own (e ∙ sym f)))
once_at (Some own ∷ names) h (suc one) (suc other) name e f = ap suc (once_at names (first_once own names h).1 one other name e f)

-- the table of the language
pub core_is_table : IsTable core_constants
core_is_table = record {
  names_differ = once_at (map (λ c. c.name) core_constants) refl;
  types = search rules;
  numbered = lit≤ tt;
}

-- the whole of it
pub whole_core : (id : ℕ) → 18 ≤ id → id ≤ 18 → take id core_constants ≡ core_constants
whole_core id low high = let e : id ≡ 18 = omega arith in ap (λ n. take n core_constants) e
