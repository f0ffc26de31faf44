use Rattle.std.proofs.Common.{◌≡◌, inl, inr, ℕ, ◌+◌, ◌<◌, ◌≤◌, List, [], ◌∷◌, ◌++◌, length, map, Some, slice_get, get_or, refl, ap, sym, subst, ◌∙◌, arith}
use Rattle.std.specs.List.{All, Contains}
use Rattle.std.specs.List.Sorted.{IsPermutation}
use Rattle.std.specs.Prelude.{AllPairs}
use Rattle.std.proofs.lemmas.Bool.{cases_eq}
use Rattle.std.proofs.lemmas.List.{map-append}
use Rattle.std.proofs.lemmas.List.Elements.{All-push, Contains-append_left, Contains-push}
use Rattle.std.proofs.lemmas.List.Quantifiers.{all_pairs_push}
use Rattle.std.specs.List.{swap}
use Rattle.std.proofs.lemmas.List.Edits.{length-swap, swapped_from_swap}
use Rattle.std.proofs.lemmas.List.Sorted.{All-permutation, Contains-permutation, IsPermutation-map, IsPermutation-keeps}
use Rattle.vt_store.proofs.Writing.{le_or_lt}
use Rattle.std.proofs.lemmas.Option.{same_Some, slice_get-get_or, slice_get_within}
use Rattle.vt_syntax.specs.declared.core_expr.Core.{Core}
use Rattle.vt_syntax.specs.declared.leaf.Leaf.{Leaf}
use Rattle.vt_type.specs.declared.change.ChangeLine.{ChangeLine}
use Rattle.vt_type.specs.Constants.{Constant}
use Rattle.vt_type.specs.Plain.{plain_nodes}
use Rattle.vt_rules.specs.Changes.{without, Cures, IsChangeOf, ComesBefore, IsChanges}
use Rattle.vt_rules.specs.Env.{Empty}
use Rattle.vt_rules.proofs.Marking.{unmarked}
use Rattle.vt_rules.proofs.PrincipalForms.{one_principal_pair}
use Rattle.vt_rules.proofs.Shapes.{pair_parts}
use Rattle.vt_change.specs.Curing.{IsSmall, AreFormed, IsTooBig}
use Rattle.vt_change.specs.Listed.{IsFirstTooBig, AreListed}
use Rattle.vt_change.specs.Ranking.{AreRanked, CanBeCounted}

-- The changes of leaves, from one leaf to the next.

-- a line is the change of the leaf that it names
abbrev IsLineOfSome : List Constant → Core → List Leaf → ChangeLine → Type 0
IsLineOfSome K program leaves line = (leaf : Leaf) × (slice_get leaves line.leaf ≡ Some leaf) × IsChangeOf K program leaf line

module _ (K : List Constant) (program : Core) (leaves : List Leaf) where
  module _ (count : ℕ) (one : Leaf) (listed : slice_get leaves count ≡ Some one) where
    -- the one leaf that is new
    last : (number : ℕ) (leaf : Leaf) → number ≡ count → slice_get leaves number ≡ Some leaf → one ≡ leaf
    last number leaf same is = same_Some one leaf (sym listed ∙ ap (slice_get leaves) (sym same) ∙ is)

    -- a leaf that does not cure
    pub listed-skip : (lines : List ChangeLine) → (Cures K program one → ⊥) → AreListed K program leaves count lines → AreListed K program leaves (count + 1) lines
    listed-skip lines not h = record {
      lines_are = h.lines_are;
      complete = λ number leaf less is cures. elim (cases_eq number count) [
        | inl same ↦ absurd (not (subst (Cures K program) (sym (last number leaf same is)) cures))
        | inr differ ↦ h.complete number leaf (omega (arith, less, differ)) is cures
      ];
      below = λ i d within. let less = h.below i d within in omega arith;
      rise = h.rise;
      small = h.small;
      formed = h.formed;
      none_too_big = λ number leaf less is big. elim (cases_eq number count) [
        | inl same ↦ absurd (not (cures_of (subst (IsTooBig K program) (sym (last number leaf same is)) big)))
        | inr differ ↦ h.none_too_big number leaf (omega (arith, less, differ)) is big
      ];
    }
      where
        cures_of : IsTooBig K program one → Cures K program one
        cures_of (line, change, _) = (line.result, unmarked K one.node Empty (without one program) line.result line.wanted change.principal.typed)

    -- one that does
    pub listed-push : (lines : List ChangeLine) (line : ChangeLine) → line.leaf ≡ count → IsChangeOf K program one line → IsSmall line → AreFormed line → AreListed K program leaves count lines
        → AreListed K program leaves (count + 1) (lines ++ line ∷ [])
    listed-push lines line leaf_is change small formed h = record {
      lines_are = All-push (IsLineOfSome K program leaves) lines line h.lines_are (one, ap (slice_get leaves) leaf_is ∙ listed, change);
      complete = λ number leaf less is cures. elim (cases_eq number count) [
        | inl same ↦ subst (λ list. Contains list number) (sym (map-append (λ (l : ChangeLine). l.leaf) lines (line ∷ [])))
            (subst (λ n. Contains (map (λ (l : ChangeLine). l.leaf) lines ++ line.leaf ∷ []) n) (leaf_is ∙ sym same) (Contains-push (map (λ (l : ChangeLine). l.leaf) lines) line.leaf))
        | inr differ ↦ subst (λ list. Contains list number) (sym (map-append (λ (l : ChangeLine). l.leaf) lines (line ∷ [])))
            (Contains-append_left (map (λ (l : ChangeLine). l.leaf) lines) (line.leaf ∷ []) number (h.complete number leaf (omega (arith, less, differ)) is cures))
      ];
      below = All-push (λ (l : ChangeLine). l.leaf < count + 1) lines line (λ i d within. let less = h.below i d within in omega arith) (omega (arith, leaf_is));
      rise = all_pairs_push (λ (a b : ChangeLine). a.leaf < b.leaf) lines line h.rise (λ i d within. let less = h.below i d within in omega (arith, leaf_is));
      small = All-push IsSmall lines line h.small small;
      formed = All-push AreFormed lines line h.formed formed;
      none_too_big = λ number leaf less is big. elim (cases_eq number count) [
        | inl same ↦ not_big (subst (IsTooBig K program) (sym (last number leaf same is)) big)
        | inr differ ↦ h.none_too_big number leaf (omega (arith, less, differ)) is big
      ];
    }
      where
        not_big : IsTooBig K program one → ⊥
        not_big (other, is, big) =
            let types = sym change.canonical ∙ one_principal_pair K one.node _ line.wanted line.result other.wanted other.result change.principal is.principal ∙ is.canonical in
            let (wanted, result) = pair_parts line.wanted line.result other.wanted other.result types in
            let one_small = subst (λ t. plain_nodes t ≤ 4096) wanted small.0 in
            let other_small = subst (λ t. plain_nodes t ≤ 4096) result small.1 in
            elim big [
              | inl more ↦ omega (arith, more, one_small)
              | inr more ↦ omega (arith, more, other_small)
            ]

  -- a leaf whose change is too big
  pub first_too_big : (number : ℕ) (lines : List ChangeLine) (one : Leaf) → slice_get leaves number ≡ Some one → IsTooBig K program one → AreListed K program leaves number lines → IsFirstTooBig K program leaves number
  first_too_big number lines one listed big h = record { leaf = one; found = listed; too_big = big; first = h.none_too_big }

-- a leaf that is at a place of a list
pub some-leaf : (leaves : List Leaf) (number : ℕ) → number < length leaves → (one : Leaf) × (slice_get leaves number ≡ Some one)
some-leaf leaves number less = (get_or leaves number (record { span = record { start = 0; end = 0 }; class = 0; node = 0 }), slice_get-get_or leaves number (record { span = record { start = 0; end = 0 }; class = 0; node = 0 }) less)

-- The order of changes whose leaves differ.

-- the leaves of a list of changes are different
abbrev AreApart : List ChangeLine → Type 0
AreApart lines = (i j : ℕ) (d : ChangeLine) → i < length lines → j < length lines → (get_or lines i d).leaf ≡ (get_or lines j d).leaf → i ≡ j

rising-apart : (lines : List ChangeLine) → AllPairs (λ (one other : ChangeLine). one.leaf < other.leaf) lines → AreApart lines
rising-apart lines rise i j d i_within j_within same = elim (cases_eq i j) [
  | inl equal ↦ equal
  | inr differ ↦ elim (le_or_lt i j) [
    | inl le ↦ (let less = rise i j d (omega (arith, le, differ)) j_within in absurd (omega (arith, less, same)))
    | inr more ↦ (let less = rise j i d more i_within in absurd (omega (arith, less, same)))
  ]
]

module _ (lines swapped : List ChangeLine) (a b : ℕ) (a_within : a < length lines) (b_within : b < length lines) (is : swapped ≡ swap lines a b) (apart : AreApart lines) where
  -- where an item comes from
  from : (d : ChangeLine) (i : ℕ) → i < length lines
      → (k : ℕ) × (k < length lines) × (get_or swapped i d ≡ get_or lines k d) × (i ≡ a → k ≡ b) × (i ≡ b → k ≡ a) × ((i ≡ a → ⊥) → (i ≡ b → ⊥) → k ≡ i)
  from d i within =
      let (at_a, at_b, other) = swapped_from_swap lines swapped a b d a_within b_within is in
      elim (cases_eq i a) [
        | inl here ↦ (b, b_within, ap (λ n. get_or swapped n d) here ∙ at_a, (λ _. refl), (λ there. sym there ∙ here), (λ not _. absurd (not here)))
        | inr not_a ↦ elim (cases_eq i b) [
          | inl there ↦ (a, a_within, ap (λ n. get_or swapped n d) there ∙ at_b, (λ here. absurd (not_a here)), (λ _. refl), (λ _ not. absurd (not there)))
          | inr not_b ↦ (i, within, other i not_a not_b, (λ here. absurd (not_a here)), (λ there. absurd (not_b there)), (λ _ _. refl))
        ]
      ]

  -- two places that come from one are one
  one_place : (i j k : ℕ) → (i ≡ a → k ≡ b) → (i ≡ b → k ≡ a) → ((i ≡ a → ⊥) → (i ≡ b → ⊥) → k ≡ i)
      → (j ≡ a → k ≡ b) → (j ≡ b → k ≡ a) → ((j ≡ a → ⊥) → (j ≡ b → ⊥) → k ≡ j) → i ≡ j
  one_place i j k ia ib io ja jb jo = elim (cases_eq i a) [
    | inl i_a ↦ elim (cases_eq j a) [
      | inl j_a ↦ i_a ∙ sym j_a
      | inr j_not_a ↦ elim (cases_eq j b) [
        | inl j_b ↦ i_a ∙ sym (jb j_b) ∙ ia i_a ∙ sym j_b
        | inr j_not_b ↦ absurd (j_not_b (sym (jo j_not_a j_not_b) ∙ ia i_a))
      ]
    ]
    | inr i_not_a ↦ elim (cases_eq i b) [
      | inl i_b ↦ elim (cases_eq j a) [
        | inl j_a ↦ i_b ∙ sym (ja j_a) ∙ ib i_b ∙ sym j_a
        | inr j_not_a ↦ elim (cases_eq j b) [
          | inl j_b ↦ i_b ∙ sym j_b
          | inr j_not_b ↦ absurd (j_not_a (sym (jo j_not_a j_not_b) ∙ ib i_b))
        ]
      ]
      | inr i_not_b ↦ elim (cases_eq j a) [
        | inl j_a ↦ absurd (i_not_b (sym (io i_not_a i_not_b) ∙ ja j_a))
        | inr j_not_a ↦ elim (cases_eq j b) [
          | inl j_b ↦ absurd (i_not_a (sym (io i_not_a i_not_b) ∙ jb j_b))
          | inr j_not_b ↦ sym (io i_not_a i_not_b) ∙ jo j_not_a j_not_b
        ]
      ]
    ]
  ]

  swapped-apart : AreApart swapped
  swapped-apart i j d i_within j_within same =
      let long : length swapped ≡ length lines = ap length is ∙ length-swap lines a b in
      let (k, k_within, k_is, ka, kb, ko) = from d i (omega (arith, i_within, long)) in
      let (l, l_within, l_is, la, lb, lo) = from d j (omega (arith, j_within, long)) in
      let equal : k ≡ l = apart k l d k_within l_within (sym (ap (λ (line : ChangeLine). line.leaf) k_is) ∙ same ∙ ap (λ (line : ChangeLine). line.leaf) l_is) in
      one_place i j k ka kb ko (λ h. equal ∙ la h) (λ h. equal ∙ lb h) (λ f g. equal ∙ lo f g)

permuted-apart : (lines others : List ChangeLine) → IsPermutation lines others → AreApart lines → AreApart others
permuted-apart lines others permutation apart =
    IsPermutation-keeps lines AreApart apart (λ list a b a_within b_within h. swapped-apart list (swap list a b) a b a_within b_within refl h) others permutation

-- of two changes with different leaves one comes before the other
ordered : (one other : ChangeLine) → (one.leaf ≡ other.leaf → ⊥) → (ComesBefore other one → ⊥) → ComesBefore one other
ordered one other differ not = elim (cases_eq one.class other.class) [
  | inr apart ↦ elim (le_or_lt one.class other.class) [
    | inl le ↦ inl (omega (arith, le, apart))
    | inr more ↦ absurd (not (inl more))
  ]
  | inl class ↦ inr (
    class,
    (elim (cases_eq (plain_nodes one.wanted) (plain_nodes other.wanted)) [
      | inr apart ↦ elim (le_or_lt (plain_nodes one.wanted) (plain_nodes other.wanted)) [
        | inl le ↦ inl (omega (arith, le, apart))
        | inr more ↦ absurd (not (inr (sym class, inl more)))
      ]
      | inl nodes ↦ elim (le_or_lt one.leaf other.leaf) [
        | inl le ↦ inr (nodes, omega (arith, le, differ))
        | inr more ↦ absurd (not (inr (sym class, inr (sym nodes, more))))
      ]
    ]),
  )
]

-- the changes of all leaves that cure, once they are in order
pub listed-ranked : (K : List Constant) (program : Core) (leaves : List Leaf) (lines others : List ChangeLine) → AreListed K program leaves (length leaves) lines → IsPermutation lines others → AreRanked others
    → IsChanges K program leaves others
listed-ranked K program leaves lines others h permutation ranked = record {
  lines_are = All-permutation (IsLineOfSome K program leaves) lines others permutation h.lines_are;
  complete = λ number leaf is cures.
      Contains-permutation (map (λ (l : ChangeLine). l.leaf) lines) (map (λ (l : ChangeLine). l.leaf) others) number (IsPermutation-map (λ (l : ChangeLine). l.leaf) lines others permutation)
      (h.complete number leaf (slice_get_within leaves number leaf is) is cures);
  in_order = λ i j d below within.
      ordered (get_or others i d) (get_or others j d)
      (λ same. let equal = permuted-apart lines others permutation (rising-apart lines h.rise) i j d (omega (arith, below, within)) within same in omega (arith, below, equal))
      (ranked i j d below within);
}

-- the types of changes that are listed have few nodes
pub listed-counted : (lines : List ChangeLine) → All IsSmall lines → CanBeCounted lines
listed-counted lines small i d within = let few = (small i d within).0 in omega arith
