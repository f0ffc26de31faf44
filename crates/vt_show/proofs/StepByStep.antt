use Rattle.std.proofs.Common.{◌≡◌, ℕ, zero, suc, ◌<◌, ◌≤◌, ◌==◌, true, false, List, [], ◌∷◌, length, codes, refl, ap, ◌∙◌, arith, eqb-true, true≢false, Some, None}
use Rattle.std.proofs.lemmas.List.{nil_from_length}
use Rattle.vt_type.specs.declared.head.Head.TheVariants.{Pair, Fun}
use Rattle.vt_type.specs.declared.vtype.VType.{VType}
use Rattle.vt_show.specs.declared.reader.Miss.{Miss}
use Rattle.vt_show.specs.declared.reader.Miss.TheVariants.{NotSpelled, Memory}
use Rattle.vt_show.specs.Misses.{IfNotSpelled}
use Rattle.vt_show.specs.Steps.{Step, after, word_at, dim_at, two, list_with, inside_with, choice_with, atom_with, pair_with, type_at, at_end, type_of}

-- What the steps of the reader make of the steps within them.

-- what follows where nothing was spelled
misses_too : (P Q : Type 0) (miss : Miss) → (P → Q) → IfNotSpelled P miss → IfNotSpelled Q miss
misses_too P Q NotSpelled f h = f h
misses_too P Q (Memory error) f h = tt

module _ (dims : List (List ℕ)) (text : List ℕ) where
  -- a choice, where no other sign is there
  pub atom_choice : (read : List ℕ → Step) (rest : List ℕ) → None ≡ word_at text → None ≡ after (codes "[") text → None ≡ after (codes "(") text → Some rest ≡ after (codes "@") text
      → atom_with dims read text ≡ choice_with dims read rest
  atom_choice read rest no_word no_list no_inside sign = rw (← no_word, ← no_list, ← no_inside, ← sign) refl

  -- forms whose first type is not there
  module _ (read : List ℕ → Step) (miss : Miss) where
    pub list_miss : IfNotSpelled (read text ≡ None) miss → IfNotSpelled (list_with dims read text ≡ None) miss
    list_miss h = misses_too _ _ miss (λ e. rw e refl) h

    pub inside_miss : IfNotSpelled (read text ≡ None) miss → IfNotSpelled (inside_with dims read text ≡ None) miss
    inside_miss h = misses_too _ _ miss (λ e. rw e refl) h

    pub pair_miss : IfNotSpelled (atom_with dims read text ≡ None) miss → IfNotSpelled (pair_with dims read text ≡ None) miss
    pair_miss h = misses_too _ _ miss (λ e. rw e refl) h

    -- an alternative of a choice that is not there
    pub left_miss : (dim : ℕ) (rest : List ℕ) → dim_at dims text ≡ Some (dim, rest) → IfNotSpelled (read rest ≡ None) miss → IfNotSpelled (choice_with dims read text ≡ None) miss
    left_miss dim rest found h =
        let gone : read rest ≡ None → choice_with dims read text ≡ None = λ e. rw (found, e) refl in misses_too _ _ miss gone h

    pub right_miss : (dim : ℕ) (rest : List ℕ) (left : VType) (middle back : List ℕ) → dim_at dims text ≡ Some (dim, rest) → read rest ≡ Some (left, middle) → after (codes ", ") middle ≡ Some back
        → IfNotSpelled (read back ≡ None) miss → IfNotSpelled (choice_with dims read text ≡ None) miss
    right_miss dim rest left middle back found first comma h =
        let gone : read back ≡ None → choice_with dims read text ≡ None = λ e. rw (found, first, comma, e) refl in misses_too _ _ miss gone h

  module _ (read : List ℕ → Step) (left : VType) (rest : List ℕ) (is : atom_with dims read text ≡ Some (left, rest)) where
    -- an atom with no star after it, and one with a star
    pub pair_alone : None ≡ after (codes " * ") rest → pair_with dims read text ≡ Some (left, rest)
    pair_alone alone = rw (is, ← alone) refl

    pub pair_both : (back : List ℕ) (right : VType) (end : List ℕ) → Some back ≡ after (codes " * ") rest → atom_with dims read back ≡ Some (right, end)
        → pair_with dims read text ≡ Some (two Pair left right, end)
    pair_both back right end sign next = rw (is, ← sign, next) refl

    pub pair_right_miss : (miss : Miss) (back : List ℕ) → Some back ≡ after (codes " * ") rest → IfNotSpelled (atom_with dims read back ≡ None) miss → IfNotSpelled (pair_with dims read text ≡ None) miss
    pair_right_miss miss back sign next =
        let gone : atom_with dims read back ≡ None → pair_with dims read text ≡ None = λ e. rw (is, ← sign, e) refl in misses_too _ _ miss gone next

  -- an arrow's left side, where there is none
  pub arrow_miss : (miss : Miss) (fuel : ℕ) → length text < fuel
      → ((fuel : ℕ) → length text ≤ fuel → IfNotSpelled (pair_with dims (type_at dims fuel) text ≡ None) miss) → IfNotSpelled (type_at dims fuel text ≡ None) miss
  arrow_miss miss zero room h = absurd (omega (arith, room))
  arrow_miss miss (suc fuel) room h = misses_too _ _ miss (λ e. rw e refl) (h fuel (omega (arith, room)))

  module _ (from : VType) (rest : List ℕ) (is : (fuel : ℕ) → length text ≤ fuel → pair_with dims (type_at dims fuel) text ≡ Some (from, rest)) where
    pub arrow_alone : (fuel : ℕ) → length text < fuel → None ≡ after (codes " -> ") rest → type_at dims fuel text ≡ Some (from, rest)
    arrow_alone zero room alone = absurd (omega (arith, room))
    arrow_alone (suc fuel) room alone = rw (is fuel (omega (arith, room)), ← alone) refl

    module _ (back : List ℕ) (sign : Some back ≡ after (codes " -> ") rest) (shorter : length back < length text) where
      pub arrow_both : (to : VType) (end : List ℕ) (fuel : ℕ) → length text < fuel → ((fuel : ℕ) → length back < fuel → type_at dims fuel back ≡ Some (to, end))
          → type_at dims fuel text ≡ Some (two Fun from to, end)
      arrow_both to end zero room next = absurd (omega (arith, room))
      arrow_both to end (suc fuel) room next = rw (is fuel (omega (arith, room)), ← sign, next fuel (omega (arith, room, shorter))) refl

      pub arrow_right_miss : (miss : Miss) (fuel : ℕ) → length text < fuel → ((fuel : ℕ) → length back < fuel → IfNotSpelled (type_at dims fuel back ≡ None) miss)
          → IfNotSpelled (type_at dims fuel text ≡ None) miss
      arrow_right_miss miss zero room next = absurd (omega (arith, room))
      arrow_right_miss miss (suc fuel) room next =
          misses_too _ _ miss (λ e. rw (is fuel (omega (arith, room)), ← sign, e) refl) (next fuel (omega (arith, room, shorter)))

  -- the whole of a text
  pub whole_miss : (miss : Miss) → ((fuel : ℕ) → length text < fuel → IfNotSpelled (type_at dims fuel text ≡ None) miss) → IfNotSpelled (type_of dims text ≡ None) miss
  whole_miss miss h =
      let gone : type_at dims (suc (length text)) text ≡ None → type_of dims text ≡ None = λ e. rw e refl in
      misses_too _ _ miss gone (h (suc (length text)) (omega arith))

  module _ (type : VType) (rest : List ℕ) (is : (fuel : ℕ) → length text < fuel → type_at dims fuel text ≡ Some (type, rest)) where
    ended : type_of dims text ≡ at_end type rest
    ended = rw (is (suc (length text)) (omega arith)) refl

    pub whole_ended : (length rest == 0) ≡ true → type_of dims text ≡ Some type
    whole_ended none = ended ∙ ap (at_end type) (nil_from_length rest (eqb-true (length rest) 0 none))

    pub whole_goes_on : (length rest == 0) ≡ false → type_of dims text ≡ None
    whole_goes_on some = ended ∙ by rest some
      where
        by : (rest : List ℕ) → (length rest == 0) ≡ false → at_end type rest ≡ None
        by [] h = absurd (true≢false h)
        by (byte ∷ rest) h = refl
