use Rattle.std.proofs.Common.{◌≡◌, ◌⊎◌, ℕ, zero, suc, List, [], ◌∷◌, ◌++◌, take, length, refl, ap, sym, subst, ◌∙◌, append_assoc, take-append-drop, codes, Option, Some, None, inl, inr}
use Rattle.std.proofs.lemmas.List.{append-nil}
use Rattle.std.proofs.lemmas.Option.{same_Some, none-some, option_and_then_some}
use Rattle.vt_type.specs.declared.head.Head.TheVariants.{Int, Bool as Truth, Text, List as ListOf, Pair, Fun}
use Rattle.vt_type.specs.declared.vtype.VType.{VType, Var, Con, Err}
use Rattle.vt_type.specs.declared.vtype.VKids.{Nil}
use Rattle.vt_type.specs.Variational.{choice}
use Rattle.vt_show.specs.Reading.{Spells, int, bool, string, error, variable, list, parentheses, either, pair, one_atom, arrow, no_arrow}
use Rattle.vt_show.specs.Steps.{Step, or_else, after, dim_at, letter_length, letter_at, word_at, one, two, list_with, inside_with, choice_with, atom_with, pair_with, arrow_with, type_at, at_end, type_of}
use Rattle.vt_show.proofs.Signs.{after-read, dim_at-read}
use Rattle.vt_show.proofs.LetterTexts.{letter_length-read}
use Rattle.vt_show.proofs.SpelledIsRead.{lettered}

-- What is read from a text is spelled by it.

-- what follows from a value, or what stands in its place
or_else_cases : {A B : Type 0} (o : Option A) (f : A → B) (other y : B) → or_else o f other ≡ y → ((x : A) × (o ≡ Some x) × (f x ≡ y)) ⊎ (other ≡ y)
or_else_cases (Some x) f other y h = inl (x, refl, h)
or_else_cases None f other y h = inr h

-- The text begins with this front, and the rest comes after it.
record Begins (text front rest : List ℕ) : Type 0 where
  same : text ≡ front ++ rest

begins_with : (front rest : List ℕ) → Begins (front ++ rest) front rest
begins_with front rest = record { same = refl }

begins_with_more : {text front rest part more : List ℕ} → Begins text front rest → Begins rest part more → Begins text (front ++ part) more
begins_with_more {text} {front} {rest} {part} {more} e f = record { same = e.same ∙ ap (λ t. front ++ t) f.same ∙ sym (append_assoc front part more) }

begins_with_sign : (sign text rest : List ℕ) → after sign text ≡ Some rest → Begins text sign rest
begins_with_sign sign text rest h = record { same = after-read sign text rest h }

module _ (dims : List (List ℕ)) where
  -- what is found spells a type at the front of the text
  abbrev IsFront : ℕ → List ℕ → VType × List ℕ → Type 0
  IsFront level text found =
      (front : List ℕ) × (type : VType) × Spells dims level front type × Begins text front found.1 × (found.0 ≡ lettered type)

  word-read : (text word rest : List ℕ) (type : VType) (found : VType × List ℕ) → Spells dims 2 word type → type ≡ lettered type → after word text ≡ Some rest → Some (type, rest) ≡ Some found → IsFront 2 text found
  word-read text word rest type found spelled same e h =
      rw (← same_Some _ _ h) (word, type, spelled, begins_with_sign word text rest e, same)

  word_at-read : (text : List ℕ) (found : VType × List ℕ) → word_at text ≡ Some found → IsFront 2 text found
  word_at-read text found h = elim (or_else_cases (after (codes "Int") text) _ _ (Some found) h) [
    | inl w ↦ word-read text (codes "Int") w.0 (Con Int Nil) found int refl w.1 w.2
    | inr h ↦ elim (or_else_cases (after (codes "Bool") text) _ _ (Some found) h) [
      | inl w ↦ word-read text (codes "Bool") w.0 (Con Truth Nil) found bool refl w.1 w.2
      | inr h ↦ elim (or_else_cases (after (codes "String") text) _ _ (Some found) h) [
        | inl w ↦ word-read text (codes "String") w.0 (Con Text Nil) found string refl w.1 w.2
        | inr h ↦ elim (or_else_cases (after (codes "!") text) _ _ (Some found) h) [
          | inl w ↦ word-read text (codes "!") w.0 Err found error refl w.1 w.2
          | inr h ↦ absurd (none-some found h)
        ]
      ]
    ]
  ]

  letter_at-read : (text : List ℕ) (found : VType × List ℕ) → letter_at text ≡ Some found → IsFront 2 text found
  letter_at-read text found h =
      option_and_then_some _ (letter_length text) found h (λ n read is.
      let letter = letter_length-read text n read in
      rw (← same_Some _ _ is) (take n text, Var (letter.0 ∷ []), rw letter.1 (variable letter.0), record { same = sym (take-append-drop n text) }, ap Var letter.1))

  module _ (read : List ℕ → Step) (sound : (text : List ℕ) (found : VType × List ℕ) → read text ≡ Some found → IsFront 0 text found) where
    list_with-read : (text : List ℕ) (found : VType × List ℕ) → list_with dims read text ≡ Some found → IsFront 2 (91 ∷ text) found
    list_with-read text found h =
        option_and_then_some _ (read text) found h (λ item e1 h1.
        option_and_then_some _ (after (codes "]") item.1) found h1 (λ rest e2 h2.
        let inner = sound text item e1 in
        let order = begins_with_more (begins_with_more (begins_with (codes "[") text) inner.3) (begins_with_sign (codes "]") item.1 rest e2) in
        rw (← same_Some _ _ h2) (codes "[" ++ inner.0 ++ codes "]", one ListOf inner.1, list inner.0 inner.1 inner.2, order, ap (one ListOf) inner.4)))

    inside_with-read : (text : List ℕ) (found : VType × List ℕ) → inside_with dims read text ≡ Some found → IsFront 2 (40 ∷ text) found
    inside_with-read text found h =
        option_and_then_some _ (read text) found h (λ type e1 h1.
        option_and_then_some _ (after (codes ")") type.1) found h1 (λ rest e2 h2.
        let inner = sound text type e1 in
        let order = begins_with_more (begins_with_more (begins_with (codes "(") text) inner.3) (begins_with_sign (codes ")") type.1 rest e2) in
        rw (← same_Some _ _ h2) (codes "(" ++ inner.0 ++ codes ")", inner.1, parentheses inner.0 inner.1 inner.2, order, inner.4)))

    choice_with-read : (text : List ℕ) (found : VType × List ℕ) → choice_with dims read text ≡ Some found → IsFront 2 (64 ∷ text) found
    choice_with-read text found h =
        option_and_then_some _ (dim_at dims text) found h (λ dim e1 h1.
        option_and_then_some _ (read dim.1) found h1 (λ left e2 h2.
        option_and_then_some _ (after (codes ", ") left.1) found h2 (λ middle e3 h3.
        option_and_then_some _ (read middle) found h3 (λ right e4 h4.
        option_and_then_some _ (after (codes "}") right.1) found h4 (λ rest e5 h5.
        let name = dim_at-read dims text dim e1 in
        let first = sound dim.1 left e2 in
        let second = sound middle right e4 in
        let front = codes "@" ++ name.0 ++ codes "{" ++ first.0 ++ codes ", " ++ second.0 ++ codes "}" in
        let named = begins_with_more (begins_with (codes "@") text) (record { same = name.2 }) in
        let opened = begins_with_more named (begins_with (codes "{") dim.1) in
        let half = begins_with_more (begins_with_more opened first.3) (begins_with_sign (codes ", ") left.1 middle e3) in
        let order = begins_with_more (begins_with_more half second.3) (begins_with_sign (codes "}") right.1 rest e5) in
        let spelled = either dim.0 name.0 first.0 second.0 first.1 second.1 name.1 first.2 second.2 in
        rw (← same_Some _ _ h5) (front, choice dim.0 first.1 second.1, spelled, order, λ j. choice dim.0 (first.4 j) (second.4 j)))))))

    signed : (sign text : List ℕ) (step : List ℕ → Step) (found : VType × List ℕ)
        → ((text : List ℕ) (found : VType × List ℕ) → step text ≡ Some found → IsFront 2 (sign ++ text) found)
        → (rest : List ℕ) → after sign text ≡ Some rest → step rest ≡ Some found → IsFront 2 text found
    signed sign text step found step-read rest e h = rw (after-read sign text rest e) (step-read rest found h)

    atom_with-read : (text : List ℕ) (found : VType × List ℕ) → atom_with dims read text ≡ Some found → IsFront 2 text found
    atom_with-read text found h = elim (or_else_cases (word_at text) _ _ (Some found) h) [
      | inl w ↦ word_at-read text found (w.1 ∙ w.2)
      | inr h ↦ elim (or_else_cases (after (codes "[") text) _ _ (Some found) h) [
        | inl w ↦ signed (codes "[") text (list_with dims read) found list_with-read w.0 w.1 w.2
        | inr h ↦ elim (or_else_cases (after (codes "(") text) _ _ (Some found) h) [
          | inl w ↦ signed (codes "(") text (inside_with dims read) found inside_with-read w.0 w.1 w.2
          | inr h ↦ elim (or_else_cases (after (codes "@") text) _ _ (Some found) h) [
            | inl w ↦ signed (codes "@") text (choice_with dims read) found choice_with-read w.0 w.1 w.2
            | inr h ↦ letter_at-read text found h
          ]
        ]
      ]
    ]

    pair_with-read : (text : List ℕ) (found : VType × List ℕ) → pair_with dims read text ≡ Some found → IsFront 1 text found
    pair_with-read text found h =
        option_and_then_some _ (atom_with dims read text) found h (λ left e1 h1.
        let first = atom_with-read text left e1 in
        elim (or_else_cases (after (codes " * ") left.1) _ _ (Some found) h1) [
          | inl w ↦ option_and_then_some _ (atom_with dims read w.0) found w.2 (λ right e2 h2.
              let second = atom_with-read w.0 right e2 in
              let order = begins_with_more (begins_with_more first.3 (begins_with_sign (codes " * ") left.1 w.0 w.1)) second.3 in
              rw (← same_Some _ _ h2) (first.0 ++ codes " * " ++ second.0, two Pair first.1 second.1, pair first.0 second.0 first.1 second.1 first.2 second.2, order, λ j. two Pair (first.4 j) (second.4 j)))
          | inr h ↦ rw (← same_Some _ _ h) (first.0, first.1, one_atom first.0 first.1 first.2, first.3, first.4)
        ])

    arrow_with-read : (text : List ℕ) (found : VType × List ℕ) → arrow_with dims read text ≡ Some found → IsFront 0 text found
    arrow_with-read text found h =
        option_and_then_some _ (pair_with dims read text) found h (λ from e1 h1.
        let first = pair_with-read text from e1 in
        elim (or_else_cases (after (codes " -> ") from.1) _ _ (Some found) h1) [
          | inl w ↦ option_and_then_some _ (read w.0) found w.2 (λ to e2 h2.
              let second = sound w.0 to e2 in
              let order = begins_with_more (begins_with_more first.3 (begins_with_sign (codes " -> ") from.1 w.0 w.1)) second.3 in
              rw (← same_Some _ _ h2) (first.0 ++ codes " -> " ++ second.0, two Fun first.1 second.1, arrow first.0 second.0 first.1 second.1 first.2 second.2, order, λ j. two Fun (first.4 j) (second.4 j)))
          | inr h ↦ rw (← same_Some _ _ h) (first.0, first.1, no_arrow first.0 first.1 first.2, first.3, first.4)
        ])

  type_at-read : (fuel : ℕ) (text : List ℕ) (found : VType × List ℕ) → type_at dims fuel text ≡ Some found → IsFront 0 text found
  type_at-read zero text found h = absurd (none-some found h)
  type_at-read (suc fuel) text found h = arrow_with-read (type_at dims fuel) (type_at-read fuel) text found h

  at_end-read : (type found : VType) (text : List ℕ) → at_end type text ≡ Some found → (text ≡ []) × (type ≡ found)
  at_end-read type found [] h = (refl, same_Some _ _ h)
  at_end-read type found (byte ∷ text) h = absurd (none-some found h)

  -- the whole of a text
  pub type_of-read : (text : List ℕ) (found : VType) → type_of dims text ≡ Some found → (type : VType) × Spells dims 0 text type × (found ≡ lettered type)
  type_of-read text found h =
      option_and_then_some _ (type_at dims (suc (length text)) text) found h (λ read e1 h1.
      let front = type_at-read (suc (length text)) text read e1 in
      let end = at_end-read read.0 found read.1 h1 in
      let whole : text ≡ front.0 = front.3.same ∙ ap (λ t. front.0 ++ t) end.0 ∙ append-nil front.0 in
      (front.1, subst (λ t. Spells dims 0 t front.1) (sym whole) front.2, sym end.1 ∙ front.4))
