use Rattle.std.proofs.Common.{◌≡◌, ℕ, zero, suc, ◌+◌, ◌-◌, ◌*◌, ◌/◌, ◌%◌, ◌^◌, ◌<◌, ◌≤◌, ◌≢◌, Bool, true, false, Some, eqb, cond, min, max, ◌&&◌, ◌||◌, List, [], ◌∷◌, ◌++◌, length, get_or, set, drop, replicate, slice_get, bit_and, bit_or, count_ones, count_by, Fits, refl, ap, sym, ◌∙◌, inl, inr, arith}
use Rattle.std.proofs.lemmas.Bool.{cases_lt, cases_eq}
use Rattle.std.proofs.lemmas.Grind.{common_steps}
use Rattle.std.proofs.lemmas.List.{length-append, ext_get_or, length-set, length-replicate, get_or-replicate, get_or_append_left, get_or-append_right, get_or-set_same, get_or-set_other, set-append_left, set-append_right, set_past, get_or_past, map-id, drop_more, at_drop_all, replicate-append-replicate}
use Rattle.std.proofs.lemmas.List.Sums.{sum_by-append}
use Rattle.std.proofs.lemmas.Nat.Bits.{bit_at_lowest, bit_at-suc, bit_at-zero, shr_and_one, bit_at_and, bit_at_or, bit_at-lt, bit_at_set_same, bit_at_set_other, bit_at_clear_same, bit_at_clear_other}
use Rattle.std.proofs.lemmas.Option.{slice_get-get_or}
use Rattle.std.proofs.lemmas.Simd.{ones-mask_l, length-zip2, get_or-zip2}
use Rattle.std.proofs.Math.Facts.{Fits-and, Fits-or}
use mir.Val.{bits}
use Rattle.std.specs.Int.{bit_at, bit_not, w64}
use lib.Lanes.{mask_l, zip2}
use Rattle.vt_dec.specs.Words.{bits_of, members, words_of, AreWords}
use Rattle.vt_dec.specs.Inverse.{length-bits_of, mask_l-bits_of, words_of-members}

-- ---- one word

pub get_or-bits_of : (n word i : ℕ) → i < n → get_or (bits_of n word) i false ≡ eqb (bit_at word i) 1
unfolding bits_of
get_or-bits_of zero word i within = absurd (omega arith)
get_or-bits_of (suc n) word zero within = ap (λ bit. eqb bit 1) (sym (bit_at_lowest word))
get_or-bits_of (suc n) word (suc i) within =
    get_or-bits_of n (word / 2) i (omega arith) ∙ ap (λ bit. eqb bit 1) (sym (bit_at-suc word i))

pub count_by-bits_of : (n word : ℕ) → word < 2 ^ n → count_by (λ bit. bit) (bits_of n word) ≡ count_ones word
count_by-bits_of n word fits =
    sym (ones-mask_l (λ bit. bit) (bits_of n word)) ∙ ap (λ bits. count_ones (mask_l bits)) (map-id (bits_of n word))
    ∙ ap count_ones (mask_l-bits_of n word fits)

-- a word that has these bits
pub bits_of_same : (n word : ℕ) (bits : List Bool) → length bits ≡ n → ((i : ℕ) → i < n → eqb (bit_at word i) 1 ≡ get_or bits i false) → bits_of n word ≡ bits
bits_of_same n word bits long same =
    ext_get_or false (bits_of n word) bits (length-bits_of n word ∙ sym long) (λ i within.
    let low : i < n = omega (arith, within, length-bits_of n word) in get_or-bits_of n word i low ∙ same i low)

-- ---- many words

pub length-members : (words : List ℕ) → length (members words) ≡ 64 * length words
unfolding members
length-members [] = refl
length-members (word ∷ words) =
    omega (arith, length-append (bits_of 64 word) (members words), length-bits_of 64 word, length-members words)

pub get_or-members : (words : List ℕ) (dim : ℕ) → dim < 64 * length words → get_or (members words) dim false ≡ eqb (bit_at (get_or words (dim / 64) 0) (dim % 64)) 1
unfolding members
get_or-members [] dim within = absurd (omega arith)
get_or-members (word ∷ words) dim within =
    elim (cases_lt dim 64) [
      | inl low ↦
          let first : dim / 64 ≡ 0 = omega arith in
          let offset : dim % 64 ≡ dim = omega arith in
          get_or_append_left (bits_of 64 word) (members words) false dim (omega (arith, length-bits_of 64 word))
          ∙ get_or-bits_of 64 word dim low
          ∙ sym (λ k. eqb (bit_at (get_or (word ∷ words) (first k) 0) (offset k)) 1)
      | inr high ↦
          let later : dim / 64 ≡ suc ((dim - 64) / 64) = omega arith in
          let offset : dim % 64 ≡ (dim - 64) % 64 = omega arith in
          get_or-append_right (bits_of 64 word) (members words) 64 dim false (length-bits_of 64 word) high
          ∙ get_or-members words (dim - 64) (omega arith)
          ∙ sym (λ k. eqb (bit_at (get_or (word ∷ words) (later k) 0) (offset k)) 1)
    ]

pub members-replicate : (n : ℕ) → members (replicate n 0) ≡ replicate (64 * n) false
unfolding members
members-replicate zero = refl
members-replicate (suc n) =
    let none : bits_of 64 0 ≡ replicate 64 false =
    bits_of_same 64 0 (replicate 64 false) (length-replicate 64 false) (λ i within.
    ap (λ bit. eqb bit 1) (bit_at-zero i) ∙ sym (get_or-replicate 64 i false false within))
    in
    let more : 64 * suc n ≡ 64 + 64 * n = omega arith in
    (λ k. none k ++ members-replicate n k) ∙ replicate-append-replicate 64 (64 * n) false ∙ ap (λ m. replicate m false) (sym more)

-- a write of one word that changes its bit at a offset to this one
pub record ChangesBit (old new offset : ℕ) (bit : Bool) : Type 0 where
  pub at : eqb (bit_at new offset) 1 ≡ bit
  pub others : (i : ℕ) → i < 64 → i ≢ offset → bit_at new i ≡ bit_at old i

bits_of_changed : (old new offset : ℕ) (bit : Bool) → offset < 64 → ChangesBit old new offset bit → bits_of 64 new ≡ set (bits_of 64 old) offset bit
bits_of_changed old new offset bit within changes =
    bits_of_same 64 new (set (bits_of 64 old) offset bit) (length-set (bits_of 64 old) offset bit ∙ length-bits_of 64 old) (λ i low.
    elim (cases_eq i offset) [
      | inl here ↦
          (λ k. eqb (bit_at new (here k)) 1) ∙ changes.at
          ∙ sym ((λ k. get_or (set (bits_of 64 old) offset bit) (here k) false) ∙ get_or-set_same (bits_of 64 old) offset bit false (omega (arith, length-bits_of 64 old)))
      | inr there ↦
          ap (λ b. eqb b 1) (changes.others i low there) ∙ sym (get_or-bits_of 64 old i low)
          ∙ sym (get_or-set_other (bits_of 64 old) offset i bit false there)
    ])

pub members-set : (words : List ℕ) (at offset new : ℕ) (bit : Bool) → at < length words → offset < 64 → ChangesBit (get_or words at 0) new offset bit
    → members (set words at new) ≡ set (members words) (64 * at + offset) bit
unfolding members
members-set [] at offset new bit inside within changes = absurd (omega arith)
members-set (word ∷ words) zero offset new bit inside within changes =
    let here : 64 * 0 + offset ≡ offset = omega arith in
    ap (λ bits. bits ++ members words) (bits_of_changed word new offset bit within changes)
    ∙ sym (set-append_left (bits_of 64 word) (members words) offset bit (omega (arith, length-bits_of 64 word)))
    ∙ ap (λ p. set (members (word ∷ words)) p bit) (sym here)
members-set (word ∷ words) (suc at) offset new bit inside within changes =
    let back : (64 * suc at + offset) - 64 ≡ 64 * at + offset = omega arith in
    ap (λ rest. bits_of 64 word ++ rest) (members-set words at offset new bit (omega arith) within changes)
    ∙ ap (λ p. bits_of 64 word ++ set (members words) p bit) (sym back)
    ∙ sym (set-append_right (bits_of 64 word) (members words) 64 (64 * suc at + offset) bit (length-bits_of 64 word) (omega arith))

-- ---- the bit of one dimension

pub slice_get-members : (words : List ℕ) (dim : ℕ) → dim < 64 * length words
    → slice_get (members words) dim ≡ Some (eqb (bit_and (get_or words (dim / 64) 0 / 2 ^ (dim % 64)) 1) 1)
slice_get-members words dim within =
    slice_get-get_or (members words) dim false (omega (arith, length-members words))
    ∙ ap Some (get_or-members words dim within ∙ ap (λ bit. eqb bit 1) (sym (shr_and_one (get_or words (dim / 64) 0) (dim % 64))))

members-set_at : (words : List ℕ) (dim new : ℕ) (bit : Bool) → dim < 64 * length words → ChangesBit (get_or words (dim / 64) 0) new (dim % 64) bit
    → members (set words (dim / 64) new) ≡ set (members words) dim bit
members-set_at words dim new bit within changes =
    let whole : 64 * (dim / 64) + dim % 64 ≡ dim = omega arith in
    members-set words (dim / 64) (dim % 64) new bit (omega arith) (omega arith) changes ∙ ap (λ d. set (members words) d bit) whole

-- the word with the bit at a offset set
abbrev pub with_bit : ℕ → ℕ → ℕ
with_bit word offset = bit_or word (1 * 2 ^ offset % 2 ^ bits w64)

-- the word with the bit at a offset cleared
abbrev pub with_no_bit : ℕ → ℕ → ℕ
with_no_bit word offset = bit_and word (bit_not w64 (1 * 2 ^ offset % 2 ^ bits w64))

pub members-set_with_bit : (words : List ℕ) (dim : ℕ) → dim < 64 * length words
    → members (set words (dim / 64) (with_bit (get_or words (dim / 64) 0) (dim % 64))) ≡ set (members words) dim true
members-set_with_bit words dim within =
    let word = get_or words (dim / 64) 0 in
    let low : dim % 64 < bits w64 = omega arith in
    members-set_at words dim _ true within (record {
      at = ap (λ bit. eqb bit 1) (bit_at_set_same w64 word (dim % 64) low);
      others = λ i inside other. bit_at_set_other w64 word (dim % 64) low i other;
    })

pub members-set_with_no_bit : (words : List ℕ) (dim : ℕ) → dim < 64 * length words
    → members (set words (dim / 64) (with_no_bit (get_or words (dim / 64) 0) (dim % 64))) ≡ set (members words) dim false
members-set_with_no_bit words dim within =
    let word = get_or words (dim / 64) 0 in
    let low : dim % 64 < bits w64 = omega arith in
    members-set_at words dim _ false within (record {
      at = ap (λ bit. eqb bit 1) (bit_at_clear_same w64 word (dim % 64) low);
      others = λ i inside other. bit_at_clear_other w64 word (dim % 64) low i inside other;
    })

pub AreWords-set : (n : ℕ) (words : List ℕ) (at new : ℕ) → AreWords n words → Fits w64 new → AreWords n (set words at new)
AreWords-set n words at new held fits = record {
  long = length-set words at new ∙ held.long;
  fit = λ k. elim (cases_eq k at) [
    | inl here ↦ elim (cases_lt at (length words)) [
      | inl inside ↦ rw (here, get_or-set_same words at new 0 inside) fits
      | inr past ↦ rw (set_past words at new past) (held.fit k)
    ]
    | inr other ↦ rw (get_or-set_other words at k new 0 other) (held.fit k)
  ];
}

pub Fits-with_bit : (word offset : ℕ) → Fits w64 word → Fits w64 (with_bit word offset)
Fits-with_bit word offset fits = let power : Fits w64 (1 * 2 ^ offset % 2 ^ bits w64) = record { fits = omega arith } in Fits-or fits power

-- ---- how many

-- how many bits of the words are set
abbrev pub size_of : List ℕ → ℕ
size_of words = count_by (λ bit. bit) (members words)

pub size_of_more : (n : ℕ) (words : List ℕ) → AreWords n words → (i : ℕ) → i < length words → size_of (drop i words) ≡ count_ones (get_or words i 0) + size_of (drop (i + 1) words)
unfolding members
size_of_more n words held i within =
    let word = get_or words i 0 in
    ap size_of (drop_more words i 0 within) ∙ sum_by-append (λ bit. cond bit 1 0) (bits_of 64 word) (members (drop (i + 1) words))
    ∙ ap (λ m. m + size_of (drop (i + 1) words)) (count_by-bits_of 64 word (held.fit i).fits)

pub size_of_all : (words : List ℕ) (i : ℕ) → length words ≤ i → size_of (drop i words) ≡ 0
unfolding members
size_of_all words i past = at_drop_all size_of words i past

-- ---- two lists of words

zip2-append : {A B C : Type 0} (f : A → B → C) (xs cs : List A) (ys ds : List B) → length xs ≡ length ys → zip2 f (xs ++ cs) (ys ++ ds) ≡ zip2 f xs ys ++ zip2 f cs ds
zip2-append f [] cs [] ds long = refl
zip2-append f [] cs (y ∷ ys) ds long = absurd (omega arith)
zip2-append f (x ∷ xs) cs [] ds long = absurd (omega arith)
zip2-append f (x ∷ xs) cs (y ∷ ys) ds long = ap (λ rest. f x y ∷ rest) (zip2-append f xs cs ys ds (omega arith))

-- the operation on words that does this to each of their bits
pub record IsBitwise (op : ℕ → ℕ → ℕ) (f : Bool → Bool → Bool) : Type 0 where
  pub each : (one other i : ℕ) → eqb (bit_at (op one other) i) 1 ≡ f (eqb (bit_at one i) 1) (eqb (bit_at other i) 1)
  pub fits : (one other : ℕ) → Fits w64 one → Fits w64 other → Fits w64 (op one other)

pub members-zip2 : (op : ℕ → ℕ → ℕ) (f : Bool → Bool → Bool) → IsBitwise op f → (ones others : List ℕ) → length ones ≡ length others
    → members (zip2 op ones others) ≡ zip2 f (members ones) (members others)
unfolding members
members-zip2 op f is [] [] long = refl
members-zip2 op f is [] (other ∷ others) long = absurd (omega arith)
members-zip2 op f is (one ∷ ones) [] long = absurd (omega arith)
members-zip2 op f is (one ∷ ones) (other ∷ others) long =
    let same : length (bits_of 64 one) ≡ length (bits_of 64 other) = omega (arith, length-bits_of 64 one, length-bits_of 64 other) in
    let first : bits_of 64 (op one other) ≡ zip2 f (bits_of 64 one) (bits_of 64 other) =
    bits_of_same 64 (op one other) _ (length-zip2 f (bits_of 64 one) (bits_of 64 other) same ∙ length-bits_of 64 one) (λ i low.
    is.each one other i
    ∙ sym ((λ k. f (get_or-bits_of 64 one i low k) (get_or-bits_of 64 other i low k)))
    ∙ sym (get_or-zip2 f (bits_of 64 one) (bits_of 64 other) i false false false (omega (arith, length-bits_of 64 one)) (omega (arith, length-bits_of 64 other))))
    in
    (λ k. first k ++ members-zip2 op f is ones others (omega arith) k) ∙ sym (zip2-append f (bits_of 64 one) (members ones) (bits_of 64 other) (members others) same)

min_bits : (m n : ℕ) → m < 2 → n < 2 → eqb (min m n) 1 ≡ eqb m 1 && eqb n 1
min_bits m n low small = grind (arith, common_steps)

max_bits : (m n : ℕ) → m < 2 → n < 2 → eqb (max m n) 1 ≡ eqb m 1 || eqb n 1
max_bits m n low small = grind (arith, common_steps)

pub bit_and_IsBitwise : IsBitwise bit_and (λ one other. one && other)
bit_and_IsBitwise = record { each = λ one other i. ap (λ bit. eqb bit 1) (bit_at_and one other i) ∙ min_bits _ _ (bit_at-lt one i) (bit_at-lt other i); fits = λ one other a b. Fits-and other a }

pub bit_or_IsBitwise : IsBitwise bit_or (λ one other. one || other)
bit_or_IsBitwise = record { each = λ one other i. ap (λ bit. eqb bit 1) (bit_at_or one other i) ∙ max_bits _ _ (bit_at-lt one i) (bit_at-lt other i); fits = λ one other a b. Fits-or a b }

-- ones, others and words are n words each
module _ (op : ℕ → ℕ → ℕ) (f : Bool → Bool → Bool) (is : IsBitwise op f) (n : ℕ) (ones others words : List ℕ) (a : AreWords n ones) (b : AreWords n others) (c : AreWords n words) where
  pub members_of_zip : ((k : ℕ) → k < n → get_or words k 0 ≡ op (get_or ones k 0) (get_or others k 0)) → zip2 f (members ones) (members others) ≡ members words
  members_of_zip same =
      let long : length ones ≡ length others = a.long ∙ sym b.long in
      let zipped : words ≡ zip2 op ones others =
      ext_get_or 0 words (zip2 op ones others) (omega (arith, a.long, b.long, c.long, length-zip2 op ones others long)) (λ k within.
      same k (omega (arith, c.long)) ∙ sym (get_or-zip2 op ones others k 0 0 0 (omega (arith, a.long, c.long)) (omega (arith, b.long, c.long))))
      in
      sym (members-zip2 op f is ones others long) ∙ ap members (sym zipped)

  pub zip_of_members : zip2 f (members ones) (members others) ≡ members words → (k : ℕ) → k < n → op (get_or ones k 0) (get_or others k 0) ≡ get_or words k 0
  zip_of_members same k within =
      let long : length ones ≡ length others = a.long ∙ sym b.long in
      let zipped = zip2 op ones others in
      let held : AreWords n zipped = record {
        long = length-zip2 op ones others long ∙ a.long;
        fit = λ i. elim (cases_lt i n) [
          | inl inside ↦ rw (get_or-zip2 op ones others i 0 0 0 (omega (arith, a.long)) (omega (arith, b.long))) (is.fits _ _ (a.fit i) (b.fit i))
          | inr past ↦ rw (get_or_past zipped i 0 (omega (arith, a.long, length-zip2 op ones others long))) (record { fits = omega arith })
        ];
      } in
      let back : zipped ≡ words =
      sym (words_of-members n zipped held) ∙ ap (words_of n) (members-zip2 op f is ones others long ∙ same) ∙ words_of-members n words c
      in
      sym (get_or-zip2 op ones others k 0 0 0 (omega (arith, a.long)) (omega (arith, b.long))) ∙ ap (λ ws. get_or ws k 0) back
